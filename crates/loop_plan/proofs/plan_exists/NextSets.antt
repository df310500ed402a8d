-- The set that gets owners next, and they.
use Rattle.std.proofs.Common.{◌≡◌, ◌<◌, ℕ, Bool, true, false, not, cond, List, length, get_or, sym, ◌∙◌, subst, ⊎_elim, inl, inr, ◌⊎◌}
use Rattle.std.proofs.lemmas.Bool.{cases_Bool, and_parts}
use Rattle.mesh_decl.specs.Mesh.{MeshValue, set_count, map_count, set_size, map_from, map_to}
use Rattle.lemmas.specs.Below.{any_below}
use Rattle.partition.specs.Block.{InBlock}
use Rattle.partition.specs.Elected.{IsElected, target_votes, naming_votes, is_named}
use Rattle.partition.specs.Derive.{IsFirst, IsNextSet, can_follow_targets, can_follow_names, leads_to_known, leads_from_known}
use Rattle.loop_plan.proofs.plan_exists.Built.{table, length_table, table_at}
use Rattle.loop_plan.proofs.plan_exists.Firsts.{first, greatest}
use Rattle.loop_plan.proofs.plan_exists.Blocks.{block_of, in_block, block_below, block_list, length_block, block_at}

module _ (ranks : ℕ) (some : 0 < ranks) where
  chosen : (ℕ → ℕ) → ℕ
  chosen votes = (greatest ranks votes some).0

  chosen_is : (votes : ℕ → ℕ) → IsElected ranks votes (chosen votes)
  unfolding chosen
  chosen_is votes = (greatest ranks votes some).1

  module _ (g : MeshValue) (owners : ℕ → List ℕ) (known : ℕ → Bool) where
    -- a set that gets owners, and they
    pub record Next : Type 0 where
      pub set : ℕ
      pub list : List ℕ
      pub is : IsNextSet g ranks owners known set list
      pub count : length list ≡ set_size g set
      pub below : (x : ℕ) → x < set_size g set → get_or list x 0 < ranks

    module _ (m s : ℕ) where
      by_target : ℕ → ℕ
      by_target x = chosen (target_votes g (owners (map_to g m)) m x)

      by_name : ℕ → ℕ
      by_name x = cond (is_named g m x) (chosen (naming_votes g (owners (map_from g m)) m x)) (block_of ranks some (set_size g s) x)

      named_below : (x : ℕ) → x < set_size g s → by_name x < ranks
      unfolding by_name
      named_below x l = ⊎_elim
          (λ (h : is_named g m x ≡ true). rw h (chosen_is (naming_votes g (owners (map_from g m)) m x)).within)
          (λ (h : is_named g m x ≡ false). rw h (block_below ranks some (set_size g s) x l))
          (cases_Bool (is_named g m x))

      next_by_targets : IsFirst (set_count g) (can_follow_targets g known) s → IsFirst (map_count g) (leads_to_known g known s) m → Next
      unfolding by_target
      next_by_targets fs fm = record {
        set = s;
        list = table (set_size g s) by_target;
        is = inl (record {
          map = m;
          next = (fs, fm);
          elected = λ x l. subst (IsElected ranks (target_votes g (owners (map_to g m)) m x)) (sym (table_at (set_size g s) by_target x 0 l)) (chosen_is (target_votes g (owners (map_to g m)) m x));
        });
        count = length_table (set_size g s) by_target;
        below = λ x l. subst (λ z. z < ranks) (sym (table_at (set_size g s) by_target x 0 l)) (chosen_is (target_votes g (owners (map_to g m)) m x)).within;
      }

      next_by_names : any_below (set_count g) (can_follow_targets g known) ≡ false → IsFirst (set_count g) (can_follow_names g known) s → IsFirst (map_count g) (leads_from_known g known s) m → Next
      unfolding by_name
      next_by_names none fs fm = record {
        set = s;
        list = table (set_size g s) by_name;
        is = inr (inl (record {
          none = none;
          map = m;
          next = (fs, fm);
          elected = record {
            elected = λ x l h. subst (IsElected ranks (naming_votes g (owners (map_from g m)) m x)) (sym (table_at (set_size g s) by_name x 0 l))
                (rw h (chosen_is (naming_votes g (owners (map_from g m)) m x)));
            block = λ x l h. subst (λ z. InBlock (set_size g s) ranks z x) (sym (table_at (set_size g s) by_name x 0 l))
                (rw h (in_block ranks some (set_size g s) x l));
          };
        }));
        count = length_table (set_size g s) by_name;
        below = λ x l. subst (λ z. z < ranks) (sym (table_at (set_size g s) by_name x 0 l)) (named_below x l);
      }

    next_by_blocks : (s : ℕ) → any_below (set_count g) (can_follow_targets g known) ≡ false
        → any_below (set_count g) (can_follow_names g known) ≡ false → IsFirst (set_count g) (λ t. not (known t)) s → Next
    next_by_blocks s none none_names fs = record {
      set = s;
      list = block_list ranks some (set_size g s);
      is = inr (inr (record {
        none = none;
        none_names = none_names;
        set = fs;
        block = λ x l. subst (λ z. InBlock (set_size g s) ranks z x) (sym (block_at ranks some (set_size g s) x l)) (in_block ranks some (set_size g s) x l);
      }));
      count = length_block ranks some (set_size g s);
      below = λ x l. subst (λ z. z < ranks) (sym (block_at ranks some (set_size g s) x l)) (block_below ranks some (set_size g s) x l);
    }

    clash : {A : Type 0} (b : Bool) → b ≡ true → b ≡ false → A
    clash b p q = let z : true ≡ false = sym p ∙ q in cc

    -- all sets have owners, or one gets them next
    pub some_next : (any_below (set_count g) (λ t. not (known t)) ≡ false) ⊎ Next
    some_next = by_targets (first (can_follow_targets g known) (set_count g))
      where
        by_blocks : any_below (set_count g) (can_follow_targets g known) ≡ false
            → any_below (set_count g) (can_follow_names g known) ≡ false → (any_below (set_count g) (λ t. not (known t)) ≡ false)
            ⊎ ((k : ℕ) × IsFirst (set_count g) (λ t. not (known t)) k) → (any_below (set_count g) (λ t. not (known t)) ≡ false) ⊎ Next
        by_blocks none none_names (inl all) = inl all
        by_blocks none none_names (inr k) = inr (next_by_blocks k.0 none none_names k.1)

        by_names : any_below (set_count g) (can_follow_targets g known) ≡ false
            → (any_below (set_count g) (can_follow_names g known) ≡ false) ⊎ ((k : ℕ) × IsFirst (set_count g) (can_follow_names g known) k)
            → (any_below (set_count g) (λ t. not (known t)) ≡ false) ⊎ Next
        by_names none (inl none_names) = by_blocks none none_names (first (λ t. not (known t)) (set_count g))
        by_names none (inr k) = ⊎_elim
            (λ (h : any_below (map_count g) (leads_from_known g known k.0) ≡ false). clash
            (any_below (map_count g) (leads_from_known g known k.0))
            (and_parts (not (known k.0)) (any_below (map_count g) (leads_from_known g known k.0)) k.1.passes).1 h)
            (λ (m : (j : ℕ) × IsFirst (map_count g) (leads_from_known g known k.0) j). inr (next_by_names m.0 k.0 none k.1 m.1))
            (first (leads_from_known g known k.0) (map_count g))

        by_targets : (any_below (set_count g) (can_follow_targets g known) ≡ false)
            ⊎ ((k : ℕ) × IsFirst (set_count g) (can_follow_targets g known) k) → (any_below (set_count g) (λ t. not (known t)) ≡ false)
            ⊎ Next
        by_targets (inl none) = by_names none (first (can_follow_names g known) (set_count g))
        by_targets (inr k) = ⊎_elim
            (λ (h : any_below (map_count g) (leads_to_known g known k.0) ≡ false). clash
            (any_below (map_count g) (leads_to_known g known k.0))
            (and_parts (not (known k.0)) (any_below (map_count g) (leads_to_known g known k.0)) k.1.passes).1 h)
            (λ (m : (j : ℕ) × IsFirst (map_count g) (leads_to_known g known k.0) j). inr (next_by_targets m.0 k.0 k.1 m.1))
            (first (leads_to_known g known k.0) (map_count g))
