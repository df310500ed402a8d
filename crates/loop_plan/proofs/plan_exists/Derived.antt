-- Owners derived from those of one set.
use Rattle.std.proofs.Common.{◌≡◌, ◌<◌, ◌≤◌, ◌+◌, ℕ, zero, suc, Bool, true, false, not, cond, nat_eq, List, [], length, get_or, set, refl, sym, ap, ◌∙◌, subst, arith, ⊎_elim}
use Rattle.std.proofs.lemmas.Bool.{eqb-true, eq-eqb}
use Rattle.mesh_decl.specs.declared.owners.Owners.{Owners}
use Rattle.mesh_decl.specs.Mesh.{MeshValue, IsMesh, set_count, set_size}
use Rattle.mesh_decl.specs.Owners.{owners_in}
use Rattle.lemmas.specs.Below.{any_below}
use Rattle.partition.specs.Derive.{AreDerived, AreKnown}
use Rattle.partition.proofs.Public.{IsTurn, turn_init, turn_step, turn_none, turn_done, derived_one, derived_own, one_kept}
use Rattle.loop_plan.proofs.plan_exists.Built.{table, length_table, table_at, vec_of, items_are}
use Rattle.loop_plan.proofs.plan_exists.NextSets.{Next, some_next}

module _ (ranks : ℕ) (some : 0 < ranks) (few : ranks ≤ 64) (g : MeshValue) (mesh : IsMesh g) where
  -- after so many turns
  record After (known0 : ℕ → Bool) (sets0 : ℕ → List ℕ) (turn : ℕ) : Type 0 where
    items : List (List ℕ)
    known : List Bool
    is : IsTurn g ranks turn known0 sets0 items known

  after_next : (known0 : ℕ → Bool) (sets0 : ℕ → List ℕ) (turn : ℕ) → turn < set_count g → After known0 sets0 turn → After known0 sets0 (turn + 1)
  after_next known0 sets0 turn l a = ⊎_elim
      (λ (none : any_below (set_count g) (λ t. not (get_or a.known t false)) ≡ false). record
      { items = a.items; known = a.known; is = turn_none g ranks turn known0 sets0 a.items a.known l a.is none })
      (λ (n : Next ranks some g (λ t. get_or a.items t []) (λ t. get_or a.known t false)). record {
        items = set a.items n.set n.list;
        known = set a.known n.set true;
        is = turn_step g ranks turn known0 sets0 a.items a.known n.set n.list l a.is n.is n.count n.below;
      })
      (some_next ranks some g (λ t. get_or a.items t []) (λ t. get_or a.known t false))

  after : (items : List (List ℕ)) (known : List Bool) → AreKnown g ranks items known → (turn : ℕ) → turn ≤ set_count g → After (λ s. get_or known s false) (λ s. get_or items s []) turn
  after items known h zero l = record { items = items; known = known; is = turn_init g ranks items known h }
  after items known h (suc turn) l = subst (After (λ s. get_or known s false) (λ s. get_or items s [])) (omega arith)
      (after_next (λ s. get_or known s false) (λ s. get_or items s []) turn (omega arith) (after items known h turn (omega arith)))

  -- owners of all sets
  record All (known0 : ℕ → Bool) (sets0 : ℕ → List ℕ) : Type 0 where
    owners : Owners
    ranks_are : owners.ranks ≡ ranks
    derived : AreDerived g owners known0 sets0

  all : (items : List (List ℕ)) (known : List Bool) → AreKnown g ranks items known → All (λ s. get_or known s false) (λ s. get_or items s [])
  all items known h =
      let a = after items known h (set_count g) (omega arith) in
      let few_sets = mesh.few_sets in
      let e : (vec_of a.items).items ≡ a.items = items_are a.items (let c = a.is.facts.each_set in omega arith) in
      record {
        owners = record { ranks = ranks; sets = vec_of a.items };
        ranks_are = refl;
        derived = turn_done g (record { ranks = ranks; sets = vec_of a.items }) (λ s. get_or known s false) (λ s. get_or items s []) a.known some few
            (subst (λ z. IsTurn g ranks (set_count g) (λ s. get_or known s false) (λ s. get_or items s []) z a.known) (sym e) a.is);
      }

  module _ (t : ℕ) (xs : List ℕ) (there : t < set_count g) (count : length xs ≡ set_size g t) (below : (x : ℕ) → x < set_size g t → get_or xs x 0 < ranks) where
    list : ℕ → List ℕ
    list s = cond (nat_eq s t) xs []

    lists : List (List ℕ)
    lists = table (set_count g) list

    marks : List Bool
    marks = table (set_count g) (λ s. nat_eq s t)

    mark_at : (s : ℕ) → s < set_count g → get_or marks s false ≡ nat_eq s t
    unfolding marks
    mark_at s l = table_at (set_count g) (λ s. nat_eq s t) s false l

    list_at : get_or lists t [] ≡ xs
    unfolding lists list
    list_at = table_at (set_count g) list t [] there ∙ rw (eq-eqb t t refl) refl

    -- a set that has owners is this one
    is_one : (s : ℕ) → s < set_count g → get_or marks s false ≡ true → s ≡ t
    is_one s l h = eqb-true s t (sym (mark_at s l) ∙ h)

    known : AreKnown g ranks lists marks
    unfolding lists marks
    known = record {
      each_set = length_table (set_count g) list;
      each_known = length_table (set_count g) (λ s. nat_eq s t);
      lengths = λ s l h. subst (λ z. length (get_or lists z []) ≡ set_size g z) (sym (is_one s l h)) (ap length list_at ∙ count);
      below = λ s x l h lx. (
          let e = is_one s l h in
          subst (λ z. get_or (get_or lists z []) x 0 < ranks) (sym e) (subst (λ z. get_or z x 0 < ranks) (sym list_at) (below x (subst (λ z. x < set_size g z) e lx))));
    }

    -- owners that are derived from the list of set t
    pub record FromOne : Type 0 where
      pub owners : Owners
      pub ranks_are : owners.ranks ≡ ranks
      pub derived : AreDerived g owners (λ s. nat_eq s t) (owners_in owners)
      pub kept : owners_in owners t ≡ xs

    pub from_one : FromOne
    from_one =
        let a = all lists marks known in
        let d = derived_one g a.owners marks lists t xs mark_at list_at a.derived in
        record {
          owners = a.owners;
          ranks_are = a.ranks_are;
          derived = derived_own g a.owners t xs d;
          kept = one_kept g a.owners t xs there d;
        }
