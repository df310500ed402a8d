-- Owners by blocks.
use Rattle.std.proofs.Common.{◌≡◌, ◌<◌, ◌≤◌, ◌^◌, ℕ, List, [], length, get_or, refl, sym, ap, ◌∙◌, subst, arith, ⊎_elim, inl, inr, ◌⊎◌}
use Rattle.std.proofs.lemmas.Bool.{cases_lt}
use Rattle.std.proofs.Math.Nat.{mul-div_cancel_left}
use Rattle.mesh_decl.specs.declared.owners.Owners.{Owners}
use Rattle.mesh_decl.specs.Mesh.{MeshValue, IsMesh, set_count, set_size}
use Rattle.mesh_decl.specs.Owners.{owners_in, owner_of}
use Rattle.partition.specs.Block.{block_start, InBlock, AreBlocks}
use Rattle.partition.proofs.Public.{start_le, block_unique, in_some_block, share_count}
use Rattle.loop_plan.proofs.plan_exists.Built.{table, length_table, table_at, vec_of, items_are}

-- ---- owners of these lists

pub owners_of : ℕ → ℕ → (ℕ → List ℕ) → Owners
owners_of ranks n lists = record { ranks = ranks; sets = vec_of (table n lists) }

pub owners_at : (ranks n : ℕ) (lists : ℕ → List ℕ) → n < 2 ^ 32 → (s : ℕ) → s < n → owners_in (owners_of ranks n lists) s ≡ lists s
unfolding owners_in owners_of
owners_at ranks n lists few s l = ap (λ z. get_or z s []) (items_are (table n lists) (let e = length_table n lists in omega arith)) ∙ table_at n lists s [] l

pub sets_at : (ranks n : ℕ) (lists : ℕ → List ℕ) → n < 2 ^ 32 → length (owners_of ranks n lists).sets.items ≡ n
unfolding owners_of
sets_at ranks n lists few = ap length (items_are (table n lists) (let e = length_table n lists in omega arith)) ∙ length_table n lists

pub ranks_at : (ranks n : ℕ) (lists : ℕ → List ℕ) → (owners_of ranks n lists).ranks ≡ ranks
unfolding owners_of
ranks_at ranks n lists = refl

-- ---- the block of an element

module _ (ranks : ℕ) (some : 0 < ranks) where
  pub whole : (n : ℕ) → block_start n ranks ranks ≡ n
  whole n = mul-div_cancel_left n some

  block_by : (n x : ℕ) → (x < n) ⊎ (n ≤ x) → ℕ
  block_by n x (inl l) = (in_some_block n ranks ranks x (subst (λ z. x < z) (sym (whole n)) l)).0
  block_by n x (inr m) = 0

  -- the rank in whose block x lies
  pub block_of : ℕ → ℕ → ℕ
  block_of n x = block_by n x (cases_lt x n)

  in_block_by : (n x : ℕ) → x < n → (d : (x < n) ⊎ (n ≤ x)) → InBlock n ranks (block_by n x d) x
  unfolding block_by
  in_block_by n x l (inl m) = (in_some_block n ranks ranks x (subst (λ z. x < z) (sym (whole n)) m)).1
  in_block_by n x l (inr m) = absurd (omega arith)

  pub in_block : (n x : ℕ) → x < n → InBlock n ranks (block_of n x) x
  unfolding block_of
  in_block n x l = in_block_by n x l (cases_lt x n)

  pub only_block : (n x i : ℕ) → x < n → InBlock n ranks i x → i ≡ block_of n x
  only_block n x i l h = block_unique n ranks i (block_of n x) x some h (in_block n x l)

  pub block_below : (n x : ℕ) → x < n → block_of n x < ranks
  block_below n x l = ⊎_elim
      (λ (h : block_of n x < ranks). h)
      (λ (h : ranks ≤ block_of n x).
      let a = start_le n ranks ranks (block_of n x) some h in
      let b = (in_block n x l).0 in
      let e = whole n in
      absurd (past x n (block_start n ranks ranks) (block_start n ranks (block_of n x)) l e a b))
      (cases_lt (block_of n x) ranks)
    where
      past : (x n a b : ℕ) → x < n → a ≡ n → a ≤ b → b ≤ x → ⊥
      past x n a b l e p q = absurd (omega arith)

  pub block_list : ℕ → List ℕ
  block_list n = table n (block_of n)

  pub length_block : (n : ℕ) → length (block_list n) ≡ n
  unfolding block_list
  length_block n = length_table n (block_of n)

  pub block_at : (n x : ℕ) → x < n → get_or (block_list n) x 0 ≡ block_of n x
  unfolding block_list
  block_at n x l = table_at n (block_of n) x 0 l

  -- ---- all sets by blocks

  module _ (few : ranks ≤ 64) (g : MeshValue) (mesh : IsMesh g) where
    lists : ℕ → List ℕ
    lists s = block_list (set_size g s)

    blocks : Owners
    blocks = owners_of ranks (set_count g) lists

    owner_is : (s x : ℕ) → s < set_count g → x < set_size g s → owner_of blocks s x ≡ block_of (set_size g s) x
    unfolding blocks lists owner_of
    owner_is s x l lx = ap (λ z. get_or z x 0) (owners_at ranks (set_count g) lists mesh.few_sets s l) ∙ block_at (set_size g s) x lx

    pub some_blocks : (o : Owners) × AreBlocks g ranks o
    unfolding blocks lists
    some_blocks = (
      blocks,
      record {
        count = ranks_at ranks (set_count g) lists;
        owners = record {
          some_rank = subst (λ z. 0 < z) (sym (ranks_at ranks (set_count g) lists)) some;
          few_ranks = subst (λ z. z ≤ 64) (sym (ranks_at ranks (set_count g) lists)) few;
          sets = sets_at ranks (set_count g) lists mesh.few_sets;
          lengths = λ s l. ap length (owners_at ranks (set_count g) lists mesh.few_sets s l) ∙ length_block (set_size g s);
          below = λ s x l lx. subst (λ z. z < blocks.ranks) (sym (owner_is s x l lx))
              (subst (λ z. block_of (set_size g s) x < z) (sym (ranks_at ranks (set_count g) lists)) (block_below (set_size g s) x lx));
        };
        block = λ s x l lx. subst (λ z. InBlock (set_size g s) ranks z x) (sym (owner_is s x l lx)) (in_block (set_size g s) x lx);
        only = λ s x i l lx h. only_block (set_size g s) x i lx h ∙ sym (owner_is s x l lx);
        shares = λ s i l li. share_count (set_size g s) ranks i (owner_of blocks s) li
            (λ x lx. subst (λ z. InBlock (set_size g s) ranks z x) (sym (owner_is s x l lx)) (in_block (set_size g s) x lx))
            (λ x k lx h. only_block (set_size g s) x k lx h ∙ sym (owner_is s x l lx));
      },
    )
