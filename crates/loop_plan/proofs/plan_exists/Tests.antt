-- Tests that tell where places and blocks conflict.
use Rattle.std.proofs.Common.{◌≡◌, ◌+◌, ◌/◌, ◌<◌, ◌≤◌, ℕ, suc, Bool, true, false, ◌&&◌, nat_eq, List, [], ◌∷◌, refl, ap, ◌∙◌, arith, ⊎_elim, Vec, Global}
use Rattle.std.specs.List.{list_any, Contains}
use Rattle.std.proofs.lemmas.Bool.{eq-eqb, eqb-true, or_cases, and_from, and_parts}
use Rattle.std.proofs.lemmas.List.Folds.{list_any_at}
use Rattle.std.proofs.Math.Nat.{div-lt_iff_lt-mul, le-div_iff_mul-le}
use Rattle.lemmas.specs.Below.{any_below}
use Rattle.lemmas.proofs.Below.{any_from, any_witness}
use Rattle.mesh_decl.specs.Mesh.{MeshValue}
use Rattle.colouring.specs.Blocks.{IsInBlock}
use Rattle.colouring.specs.declared.types.IncArg.{IncArg}
use Rattle.colouring.specs.Colours.{target_of, Conflict, ConflictWithin, BlocksConflict}

-- ---- tests

-- what passes
pub any_in : {X : Type 0} (test : X → Bool) (xs : List X) → list_any test xs ≡ true → (x : X) × Contains xs x × (test x ≡ true)
any_in test [] h = let bad : false ≡ true = h in cc
any_in test (x ∷ xs) h = ⊎_elim
    (λ (e : test x ≡ true). (x, (0, omega arith, refl), e))
    (λ (e : list_any test xs ≡ true). let w = any_in test xs e in (w.0, (suc w.1.0, (let l = w.1.1 in omega arith), w.1.2), w.2))
    (or_cases (test x) (list_any test xs) h)

pub any_of : {X : Type 0} (test : X → Bool) (xs : List X) (x : X) → Contains xs x → test x ≡ true → list_any test xs ≡ true
any_of test xs x c h = list_any_at test xs c.0 x c.1 (ap test c.2 ∙ h)

-- ---- conflicts

module _ (g : MeshValue) (maps : List (Vec ℕ Global)) (args : List IncArg) where
  meets : ℕ → ℕ → IncArg → IncArg → Bool
  meets p q x y = nat_eq x.dat y.dat && nat_eq (target_of g maps p x) (target_of g maps q y)

  conflict : ℕ → ℕ → Bool
  conflict p q = list_any (λ x. list_any (meets p q x) args) args

  conflict_holds : (p q : ℕ) → conflict p q ≡ true → Conflict g maps args p q
  unfolding conflict meets
  conflict_holds p q h =
      let x = any_in (λ x. list_any (meets p q x) args) args h in
      let y = any_in (meets p q x.0) args x.2 in
      let e = and_parts (nat_eq x.0.dat y.0.dat) (nat_eq (target_of g maps p x.0) (target_of g maps q y.0)) y.2 in
      (x.0, y.0, x.1, y.1, eqb-true x.0.dat y.0.dat e.0, eqb-true (target_of g maps p x.0) (target_of g maps q y.0) e.1)

  conflict_found : (p q : ℕ) → Conflict g maps args p q → conflict p q ≡ true
  unfolding conflict meets
  conflict_found p q c =
      any_of (λ x. list_any (meets p q x) args) args c.0 c.2
      (any_of (meets p q c.0) args c.1 c.3
      (and_from (nat_eq c.0.dat c.1.dat) (nat_eq (target_of g maps p c.0) (target_of g maps q c.1))
      (eq-eqb c.0.dat c.1.dat c.4) (eq-eqb (target_of g maps p c.0) (target_of g maps q c.1) c.5)))

  module _ (size : ℕ) where
    -- of two places of one block
    pub within : ℕ → ℕ → Bool
    within p q = nat_eq (p / size) (q / size) && conflict p q

    pub within_is : (p q : ℕ) → (within p q ≡ true → ConflictWithin g maps args size p q) × (ConflictWithin g maps args size p q → within p q ≡ true)
    unfolding within
    within_is p q = (
      λ h. (let w = and_parts (nat_eq (p / size) (q / size)) (conflict p q) h in (eqb-true (p / size) (q / size) w.0, conflict_holds p q w.1)),
      λ c. and_from (nat_eq (p / size) (q / size)) (conflict p q) (eq-eqb (p / size) (q / size) c.0) (conflict_found p q c.1),
    )

    in_block : (places a p : ℕ) → 0 < size → p < places → p / size ≡ a → IsInBlock places size a p
    in_block places a p some l e = (
      (le-div_iff_mul-le some).0 (omega arith),
      (div-lt_iff_lt-mul some).0 (omega arith),
      l,
    )

    block_of : (places a p : ℕ) → 0 < size → IsInBlock places size a p → p / size ≡ a
    block_of places a p some h =
        let low : a ≤ p / size = (le-div_iff_mul-le some).1 h.0 in
        let high : p / size < a + 1 = (div-lt_iff_lt-mul some).1 h.1 in
        omega arith

    module _ (places : ℕ) where
      at_blocks : ℕ → ℕ → ℕ → ℕ → Bool
      at_blocks a e p q = nat_eq (p / size) a && (nat_eq (q / size) e && conflict p q)

      -- of two blocks
      pub between : ℕ → ℕ → Bool
      between a e = any_below places (λ p. any_below places (at_blocks a e p))

      pub between_is : 0 < size → (a e : ℕ) → (between a e ≡ true → BlocksConflict g maps args places size a e) × (BlocksConflict g maps args places size a e → between a e ≡ true)
      unfolding between at_blocks
      between_is some a e = (
        λ h. (
            let p = any_witness places (λ p. any_below places (at_blocks a e p)) h in
            let q = any_witness places (at_blocks a e p.0) p.2 in
            let x = and_parts (nat_eq (p.0 / size) a) (nat_eq (q.0 / size) e && conflict p.0 q.0) q.2 in
            let y = and_parts (nat_eq (q.0 / size) e) (conflict p.0 q.0) x.1 in
            (p.0, q.0, in_block places a p.0 some p.1 (eqb-true (p.0 / size) a x.0), in_block places e q.0 some q.1 (eqb-true (q.0 / size) e y.0), conflict_holds p.0 q.0 y.1)),
        λ c. any_from places (λ p. any_below places (at_blocks a e p)) c.0 c.2.2
            (any_from places (at_blocks a e c.0) c.1 c.3.2
            (and_from (nat_eq (c.0 / size) a) (nat_eq (c.1 / size) e && conflict c.0 c.1)
            (eq-eqb (c.0 / size) a (block_of places a c.0 some c.2))
            (and_from (nat_eq (c.1 / size) e) (conflict c.0 c.1) (eq-eqb (c.1 / size) e (block_of places e c.1 some c.3)) (conflict_found c.0 c.1 c.4)))),
      )
