-- Colours that keep conflicts apart order the places in conflict.
use Rattle.std.proofs.Common.{◌≡◌, ◌≢◌, ◌+◌, ◌*◌, ◌/◌, ◌<◌, ◌≤◌, ℕ, ◌⊎◌, inl, inr, true, List, Vec, length, get_or, sym, arith, ⊎_elim}
use Rattle.std.specs.declared.alloc.Global.{Global}
use Rattle.std.specs.Prelude.{◌&&◌, ◌==◌, nat_lt}
use Rattle.std.proofs.lemmas.Bool.{cases_eq, or_left, or_right, and_from, eq-eqb, lt-ltb}
use Rattle.std.proofs.Math.Nat.{div-mul-le_self, lt-div-mul-add, add-mul}
use Rattle.mesh_decl.specs.Mesh.{MeshValue}
use Rattle.colouring.specs.Blocks.{IsInBlock}
use Rattle.colouring.specs.declared.types.IncArg.{IncArg}
use Rattle.colouring.specs.declared.types.Colours.{Colours}
use Rattle.colouring.specs.Colours.{Conflict, goes_before}
use Rattle.loop_plan.specs.Proper.{Separate}
use Rattle.lemmas.proofs.Numbers.{lt_or_gt}

module _ (g : MeshValue) (maps : List (Vec ℕ Global)) (args : List IncArg) (places size : ℕ) (c : Colours) (some : 0 < size) (is : Separate g maps args places size c) where
  in_block : (x : ℕ) → x < places → IsInBlock places size (x / size) x
  in_block x l = (
    div-mul-le_self x size,
    (let z : x < x / size * size + size = lt-div-mul-add {a = x} {b = size} some in let u : (x / size + 1) * size ≡ x / size * size + 1 * size = add-mul (x / size) 1 size in omega arith),
    l,
  )

  counted : (x : ℕ) → x < places → x / size < length c.blocks.items
  counted x l = (is.blocks_count (x / size)).1 (let z : x / size * size ≤ x = div-mul-le_self x size in omega arith)

  by_inner : (x y : ℕ) → x / size ≡ y / size → get_or c.inner.items x 0 < get_or c.inner.items y 0 → goes_before c size x y ≡ true
  by_inner x y e l =
      or_right (nat_lt (get_or c.blocks.items (x / size) 0) (get_or c.blocks.items (y / size) 0))
      ((x / size == y / size) && nat_lt (get_or c.inner.items x 0) (get_or c.inner.items y 0))
      (and_from (x / size == y / size) (nat_lt (get_or c.inner.items x 0) (get_or c.inner.items y 0)) (eq-eqb (x / size) (y / size) e)
      (lt-ltb (get_or c.inner.items x 0) (get_or c.inner.items y 0) l))

  by_block : (x y : ℕ) → get_or c.blocks.items (x / size) 0 < get_or c.blocks.items (y / size) 0 → goes_before c size x y ≡ true
  by_block x y l =
      or_left (nat_lt (get_or c.blocks.items (x / size) 0) (get_or c.blocks.items (y / size) 0))
      ((x / size == y / size) && nat_lt (get_or c.inner.items x 0) (get_or c.inner.items y 0))
      (lt-ltb (get_or c.blocks.items (x / size) 0) (get_or c.blocks.items (y / size) 0) l)

  pub places_are_ordered : (p q : ℕ) → p < places → q < places → p ≢ q → Conflict g maps args p q
      → (goes_before c size p q ≡ true) ⊎ (goes_before c size q p ≡ true)
  places_are_ordered p q lp lq ne k = ⊎_elim
      (λ (e : p / size ≡ q / size). ⊎_elim
      (λ l. inl (by_inner p q e l))
      (λ l. inr (by_inner q p (sym e) l))
      (lt_or_gt (get_or c.inner.items p 0) (get_or c.inner.items q 0) (is.inner p q lp lq ne (e, k))))
      (λ (d : p / size ≡ q / size → ⊥). ⊎_elim
      (λ l. inl (by_block p q l))
      (λ l. inr (by_block q p l))
      (lt_or_gt (get_or c.blocks.items (p / size) 0) (get_or c.blocks.items (q / size) 0)
      (is.blocks (p / size) (q / size) (counted p lp) (counted q lq) d (p, q, in_block p lp, in_block q lq, k))))
      (cases_eq (p / size) (q / size))
