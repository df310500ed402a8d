-- Places in conflict are ordered by their colours.
use Rattle.std.proofs.Common.{◌≡◌, ◌≢◌, ℕ, ◌+◌, ◌*◌, ◌/◌, ◌<◌, ◌≤◌, ◌⊎◌, true, inl, inr, refl, sym, arith, ⊎_elim, List, Vec, length, get_or, div-mul-le_self, add-mul}
use Rattle.std.specs.Prelude.{◌&&◌, ◌==◌, nat_lt}
use Rattle.std.specs.declared.alloc.Global.{Global}
use Rattle.std.proofs.lemmas.Bool.{cases_eq, lt-ltb, eq-eqb, or_left, or_right, and_from}
use Rattle.std.proofs.Math.Nat.{lt-div-mul-add}
use Rattle.mesh_decl.specs.Mesh.{MeshValue}
use Rattle.colouring.specs.Blocks.{IsInBlock}
use Rattle.colouring.specs.declared.types.IncArg.{IncArg}
use Rattle.colouring.specs.declared.types.Colours.{Colours}
use Rattle.schedule_steps.specs.Outline.{Outline, by_colour}
use Rattle.colouring.specs.Outlined.{IsOutlined}
use Rattle.colouring.specs.Colours.{Conflict, BlocksConflict, AreColours, goes_before}
use Rattle.lemmas.proofs.Numbers.{lt_or_gt}

module _ (g : MeshValue) (maps : List (Vec ℕ Global)) (args : List IncArg) (places size : ℕ) (c : Colours) where
  turned : (p q : ℕ) → Conflict g maps args p q → Conflict g maps args q p
  turned p q k = (k.1, k.0, k.3, k.2, sym k.4, sym k.5)

  pub blocks_differ : AreColours g maps args places size c → (a b : ℕ) → a ≢ b → BlocksConflict g maps args places size a b → get_or c.blocks.items a 0 ≢ get_or c.blocks.items b 0
  blocks_differ is a b ne k = ⊎_elim
      (λ (l : a < b). (is.blocks b (counted b k.1 k.3)).free a l k)
      (λ (l : b < a). λ e. (is.blocks a (counted a k.0 k.2)).free b l (k.1, k.0, k.3, k.2, turned k.0 k.1 k.4) (sym e))
      (lt_or_gt a b ne)
    where
      counted : (d p : ℕ) → IsInBlock places size d p → d < length c.blocks.items
      counted d p i = (is.blocks_count d).1 (let x : d * size ≤ p = i.0 in let y : p < places = i.2 in omega arith)

  pub places_are_ordered : 0 < size → AreColours g maps args places size c → (p q : ℕ) → p < places → q < places → p ≢ q
      → Conflict g maps args p q → (goes_before c size p q ≡ true) ⊎ (goes_before c size q p ≡ true)
  places_are_ordered some is p q lp lq ne k = ⊎_elim
      (λ (e : p / size ≡ q / size). ⊎_elim (λ l. inl (by_inner p q e l)) (λ l. inr (by_inner q p (sym e) l)) (lt_or_gt (get_or c.inner.items p 0) (get_or c.inner.items q 0) (inner_differ e)))
      (λ (d : p / size ≡ q / size → ⊥). ⊎_elim (λ l. inl (by_block p q l)) (λ l. inr (by_block q p l))
      (lt_or_gt (get_or c.blocks.items (p / size) 0) (get_or c.blocks.items (q / size) 0) (blocks_differ is (p / size) (q / size) d (p, q, in_block p lp, in_block q lq, k))))
      (cases_eq (p / size) (q / size))
    where
      in_block : (x : ℕ) → x < places → IsInBlock places size (x / size) x
      in_block x l = (
        div-mul-le_self x size,
        (let z : x < x / size * size + size = lt-div-mul-add {a = x} {b = size} some in
            let u : (x / size + 1) * size ≡ x / size * size + 1 * size = add-mul (x / size) 1 size in omega arith),
        l,
      )

      inner_differ : p / size ≡ q / size → get_or c.inner.items p 0 ≢ get_or c.inner.items q 0
      inner_differ e = ⊎_elim
          (λ (l : p < q). (is.inner q lq).free p l (e, k))
          (λ (l : q < p). λ f. (is.inner p lp).free q l (sym e, turned p q k) (sym f))
          (lt_or_gt p q ne)

      by_inner : (x y : ℕ) → x / size ≡ y / size → get_or c.inner.items x 0 < get_or c.inner.items y 0 → goes_before c size x y ≡ true
      by_inner x y e l =
          or_right (nat_lt (get_or c.blocks.items (x / size) 0) (get_or c.blocks.items (y / size) 0)) ((x / size == y / size) && nat_lt (get_or c.inner.items x 0) (get_or c.inner.items y 0))
          (and_from (x / size == y / size) (nat_lt (get_or c.inner.items x 0) (get_or c.inner.items y 0)) (eq-eqb (x / size) (y / size) e)
          (lt-ltb (get_or c.inner.items x 0) (get_or c.inner.items y 0) l))

      by_block : (x y : ℕ) → get_or c.blocks.items (x / size) 0 < get_or c.blocks.items (y / size) 0 → goes_before c size x y ≡ true
      by_block x y l =
          or_left (nat_lt (get_or c.blocks.items (x / size) 0) (get_or c.blocks.items (y / size) 0))
          ((x / size == y / size) && nat_lt (get_or c.inner.items x 0) (get_or c.inner.items y 0))
          (lt-ltb (get_or c.blocks.items (x / size) 0) (get_or c.blocks.items (y / size) 0) l)

-- by an outline with these colours, one goes before the other where it does by the colours
pub by_outline : (o : Outline) (k r : ℕ) (place : ℕ → ℕ) (size : ℕ) (c : Colours) → IsOutlined o k r place size c → (e f : ℕ) → by_colour o k r e f ≡ goes_before c size (place e) (place f)
by_outline o k r place size c is e f = rw (is.block e, is.block f, is.block_colour (place e / size), is.block_colour (place f / size), is.colour e, is.colour f) refl
