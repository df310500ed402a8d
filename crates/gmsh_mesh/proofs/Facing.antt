-- Sizes and values of the arrays of faces.
use Rattle.std.proofs.Common.{◌≡◌, ℕ, zero, suc, ◌+◌, ◌*◌, ◌/◌, ◌^◌, ◌<◌, ◌≤◌, ◌∙◌, [], ◌∷◌, refl, sym, ap, subst, ⊎_elim, arith, List, length, map, get_or, drop, length-append, suc-mul, zero-mul, mul-le-mul_right}
use Rattle.std.specs.List.{All, flat_map}
use Rattle.std.proofs.lemmas.List.{length-drop, length-take-le, length-map}
use Rattle.std.proofs.lemmas.List.Elements.{All-from_get_or, All-take, All-drop, All-append}
use Rattle.std.proofs.Math.Nat.{div-le_self}
use Rattle.std.proofs.lemmas.Bool.{cases_lt}
use Rattle.gmsh_mesh.specs.declared.cell_sides.shape.Shape.{Shape}
use Rattle.gmsh_mesh.specs.Sides.{source, AreSides}
use Rattle.gmsh_mesh.specs.Nodes.{row}
use Rattle.gmsh_mesh.specs.SideMates.{AreSideMates}
use Rattle.gmsh_mesh.specs.FaceLists.{IsSelection, IsInner, IsOuter, AreFaces}
use Rattle.gmsh_mesh.specs.Arrays.{rows_of, cell_of, cells_of, pair_of, pairs_of}
use Rattle.gmsh_mesh.specs.Sums.{AreMutual}
use Rattle.gmsh_mesh.specs.Faces.{FaceArrays}
use Rattle.gmsh_mesh.specs.Small.{AreSmall, AreSmallFaces}

beyond : (xs : List ℕ) (k : ℕ) → length xs ≤ k → get_or xs k 0 ≡ 0
beyond [] k l = refl
beyond (x ∷ xs) zero l = absurd (omega (arith, l))
beyond (x ∷ xs) (suc k) l = beyond xs k (omega (arith, l))

-- a number of the list, or 0
pub small-at : (xs : List ℕ) → AreSmall xs → (k : ℕ) → get_or xs k 0 < 2 ^ 31
small-at xs h k = ⊎_elim (λ (l : k < length xs). h k 0 l) (λ (l : length xs ≤ k). let e = beyond xs k l in omega (arith, e)) (cases_lt k (length xs))

behind : (Q : ℕ → Type 0) (x : ℕ) (xs : List ℕ) → All Q (x ∷ xs) → All Q xs
behind Q x xs h k d l = h (suc k) d (omega (arith, l))

no-more : (Q : ℕ → Type 0) → All Q []
no-more Q k d l = absurd (omega (arith, l))

one-more : (x : ℕ) (xs : List ℕ) → x < 2 ^ 31 → AreSmall xs → AreSmall (x ∷ xs)
one-more x xs l h zero d k = l
one-more x xs l h (suc i) d k = h i d (omega (arith, k))

pub small-sides : (shape : Shape) (count : ℕ) (cells all : List ℕ) → AreSides shape count cells all → AreSmall cells → AreSmall all
small-sides shape count cells all s h =
    All-from_get_or (λ n. n < 2 ^ 31) all 0 (λ i l. subst (λ n. n < 2 ^ 31) (sym (s.each i l)) (small-at cells h (source shape i)))

small-flat : (Q : ℕ → Type 0) (f : ℕ → List ℕ) → ((x : ℕ) → Q x → AreSmall (f x)) → (xs : List ℕ) → All Q xs → AreSmall (flat_map f xs)
small-flat Q f each [] h = no-more (λ n. n < 2 ^ 31)
small-flat Q f each (x ∷ xs) h = All-append (λ n. n < 2 ^ 31) (f x) (flat_map f xs) (each x (h 0 0 (omega arith))) (small-flat Q f each xs (behind Q x xs h))

small-map : (Q : ℕ → Type 0) (f : ℕ → ℕ) → ((x : ℕ) → Q x → f x < 2 ^ 31) → (xs : List ℕ) → All Q xs → AreSmall (map f xs)
small-map Q f each [] h = no-more (λ n. n < 2 ^ 31)
small-map Q f each (x ∷ xs) h = one-more (f x) (map f xs) (each x (h 0 0 (omega arith))) (small-map Q f each xs (behind Q x xs h))

flat-length : (Q : ℕ → Type 0) (w : ℕ) (f : ℕ → List ℕ) → ((x : ℕ) → Q x → length (f x) ≡ w) → (xs : List ℕ) → All Q xs → length (flat_map f xs) ≡ length xs * w
flat-length Q w f each [] h = sym (zero-mul w)
flat-length Q w f each (x ∷ xs) h =
    let a = each x (h 0 0 (omega arith)) in
    let b = flat-length Q w f each xs (behind Q x xs h) in
    let c = length-append (f x) (flat_map f xs) in
    omega (arith, a, b, c, suc-mul (length xs) w)

module _ (all mates : List ℕ) (w n s : ℕ) (table : length all ≡ n * w) (m : AreSideMates all w n mates) where
  room : (p : ℕ) → p < n → p * w + w ≤ length all
  room p l =
      let a : (p + 1) * w ≤ n * w = mul-le-mul_right w (omega arith) in
      omega (arith, a, table)

  mate-below : (p : ℕ) → p < n → get_or mates p 0 < n
  mate-below p l = (m.mates p l).within

  -- each side is the mate of its mate
  pub are-mutual : AreMutual mates n
  are-mutual = record {
    below = mate-below;
    back = λ i l.
        let h = m.mates i l in
        let k = m.mates (get_or mates i 0) h.within in
        ⊎_elim
        (λ (a : i ≡ get_or mates i 0). ap (λ x. get_or mates x 0) (sym a) ∙ sym a)
        (λ (a : i ≡ get_or mates (get_or mates i 0) 0). sym a)
        (k.others i l (λ x. sym (h.same x)));
  }

  module _ (few : n < 2 ^ 31) (P : ℕ → Type 0) (places : List ℕ) (f : IsSelection P n places) where
    below : All (λ p. p < n) places
    below = All-from_get_or (λ p. p < n) places 0 (λ i l. (f.each i l).0)

    pub rows-length : length (rows_of all w places) ≡ length places * w
    rows-length =
        flat-length (λ p. p < n) w (row all w) (λ p l. length-take-le w (drop (p * w) all) (omega (arith, length-drop (p * w) all, room p l))) places below

    pub small-rows : AreSmall all → AreSmall (rows_of all w places)
    small-rows h = small-flat (λ p. p < n) (row all w) (λ p l. All-take (λ x. x < 2 ^ 31) w (drop (p * w) all) (All-drop (λ x. x < 2 ^ 31) (p * w) all h)) places below

    pub small-cells : AreSmall (cells_of s places)
    small-cells = small-map (λ p. p < n) (cell_of s) (λ p l. omega (arith, div-le_self p s, l, few)) places below

    pub small-pairs : AreSmall (pairs_of mates s places)
    small-pairs =
        small-flat (λ p. p < n) (pair_of mates s)
        (λ p l. one-more (p / s) (get_or mates p 0 / s ∷ []) (omega (arith, div-le_self p s, l, few))
        (one-more (get_or mates p 0 / s) [] (omega (arith, div-le_self (get_or mates p 0) s, mate-below p l, few)) (no-more (λ n. n < 2 ^ 31)))) places below

module _ (all mates : List ℕ) (w n s : ℕ) (table : length all ≡ n * w) (m : AreSideMates all w n mates) (inner outer : List ℕ)
    (f : AreFaces mates (length mates) inner outer) where
  found : AreFaces mates n inner outer
  found = subst (λ k. AreFaces mates k inner outer) m.size f

  -- the values of all arrays
  pub all-small : n < 2 ^ 31 → AreSmall all → (a : FaceArrays) → a.face ≡ rows_of all w inner → a.fcell ≡ pairs_of mates s inner
      → a.bface ≡ rows_of all w outer
      → a.bcell ≡ cells_of s outer
      → AreSmallFaces a
  all-small few h a face fcell bface bcell = record {
    face = subst AreSmall (sym face) (small-rows all mates w n s table m few (IsInner mates) inner found.inner h);
    fcell = subst AreSmall (sym fcell) (small-pairs all mates w n s table m few (IsInner mates) inner found.inner);
    bface = subst AreSmall (sym bface) (small-rows all mates w n s table m few (IsOuter mates) outer found.outer h);
    bcell = subst AreSmall (sym bcell) (small-cells all mates w n s table m few (IsOuter mates) outer found.outer);
  }

  -- the faces of the boundary have their nodes
  pub has-nodes : n < 2 ^ 31 → (bface bcell : List ℕ) → bface ≡ rows_of all w outer → bcell ≡ cells_of s outer → length bface ≡ length bcell * w
  has-nodes few bface bcell rows cells =
      ap length rows ∙ rows-length all mates w n s table m few (IsOuter mates) outer found.outer
      ∙ ap (λ k. k * w) (sym (ap length cells ∙ length-map outer (cell_of s)))

  -- and are no more than the sides
  pub no-more-than : ((mates firsts alone : List ℕ) (k : ℕ) → AreMutual mates k → AreFaces mates k firsts alone → 2 * length firsts + length alone ≡ k)
      → (bcell : List ℕ)
      → bcell ≡ cells_of s outer
      → length bcell ≤ n
  no-more-than law bcell cells =
      let l = law mates inner outer n (are-mutual all mates w n s table m) found in
      omega (arith, l, ap length cells ∙ length-map outer (cell_of s))
