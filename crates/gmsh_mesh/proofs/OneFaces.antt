-- The faces of the cells have one result.
use Rattle.std.proofs.Common.{◌≡◌, ◌⊎◌, inl, inr, ℕ, zero, suc, ◌*◌, ◌/◌, ◌<◌, ◌≤◌, ◌∙◌, refl, sym, ap, ⊎_elim, arith, List, length, get_or, Result, Ok, Err}
use Rattle.std.proofs.lemmas.Bool.{cases_lt}
use Rattle.std.proofs.lemmas.List.{ext_get_or}
use Rattle.gmsh_mesh.specs.declared.cell_sides.shape.Shape.{Shape}
use Rattle.gmsh_mesh.specs.Sides.{sides, side_nodes, AreSides}
use Rattle.gmsh_mesh.specs.SideMates.{IsSideMate, AreSideMates, IsThirdSide, IsFirstThirdSide}
use Rattle.gmsh_mesh.specs.FaceLists.{IsSelection, IsInner, IsOuter}
use Rattle.gmsh_mesh.specs.Arrays.{rows_of, cells_of, pairs_of}
use Rattle.gmsh_mesh.specs.declared.refusal.GmshRefusal.{GmshRefusal}
use Rattle.gmsh_mesh.specs.declared.refusal.GmshRefusal.TheVariants as refusal
use Rattle.gmsh_mesh.specs.Faces.{MatesAre, FaceArrays, AreFacesOf}
use Rattle.gmsh_mesh.proofs.One.{IsOne, first-one}

pub same-sides : (shape : Shape) (count : ℕ) (cells a b : List ℕ) → AreSides shape count cells a → AreSides shape count cells b → a ≡ b
same-sides shape count cells a b h k =
    ext_get_or 0 a b (h.size ∙ sym k.size) (λ i l. h.each i l ∙ sym (k.each i (omega (arith, l, h.size, k.size))))

same-mate : (all : List ℕ) (width count i m n : ℕ) → IsSideMate all width count i m → IsSideMate all width count i n → m ≡ n
same-mate all width count i m n h k =
    ⊎_elim (λ (a : n ≡ i). ⊎_elim (λ (b : m ≡ i). b ∙ sym a) (λ (b : m ≡ n). b) (k.others m h.within h.same))
    (λ (a : n ≡ m). sym a) (h.others n k.within k.same)

pub same-mates : (all : List ℕ) (width count : ℕ) (a b : List ℕ) → AreSideMates all width count a → AreSideMates all width count b → a ≡ b
same-mates all width count a b h k = ext_get_or 0 a b (h.size ∙ sym k.size) (λ i l.
    let li : i < count = omega (arith, h.size) in
    same-mate all width count i (get_or a i 0) (get_or b i 0) (h.mates i li) (k.mates i li))

third-or-not : (all : List ℕ) (width count : ℕ) (a : List ℕ) (p : ℕ) → AreSideMates all width count a → IsThirdSide all width count p → ⊥
third-or-not all width count a p h t =
    let m = h.mates p t.within in
    let one = m.others t.first (omega (arith, t.apart, t.before, t.within)) t.first_same in
    let two = m.others t.second (omega (arith, t.before, t.within)) t.second_same in
    ⊎_elim (λ (x : t.first ≡ p). omega (arith, t.apart, t.before))
    (λ (x : t.first ≡ get_or a p 0). ⊎_elim (λ (y : t.second ≡ p). omega (arith, t.before)) (λ (y : t.second ≡ get_or a p 0). omega (arith, t.apart)) two) one

module _ (shape : Shape) (lines all : List ℕ) where
  abbrev n : ℕ
  n = length lines * sides shape

  abbrev Seen : Result (List ℕ) GmshRefusal → Type 0
  Seen r =
      ((of : List ℕ) × (r ≡ Ok of) × AreSideMates all (side_nodes shape) n of)
      ⊎ ((place : ℕ) × (r ≡ Err (refusal.ThirdCell (get_or lines (place / sides shape) 0))) × IsFirstThirdSide all (side_nodes shape) n place)

  see : (r : Result (List ℕ) GmshRefusal) → MatesAre shape lines all r → Seen r
  see (Ok of) h = inl (of, refl, h)
  see (Err (refusal.ThirdCell line)) h = inr (h.0, ap (λ l. Err (refusal.ThirdCell l)) h.2, h.1)
  see (Err refusal.OutOfMemory) h = absurd h
  see (Err (refusal.Text cause)) h = absurd h
  see (Err refusal.NoCells) h = absurd h
  see (Err (refusal.TwoTypes line)) h = absurd h
  see (Err (refusal.DuplicateTag line)) h = absurd h
  see (Err (refusal.UnknownTag line)) h = absurd h
  see (Err (refusal.Coordinate line largest)) h = absurd h
  see (Err (refusal.NotPlane line)) h = absurd h
  see (Err (refusal.TwoGroups line)) h = absurd h
  see (Err (refusal.Limit size)) h = absurd h
  see (Err (refusal.Bytes size)) h = absurd h

  same : (a b : Result (List ℕ) GmshRefusal) → Seen a → Seen b → a ≡ b
  same a b (inl (x, is, h)) (inl (y, it, k)) = is ∙ ap Ok (same-mates all (side_nodes shape) n x y h k) ∙ sym it
  same a b (inl (x, is, h)) (inr (p, it, k)) = absurd (third-or-not all (side_nodes shape) n x p h k.third)
  same a b (inr (p, is, h)) (inl (y, it, k)) = absurd (third-or-not all (side_nodes shape) n y p k h.third)
  same a b (inr (p, is, h)) (inr (q, it, k)) =
      is
      ∙ ap (λ i. Err (refusal.ThirdCell (get_or lines (i / sides shape) 0)))
      (first-one (IsThirdSide all (side_nodes shape) n) p q h.third k.third h.none_before k.none_before)
      ∙ sym it

  pub mates-one : IsOne (MatesAre shape lines all)
  mates-one a b h k = same a b (see a h) (see b k)

-- Two rising lists of the same numbers: as far as one goes, the other does not stand below it.
module _ (P : ℕ → Type 0) (m : ℕ) (a b : List ℕ) (h : IsSelection P m a) (k : IsSelection P m b) where
  not-below : (i : ℕ) → i < length a → ((j : ℕ) → j < i → get_or a j 0 ≡ get_or b j 0) → (i < length b) × (get_or b i 0 ≤ get_or a i 0)
  not-below i l before =
      let e = h.each i l in
      let there = k.all (get_or a i 0) e.0 e.1 in
      ⊎_elim
      (λ (x : there.0 < i). absurd (omega (arith, before there.0 x, there.2, h.rises there.0 i x l)))
      (λ (x : i ≤ there.0). (
        omega (arith, there.1),
        ⊎_elim
            (λ (y : i < there.0). omega (arith, k.rises i there.0 y there.1, there.2))
            (λ (y : there.0 ≤ i). let at : there.0 ≡ i = omega arith in omega (arith, ap (λ z. get_or b z 0) at, there.2)) (cases_lt i there.0),
      ))
      (cases_lt there.0 i)

module _ (P : ℕ → Type 0) (m : ℕ) (a b : List ℕ) (h : IsSelection P m a) (k : IsSelection P m b) where
  as-far : (i : ℕ) → (j : ℕ) → j < i → j < length a → get_or a j 0 ≡ get_or b j 0
  as-far zero j l la = absurd (omega arith)
  as-far (suc i) j l la = ⊎_elim (λ (x : j < i). as-far i j x la) (λ (x : i ≤ j).
      let before : (o : ℕ) → o < j → get_or a o 0 ≡ get_or b o 0 = λ o lo. as-far i o (omega (arith, l, lo)) (omega (arith, lo, la)) in
      let one = not-below P m a b h k j la before in
      let two = not-below P m b a k h j one.0 (λ o lo. sym (before o lo)) in
      omega (arith, one.1, two.1)) (cases_lt j i)

  pub no-longer : length a ≤ length b
  no-longer = ⊎_elim (λ (x : length b < length a).
      absurd (omega (arith, (not-below P m a b h k (length b) x (λ j l. as-far (suc j) j (omega arith) (omega (arith, l, x)))).0)))
      (λ (x : length a ≤ length b). x) (cases_lt (length b) (length a))

  pub each-same : (i : ℕ) → i < length a → get_or a i 0 ≡ get_or b i 0
  each-same i l = as-far (suc i) i (omega arith) l

pub same-selection : (P : ℕ → Type 0) (m : ℕ) (a b : List ℕ) → IsSelection P m a → IsSelection P m b → a ≡ b
same-selection P m a b h k = ext_get_or 0 a b (omega (arith, no-longer P m a b h k, no-longer P m b a k h)) (each-same P m a b h k)

made : (face fcell bface bcell : List ℕ) → FaceArrays
made face fcell bface bcell = record { face = face; fcell = fcell; bface = bface; bcell = bcell }

alike : (a b : FaceArrays) → a.face ≡ b.face → a.fcell ≡ b.fcell → a.bface ≡ b.bface → a.bcell ≡ b.bcell → a ≡ b
unfolding made
alike a b p q r s =
    ap (λ x. made x a.fcell a.bface a.bcell) p ∙ ap (λ x. made b.face x a.bface a.bcell) q ∙ ap (λ x. made b.face b.fcell x a.bcell) r
    ∙ ap (made b.face b.fcell b.bface) s

pub same-faces : (shape : Shape) (count : ℕ) (all mates : List ℕ) (a b : FaceArrays) → AreFacesOf shape count all mates a → AreFacesOf shape count all mates b → a ≡ b
same-faces shape count all mates a b h k =
    let i = same-selection (IsInner mates) (count * sides shape) h.inner k.inner h.faces.inner k.faces.inner in
    let o = same-selection (IsOuter mates) (count * sides shape) h.outer k.outer h.faces.outer k.faces.outer in
    let face : a.face ≡ b.face = h.face ∙ ap (rows_of all (side_nodes shape)) i ∙ sym k.face in
    let fcell : a.fcell ≡ b.fcell = h.fcell ∙ ap (pairs_of mates (sides shape)) i ∙ sym k.fcell in
    let bface : a.bface ≡ b.bface = h.bface ∙ ap (rows_of all (side_nodes shape)) o ∙ sym k.bface in
    let bcell : a.bcell ≡ b.bcell = h.bcell ∙ ap (cells_of (sides shape)) o ∙ sym k.bcell in
    alike a b face fcell bface bcell
