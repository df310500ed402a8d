-- Classes of sides in rising order are faces.
use Rattle.std.proofs.Common.{◌≡◌, ℕ, ◌+◌, ◌*◌, ◌<◌, ◌∙◌, arith, List, length, get_or, drop, sym, ap}
use Rattle.std.proofs.lemmas.List.{get_or-take, get_or-drop, ext_get_or, length-drop, length-take-le}
use Rattle.gmsh_mesh.specs.EqualKeys.{AreRowClasses, IsSameRow}
use Rattle.gmsh_mesh.specs.Mates.{AreMates, IsThird, IsFirstThird}
use Rattle.gmsh_mesh.specs.Nodes.{row, times, AreInOrder}
use Rattle.gmsh_mesh.specs.SideMates.{IsSameSide, AreSideMates, AreSideClasses, IsThirdSide, IsFirstThirdSide}
use Rattle.gmsh_mesh.proofs.cell_faces.Sorting.{row-behind}
use Rattle.gmsh_mesh.proofs.cell_faces.Unique.{unique}

at-row : (rows : List ℕ) (w i k : ℕ) → k < w → get_or (row rows w i) k 0 ≡ get_or rows (i * w + k) 0
at-row rows w i k h = get_or-take w (drop (i * w) rows) k 0 h ∙ get_or-drop (i * w) rows k 0

row-length : (rows : List ℕ) (w count i : ℕ) → length rows ≡ count * w → i < count → length (row rows w i) ≡ w
row-length rows w count i t h = length-take-le w (drop (i * w) rows) (omega (arith, t, row-behind w i count count h, length-drop (i * w) rows))

module _ (sides ordered of : List ℕ) (count w : ℕ) (table : length sides ≡ count * w) (o : AreInOrder count w sides ordered) (c : AreRowClasses ordered count w of) where
  to-same : (i j : ℕ) → i < count → j < count → get_or of i 0 ≡ get_or of j 0 → IsSameSide sides w i j
  to-same i j li lj e =
      let r : IsSameRow ordered w w i j = (c.same i j li lj).0 e in
      let t : length ordered ≡ count * w = o.size ∙ table in
      let a = row-length ordered w count i t li in
      let b = row-length ordered w count j t lj in
      let same : row ordered w i ≡ row ordered w j = ext_get_or 0 (row ordered w i) (row ordered w j) (a ∙ sym b)
      (λ k h. let low : k < w = omega (arith, a, h) in at-row ordered w i k low ∙ r k low ∙ sym (at-row ordered w j k low)) in
      λ x. (o.rows i li).same x ∙ ap (times x) same ∙ sym ((o.rows j lj).same x)

  to-class : (i j : ℕ) → i < count → j < count → IsSameSide sides w i j → get_or of i 0 ≡ get_or of j 0
  to-class i j li lj s =
      let same : row ordered w i ≡ row ordered w j = unique (row ordered w i) (row ordered w j) (o.rows i li).rises (o.rows j lj).rises
      (λ x. sym ((o.rows i li).same x) ∙ s x ∙ (o.rows j lj).same x) in
      (c.same i j li lj).1 (λ k h. sym (at-row ordered w i k h) ∙ ap (λ r. get_or r k 0) same ∙ at-row ordered w j k h)

  pub to-classes : AreSideClasses sides w count of
  to-classes = record { size = c.size; small = c.small; same = λ i j li lj. (to-same i j li lj, to-class i j li lj) }

module _ (sides of : List ℕ) (count w : ℕ) (c : AreSideClasses sides w count of) where
  pub to-mates : (m : List ℕ) → AreMates of m → AreSideMates sides w count m
  to-mates m a = record {
    size = a.size ∙ c.size;
    mates = λ i l.
        let li : i < length of = omega (arith, c.size) in
        let h = a.mates i li in
        let lm : get_or m i 0 < count = omega (arith, h.within, c.size) in
        record {
          within = lm;
          same = (c.same (get_or m i 0) i lm l).0 h.same;
          others = λ j lj s. h.others j (omega (arith, c.size)) ((c.same j i lj l).1 s);
        };
  }

  from-third : (k : ℕ) → IsThird of k → IsThirdSide sides w count k
  from-third k t =
      let lk : k < count = omega (arith, t.within, c.size) in
      record {
        first = t.first;
        second = t.second;
        apart = t.apart;
        before = t.before;
        within = lk;
        first_same = (c.same t.first k (omega (arith, t.apart, t.before)) lk).0 t.first_same;
        second_same = (c.same t.second k (omega (arith, t.before)) lk).0 t.second_same;
      }

  to-third : (k : ℕ) → IsThirdSide sides w count k → IsThird of k
  to-third k t = record {
    first = t.first;
    second = t.second;
    apart = t.apart;
    before = t.before;
    within = omega (arith, t.within, c.size);
    first_same = (c.same t.first k (omega (arith, t.apart, t.before, t.within)) t.within).1 t.first_same;
    second_same = (c.same t.second k (omega (arith, t.before, t.within)) t.within).1 t.second_same;
  }

  pub to-first : (k : ℕ) → IsFirstThird of k → IsFirstThirdSide sides w count k
  to-first k t = record { third = from-third k t.third; none_before = λ i l x. t.none_before i l (to-third i x) }
