-- One more row is brought into order.
use Rattle.std.proofs.Common.{◌≡◌, ℕ, ◌+◌, ◌-◌, ◌*◌, ◌<◌, ◌≤◌, ◌∙◌, arith, ⊎_elim, List, ◌++◌, length, take, drop, sym, ap, subst}
use Rattle.std.proofs.lemmas.Bool.{cases_lt}
use Rattle.std.proofs.lemmas.List.{drop-take, length-append, length-drop, length-take-le}
use Rattle.std.proofs.lemmas.Slice.{take-put_mid_below, between-put_mid, drop-put_mid}
use Rattle.std.proofs.Math.Nat.{mul-le-mul_right}
use borrow.Rule.Slice.PartMut.{put_mid}
use Rattle.gmsh_mesh.specs.Nodes.{row, AreInOrder, AreInOrderUpTo, IsInOrder}

-- a later row begins behind an earlier one
pub row-behind : (w r s count : ℕ) → r < s → r * w + w ≤ s * w
row-behind w r s count h =
    let a : (r + 1) * w ≤ s * w = mul-le-mul_right w (omega arith) in
    omega (arith, a)

module _ (old xs ys : List ℕ) (count w at : ℕ) (s : AreInOrderUpTo at count w old xs) (l : at < count) (table : length old ≡ count * w)
    (o : IsInOrder (take (at * w + w - at * w) (drop (at * w) xs)) ys) (size : length ys ≡ length (take (at * w + w - at * w) (drop (at * w) xs))) where
  room : at * w + w ≤ length xs
  room = omega (arith, row-behind w at count count l, s.size)

  width : length ys ≡ w
  width =
      let part : length (take w (drop (at * w) xs)) ≡ w = length-take-le w (drop (at * w) xs) (omega (arith, room, length-drop (at * w) xs)) in
      let same : at * w + w - at * w ≡ w = omega arith in
      size ∙ ap (λ n. length (take n (drop (at * w) xs))) same ∙ part

  before : (r : ℕ) → r < at → row (put_mid (at * w) (at * w + w - at * w) xs ys) w r ≡ row xs w r
  before r h =
      let low = row-behind w r at count h in
      let e : take (r * w + w) (put_mid (at * w) (at * w + w - at * w) xs ys) ≡ take (r * w + w) xs =
      take-put_mid_below (at * w) (at * w + w - at * w) xs ys (r * w + w) low (omega (arith, room)) in
      sym (drop-take (r * w) w (put_mid (at * w) (at * w + w - at * w) xs ys)) ∙ ap (drop (r * w)) e ∙ drop-take (r * w) w xs

  here : row (put_mid (at * w) (at * w + w - at * w) xs ys) w at ≡ ys
  here =
      let same : at * w + w - at * w ≡ w = omega arith in
      sym (ap (λ n. take n (drop (at * w) (put_mid (at * w) (at * w + w - at * w) xs ys))) same)
      ∙ between-put_mid (at * w) (at * w + w - at * w) xs ys (at * w + w) (omega (arith, room)) (omega (arith, width))

  behind : (r : ℕ) → at < r → row (put_mid (at * w) (at * w + w - at * w) xs ys) w r ≡ row xs w r
  behind r h = ap (take w) (drop-put_mid (at * w) (at * w + w - at * w) xs ys (r * w) (omega (arith, row-behind w at r count h)) (omega (arith, room)) (omega (arith, width)))

  pub step : AreInOrderUpTo (at + 1) count w old (put_mid (at * w) (at * w + w - at * w) xs ys)
  step = record {
    size =
        let a = length-append (take (at * w) xs) (ys ++ drop (at * w + w - at * w) (drop (at * w) xs)) in
        let b = length-append ys (drop (at * w + w - at * w) (drop (at * w) xs)) in
        let c = length-take-le (at * w) xs (omega (arith, room)) in
        let d = length-drop (at * w + w - at * w) (drop (at * w) xs) in
        omega (arith, a, b, c, d, length-drop (at * w) xs, s.size, room, width);
    rows = λ r h. ⊎_elim
        (λ (a : r < at). subst (IsInOrder (row old w r)) (sym (before r a)) (s.rows r a))
        (λ (a : at ≤ r).
        let e : at ≡ r = omega arith in
        let same : at * w + w - at * w ≡ w = omega arith in
        let from : IsInOrder (row xs w at) ys = subst (λ n. IsInOrder (take n (drop (at * w) xs)) ys) same o in
        let to : IsInOrder (row old w at) ys = subst (λ x. IsInOrder x ys) (s.others at (omega arith) l) from in
        subst (λ x. IsInOrder (row old w x) (row (put_mid (at * w) (at * w + w - at * w) xs ys) w x)) e (subst (IsInOrder (row old w at)) (sym here) to))
        (cases_lt r at);
    others = λ r h c. behind r (omega arith) ∙ s.others r (omega arith) c;
  }

pub all : (old xs : List ℕ) (count w at : ℕ) → at ≡ count → AreInOrderUpTo at count w old xs → AreInOrder count w old xs
all old xs count w at e s = record { size = s.size; rows = λ r h. s.rows r (omega arith) }
