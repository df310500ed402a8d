-- The colours of a part of the places.
use Rattle.std.proofs.Common.{◌≡◌, ℕ, ◌+◌, ◌-◌, ◌*◌, ◌<◌, ◌≤◌, sym, ap, subst, ◌∙◌, arith, List, ◌++◌, length, get_or, take, drop, mul-le-mul_right, add-mul}
use Rattle.std.proofs.lemmas.List.{get_or_append_left, get_or-append_right, get_or-take, get_or-drop, length-take-le, length-drop}
use borrow.Rule.Slice.PartMut.{put_mid, post_of}
use Rattle.colouring.specs.Rows.{In, Conflict, Least, MeetFrom}
use Rattle.colouring.specs.Colours.{IsLeast}

pub in_mid : (a k : ℕ) (xs ys : List ℕ) (q : ℕ) → a ≤ length xs → length ys ≡ k → q < k → get_or (put_mid a k xs ys) (a + q) 0 ≡ get_or ys q 0
in_mid a k xs ys q h l lt =
    let e : a + q - a ≡ q = omega arith in
    get_or-append_right (take a xs) (ys ++ post_of a k xs) a (a + q) 0 (length-take-le a xs h) (omega arith)
    ∙ (ap (λ z. get_or (ys ++ post_of a k xs) z 0) e ∙ get_or_append_left ys (post_of a k xs) 0 q (omega arith))

pub before_mid : (a k : ℕ) (xs ys : List ℕ) (q : ℕ) → a ≤ length xs → q < a → get_or (put_mid a k xs ys) q 0 ≡ get_or xs q 0
before_mid a k xs ys q h lt = get_or_append_left (take a xs) (ys ++ post_of a k xs) 0 q (let l : length (take a xs) ≡ a = length-take-le a xs h in omega arith) ∙ get_or-take a xs q 0 lt

pub after_mid : (a k : ℕ) (xs ys : List ℕ) (q : ℕ) → a ≤ length xs → length ys ≡ k → a + k ≤ q → get_or (put_mid a k xs ys) q 0 ≡ get_or xs q 0
after_mid a k xs ys q h l le =
    let e : a + (k + (q - a - k)) ≡ q = omega arith in
    get_or-append_right (take a xs) (ys ++ post_of a k xs) a q 0 (length-take-le a xs h) (omega arith)
    ∙ (get_or-append_right ys (post_of a k xs) k (q - a) 0 l (omega arith)
    ∙ (get_or-drop k (drop a xs) (q - a - k) 0
    ∙ (get_or-drop a xs (k + (q - a - k)) 0 ∙ ap (λ z. get_or xs z 0) e)))

-- what is so of every row up to p
pub least_kept : (R : ℕ → ℕ → Type 0) (old now : List ℕ) (p : ℕ) → ((q : ℕ) → q ≤ p → get_or now q 0 ≡ get_or old q 0) → IsLeast R old p → IsLeast R now p
least_kept R old now p same l = record {
  free = λ q lt r e. l.free q lt r (sym (same q (omega arith)) ∙ (e ∙ same p (omega arith)));
  taken = λ c lt. (let t : (q : ℕ) × (q < p) × R q p × (get_or old q 0 ≡ c) =
      l.taken c (let e : get_or now p 0 ≡ get_or old p 0 = same p (omega arith) in omega arith) in let tl : t.0 < p = t.1 in
      (t.0, t.1, t.2, same t.0 (omega arith) ∙ t.3));
}

pub least_same : (R S : ℕ → ℕ → Type 0) (cs : List ℕ) (p : ℕ) → ((q : ℕ) → q < p → R q p → S q p) → ((q : ℕ) → q < p → S q p → R q p) → IsLeast R cs p → IsLeast S cs p
least_same R S cs p to from l = record {
  free = λ q lt s. l.free q lt (from q lt s);
  taken = λ c lt. (let t : (q : ℕ) × (q < p) × R q p × (get_or cs q 0 ≡ c) = l.taken c lt in (t.0, t.1, to t.0 t.1 t.2, t.3));
}

-- rows of a part of the table
module _ (table here : List ℕ) (w first last : ℕ) (count : length here ≡ last * w - first * w)
    (read : (k : ℕ) → k < length here → get_or here k 0 ≡ get_or table (first * w + k) 0) (fits : last * w ≤ length table) where
  row_of : (q : ℕ) → (first + q) * w ≡ first * w + q * w
  row_of q = add-mul first q w

  in_table : (q j : ℕ) → first ≤ last → In here w q j → In table w (first + q) (first * w + j)
  in_table q j le i =
      let a : q * w ≤ j = i.0 in
      let b : j < q * w + w = i.1 in
      let d : j < length here = i.2 in
      let e = row_of q in
      let m : first * w ≤ last * w = mul-le-mul_right w le in
      (omega arith, omega arith, omega arith)

  in_part : (q j : ℕ) → first + q < last → In table w (first + q) (first * w + j) → In here w q j
  in_part q j lt i =
      let a : (first + q) * w ≤ first * w + j = i.0 in
      let b : first * w + j < (first + q) * w + w = i.1 in
      let e = row_of q in
      let m : (first + q + 1) * w ≤ last * w = mul-le-mul_right w (omega arith) in
      let n : (first + q + 1) * w ≡ (first + q) * w + 1 * w = add-mul (first + q) 1 w in
      (omega arith, omega arith, omega arith)

  to_table : (q r : ℕ) → first + r < last → Conflict here w q r → Conflict table w (first + q) (first + r)
  to_table q r lt c =
      let le : first ≤ last = omega arith in
      (first * w + c.0, first * w + c.1, in_table q c.0 le c.2, in_table r c.1 le c.3, sym (read c.0 c.2.2) ∙ (c.4 ∙ read c.1 c.3.2))

  to_part : (q r : ℕ) → first + q < last → first + r < last → Conflict table w (first + q) (first + r) → Conflict here w q r
  to_part q r lq lr c =
      let j = c.0 - first * w in
      let k = c.1 - first * w in
      let eq = row_of q in
      let er = row_of r in
      let ej : first * w + j ≡ c.0 = (let a : (first + q) * w ≤ c.0 = c.2.0 in omega arith) in
      let ek : first * w + k ≡ c.1 = (let a : (first + r) * w ≤ c.1 = c.3.0 in omega arith) in
      let ij : In here w q j = in_part q j lq (subst (λ z. In table w (first + q) z) (sym ej) c.2) in
      let ik : In here w r k = in_part r k lr (subst (λ z. In table w (first + r) z) (sym ek) c.3) in
      (j, k, ij, ik, read j ij.2 ∙ (ap (λ z. get_or table z 0) ej ∙ (c.4 ∙ sym (read k ik.2 ∙ ap (λ z. get_or table z 0) ek))))

  module _ (part new : List ℕ) (same : (r : ℕ) → r < last - first → get_or new (first + r) 0 ≡ get_or part r 0) (least : (r : ℕ) → r < last - first → Least here w part r) where
    part_at : (r : ℕ) → first + r < last → IsLeast (MeetFrom table w first) new (first + r)
    part_at r lt =
        let l : Least here w part r = least r (omega arith) in
        record {
          free = λ q lq m e.
              let le : first ≤ q = m.0 in
              let s : first + (q - first) ≡ q = omega arith in
              l.0 (q - first) (omega arith) (to_part (q - first) r (omega arith) lt (subst (λ z. Conflict table w z (first + r)) (sym s) m.1))
              (sym (same (q - first) (omega arith)) ∙ (ap (λ z. get_or new z 0) s ∙ (e ∙ same r (omega arith))));
          taken = λ c lc.
              let t : (q : ℕ) × (q < r) × Conflict here w q r × (get_or part q 0 ≡ c) = l.1 c (let s : get_or new (first + r) 0 ≡ get_or part r 0 = same r (omega arith) in omega arith) in
              let tl : t.0 < r = t.1 in
              (first + t.0, omega arith, (omega arith, to_table t.0 r lt t.2), same t.0 (omega arith) ∙ t.3);
        }

    pub part_least : (p : ℕ) → first ≤ p → p < last → IsLeast (MeetFrom table w first) new p
    part_least p le lt =
        let s : first + (p - first) ≡ p = omega arith in
        subst (λ z. IsLeast (MeetFrom table w first) new z) s (part_at (p - first) (omega arith))

pub mid_length : (a k : ℕ) (xs : List ℕ) → a + k ≤ length xs → length (take k (drop a xs)) ≡ k
mid_length a k xs h = length-take-le k (drop a xs) (let l : length (drop a xs) ≡ length xs - a = length-drop a xs in omega arith)
