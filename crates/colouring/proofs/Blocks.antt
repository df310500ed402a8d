-- The colours of blocks, and of the places within them.
use Rattle.std.proofs.Common.{◌≡◌, ℕ, zero, suc, ◌+◌, ◌-◌, ◌*◌, ◌/◌, ◌^◌, ◌<◌, ◌≤◌, min, refl, sym, ap, subst, ◌∙◌, arith, ⊎_elim, List, length, get_or, mul-le-mul_right, mul-le-mul_left, add-mul, suc-mul, mul_assoc, div-mul-le_self, lt_of_mul-lt-mul_right}
use Rattle.std.proofs.lemmas.Bool.{cases_lt}
use Rattle.std.proofs.lemmas.Nat.{div-mul-add}
use Rattle.std.proofs.Math.Nat.{lt-div-mul-add}
use Rattle.colouring.specs.Blocks.{IsInBlock}
use Rattle.colouring.specs.Rows.{In, Conflict, Least, MeetFrom, MeetWithin, BlocksMeet}
use Rattle.colouring.specs.Colours.{IsLeast}
use Rattle.colouring.proofs.Parts.{least_kept, least_same}

pub block_is : (size b q : ℕ) → b * size ≤ q → q < b * size + size → q / size ≡ b
block_is size b q le lt =
    let e : b * size + (q - b * size) ≡ q = omega arith in
    subst (λ z. z / size ≡ b) e (div-mul-add b size (q - b * size) (omega arith))

-- the places of one block more have their colours
pub within_more : (table : List ℕ) (w size places b first last : ℕ) (old new : List ℕ) → 0 < size → first ≡ b * size
    → last ≡ min (b * size + size) places → ((p : ℕ) → first ≤ p → p < last → IsLeast (MeetFrom table w first) new p)
    → ((q : ℕ) → (first ≤ q → q < last → ⊥) → get_or new q 0 ≡ get_or old q 0)
    → ((p : ℕ) → p < b * size → p < places → IsLeast (MeetWithin table w size) old p) → (p : ℕ) → p < (b + 1) * size → p < places
    → IsLeast (MeetWithin table w size) new p
within_more table w size places b first last old new some ef el least others inv p lt lp =
    let next : (b + 1) * size ≡ b * size + 1 * size = add-mul b 1 size in
    ⊎_elim
    (λ (l : p < b * size). least_kept (MeetWithin table w size) old new p (λ q le. others q (λ x y. omega arith)) (inv p l lp))
    (λ (l : b * size ≤ p).
    let here : p / size ≡ b = block_is size b p l (omega arith) in
    least_same (MeetFrom table w first) (MeetWithin table w size) new p
    (λ q lq m. (block_is size b q (let f : first ≤ q = m.0 in omega arith) (omega arith) ∙ sym here, m.1))
    (λ q lq m. ((let d : q / size * size ≤ q = div-mul-le_self q size in let e : q / size * size ≡ b * size = ap (λ z. z * size) (m.0 ∙ here) in omega arith), m.1))
    (least p (omega arith) (omega arith)))
    (cases_lt p (b * size))

-- the rows of all blocks are not many more than the table
pub steps_fit : (n size places w m : ℕ) → m ≡ min size places → ((b : ℕ) → b < n → b * size < places) → places * w < 2 ^ 61 → n * (m * w) + m * w < 2 ^ 64
steps_fit zero size places w m e h few = let l : m * w ≤ places * w = mul-le-mul_right w (omega arith) in omega arith
steps_fit (suc n) size places w m e h few =
    let l : m * w ≤ places * w = mul-le-mul_right w (omega arith) in
    let s : n * size < places = h n (omega arith) in
    let k : n * m ≤ n * size = mul-le-mul_left n (omega arith) in
    let j : n * m * w ≤ places * w = mul-le-mul_right w (omega arith) in
    let a : n * m * w ≡ n * (m * w) = mul_assoc n m w in
    let u : suc n * (m * w) ≡ n * (m * w) + m * w = suc-mul n (m * w) in
    omega arith

-- there are no more blocks than places
pub blocks_few : (n size places : ℕ) → 0 < size → ((b : ℕ) → b < n → b * size < places) → n ≤ places
blocks_few zero size places some h = omega arith
blocks_few (suc n) size places some h =
    let s : n * size < places = h n (omega arith) in
    let k : n * 1 ≤ n * size = mul-le-mul_left n (omega arith) in
    omega arith

-- rows of blocks
module _ (table : List ℕ) (w size places m : ℕ) (em : m ≡ min size places) (long : length table ≡ places * w) where
  same_start : (b : ℕ) → b * size < places → b * (m * w) ≡ b * size * w
  same_start b lt = ⊎_elim
      (λ (l : size < places). (let e : m ≡ size = omega arith in ap (λ z. b * (z * w)) e ∙ sym (mul_assoc b size w)))
      (λ (l : places ≤ size). (let z : b ≡ 0 = none b lt l in ap (λ y. y * (m * w)) z ∙ (zeros ∙ sym (ap (λ y. y * size * w) z))))
      (cases_lt size places)
    where
      none : (b : ℕ) → b * size < places → places ≤ size → b ≡ 0
      none zero l p = refl
      none (suc b) l p = absurd (let u : suc b * size ≡ b * size + size = suc-mul b size in omega arith)

      zeros : 0 * (m * w) ≡ 0 * size * w
      zeros = omega arith

  above : (b q j : ℕ) → b * size < places → b * (m * w) ≤ j → j < q * w + w → b * size ≤ q
  above b q j lt a l =
      let e = same_start b lt in
      let u : (q + 1) * w ≡ q * w + 1 * w = add-mul q 1 w in
      let h : b * size < q + 1 = lt_of_mul-lt-mul_right w (omega arith) in
      omega arith

  block_end : (b : ℕ) → b * size < places → b * (m * w) + m * w ≡ (b * size + m) * w
  block_end b lt = let e = same_start b lt in let u : (b * size + m) * w ≡ b * size * w + m * w = add-mul (b * size) m w in omega arith

  pub place_in : (b j : ℕ) → b * size < places → In table (m * w) b j → (q : ℕ) × IsInBlock places size b q × In table w q j
  place_in b j lt i =
      let q = j / w in
      let some : 0 < w = positive w (omega arith) in
      let a : q * w ≤ j = div-mul-le_self j w in
      let z : j < q * w + w = lt-div-mul-add {a = j} {b = w} some in
      let x : b * (m * w) ≤ j = i.0 in
      let y : j < b * (m * w) + m * w = i.1 in
      let t : j < length table = i.2 in
      let e = block_end b lt in
      let u : (b + 1) * size ≡ b * size + 1 * size = add-mul b 1 size in
      let f : q < b * size + m = lt_of_mul-lt-mul_right w (omega arith) in
      let h : q < places = lt_of_mul-lt-mul_right w (omega arith) in
      (q, (above b q j lt x z, omega arith, h), (a, z, t))
    where
      positive : (w : ℕ) → j < places * w → 0 < w
      positive zero l = absurd (let e : places * 0 ≡ 0 = omega arith in omega arith)
      positive (suc w) l = omega arith

  pub row_in : (b q j : ℕ) → b * size < places → IsInBlock places size b q → In table w q j → In table (m * w) b j
  row_in b q j lt k i =
      let a : b * size ≤ q = k.0 in
      let z : q < (b + 1) * size = k.1 in
      let y : q < places = k.2 in
      let e = same_start b lt in
      let f = block_end b lt in
      let u : (b + 1) * size ≡ b * size + 1 * size = add-mul b 1 size in
      let n : (q + 1) * w ≡ q * w + 1 * w = add-mul q 1 w in
      let g : b * size * w ≤ q * w = mul-le-mul_right w a in
      let h : (q + 1) * w ≤ (b * size + m) * w = mul-le-mul_right w (omega arith) in
      let x : q * w ≤ j = i.0 in
      let v : j < q * w + w = i.1 in
      (omega arith, omega arith, i.2)

  pub blocks_least : (n : ℕ) (cs : List ℕ) → ((b : ℕ) → b < n → b * size < places) → ((b : ℕ) → b < n → Least table (m * w) cs b) → (b : ℕ) → b < n → IsLeast (BlocksMeet table w places size) cs b
  blocks_least n cs here least b lt =
      let l : Least table (m * w) cs b = least b lt in
      record {
        free = λ c lc k. l.0 c lc (k.4.0, k.4.1, row_in c k.0 k.4.0 (here c (omega arith)) k.2 k.4.2, row_in b k.1 k.4.1 (here b lt) k.3 k.4.3, k.4.4);
        taken = λ c lc.
            let t : (a : ℕ) × (a < b) × Conflict table (m * w) a b × (get_or cs a 0 ≡ c) = l.1 c lc in
            let ta : t.0 < b = t.1 in
            let q = place_in t.0 t.2.0 (here t.0 (omega arith)) t.2.2 in
            let p = place_in b t.2.1 (here b lt) t.2.3 in
            (t.0, t.1, (q.0, p.0, q.1, p.1, (t.2.0, t.2.1, q.2, p.2, t.2.4)), t.3);
      }
