-- Quotients by powers of ten.
use Rattle.std.proofs.Common.{◌≡◌, ℕ, suc, ◌+◌, ◌-◌, ◌*◌, ◌/◌, ◌^◌, ◌<◌, ◌≤◌, true, List, ◌++◌, length, get_or, drop, ap, sym, ◌∙◌, append_assoc, arith}
use Rattle.std.specs.Char.{is_ascii_digit}
use Rattle.std.specs.List.{All}
use Rattle.std.proofs.lemmas.Bool.Decides.{nat_tests}
use Rattle.std.proofs.Math.Seq.{drop-length}
use Rattle.std.proofs.Math.Nat.{div-div-eq-div-mul, mul-add-div_right, mul-div-mul_right, mul-le-mul_left, div-le_of_le-mul, pow-suc}
use Rattle.std.proofs.lemmas.List.{length-drop, length-append}
use Rattle.std.proofs.lemmas.Nat.{pow-add}
use Rattle.gmsh_text.specs.Decimal.{number_from}
use Rattle.gmsh_text.proofs.decimals.Bounds.{ten-pos}
use Rattle.gmsh_text.proofs.decimals.Numbers.{from-drop, from-front, number-append}

-- a number in front of a fraction that was rounded down
pub lower : (s d r c p q : ℕ) → 0 < p → (s * d + (s * r + c) / p) / q ≡ (s * (d * p + r) + c) / (p * q)
lower s d r c p q h =
    let e : (s * d * p + (s * r + c)) / p ≡ s * d + (s * r + c) / p = mul-add-div_right h (s * d) (s * r + c) in
    let f : s * (d * p + r) + c ≡ s * d * p + (s * r + c) = grind arith in
    ap (λ x. x / q) (sym e) ∙ div-div-eq-div-mul (s * d * p + (s * r + c)) p q ∙ ap (λ x. x / (p * q)) (sym f)

-- a multiple in front of a quotient
pub above : (s h x m : ℕ) → 0 < m → s * h + s * x / m ≡ s * (h * m + x) / m
above s h x m p =
    let f : s * (h * m + x) ≡ s * h * m + s * x = grind arith in
    sym (ap (λ x. x / m) f ∙ mul-add-div_right p (s * h) (s * x))

-- one more digit in front
pub lower-step : (s c : ℕ) (ds : List ℕ) (i : ℕ) → 0 < i → i ≤ length ds
    → (s * (get_or ds (i - 1) 0 - 48) + (s * number_from 0 (drop i ds) + c) / 10 ^ (length ds - i)) / 10 ≡ (s * number_from 0 (drop (i - 1) ds) + c) / 10 ^ (length ds - (i - 1))
lower-step s c ds i p h =
    let d = get_or ds (i - 1) 0 - 48 in
    let size : length (drop i ds) ≡ length ds - i = length-drop i ds in
    let same : i - 1 + 1 ≡ i = omega arith in
    let a : number_from 0 (drop (i - 1) ds) ≡ number_from (0 * 10 + d) (drop i ds) =
    from-drop 0 ds (i - 1) (omega arith) ∙ ap (λ k. number_from (0 * 10 + d) (drop k ds)) same in
    let b : number_from 0 (drop (i - 1) ds) ≡ d * 10 ^ (length ds - i) + number_from 0 (drop i ds) =
    a ∙ from-front (0 * 10 + d) (drop i ds) ∙ ap (λ k. (0 * 10 + d) * 10 ^ k + number_from 0 (drop i ds)) size
    ∙ ap (λ k. k * 10 ^ (length ds - i) + number_from 0 (drop i ds)) (omega arith) in
    let e : length ds - (i - 1) ≡ suc (length ds - i) = omega arith in
    let q : 10 ^ (length ds - (i - 1)) ≡ 10 ^ (length ds - i) * 10 = ap (λ k. 10 ^ k) e ∙ pow-suc 10 (length ds - i) in
    lower s d (number_from 0 (drop i ds)) c (10 ^ (length ds - i)) 10 (ten-pos (length ds - i))
    ∙ ap (λ x. (s * x + c) / (10 ^ (length ds - i) * 10)) (sym b)
    ∙ ap (λ x. (s * number_from 0 (drop (i - 1) ds) + c) / x) (sym q)

pub lower-none : (s c : ℕ) (ds : List ℕ) → c ≡ (s * number_from 0 (drop (length ds) ds) + c) / 10 ^ (length ds - length ds)
unfolding number_from
lower-none s c ds =
    let e : length ds - length ds ≡ 0 = omega arith in
    rw (drop-length ds) (rw e (omega arith))

-- the point is moved to the left, in front of all digits
pub left-far : (s : ℕ) (w f : List ℕ) (by : ℕ) → length w ≤ by
    → (s * number_from 0 w + (s * number_from 0 f + 0) / 10 ^ length f) / 10 ^ length w / 10 ^ (by - length w) ≡ s * number_from 0 (w ++ f) / 10 ^ (by + length f)
left-far s w f by h =
    let p = 10 ^ length f in
    let q = 10 ^ length w in
    let r = 10 ^ (by - length w) in
    let a = lower s (number_from 0 w) (number_from 0 f) 0 p q (ten-pos (length f)) in
    let e : by + length f ≡ length f + length w + (by - length w) = omega arith in
    let t : 10 ^ (by + length f) ≡ p * q * r = ap (λ k. 10 ^ k) e ∙ pow-add 10 (length f + length w) (by - length w) ∙ ap (λ x. x * r) (pow-add 10 (length f) (length w)) in
    ap (λ x. x / r) a ∙ div-div-eq-div-mul (s * (number_from 0 w * p + number_from 0 f) + 0) (p * q) r
    ∙ ap (λ x. x / (p * q * r)) (omega arith)
    ∙ ap (λ x. s * x / (p * q * r)) (sym (number-append w f))
    ∙ ap (λ x. s * number_from 0 (w ++ f) / x) (sym t)

-- the point is moved to the left, between digits
pub left-near : (s : ℕ) (h l f : List ℕ)
    → s * number_from 0 h + (s * number_from 0 l + (s * number_from 0 f + 0) / 10 ^ length f) / 10 ^ length l ≡ s * number_from 0 ((h ++ l) ++ f) / 10 ^ (length l + length f)
left-near s h l f =
    let p = 10 ^ length f in
    let q = 10 ^ length l in
    let x = number_from 0 l * p + number_from 0 f in
    let a = lower s (number_from 0 l) (number_from 0 f) 0 p q (ten-pos (length f)) in
    let t : 10 ^ (length l + length f) ≡ p * q = ap (λ k. 10 ^ k) (omega arith) ∙ pow-add 10 (length f) (length l) in
    let pos : 0 < p * q = rw (sym t) (ten-pos (length l + length f)) in
    let n : number_from 0 ((h ++ l) ++ f) ≡ number_from 0 h * (p * q) + x =
    number-append (h ++ l) f ∙ ap (λ y. y * p + number_from 0 f) (number-append h l) ∙ grind arith in
    ap (λ y. s * number_from 0 h + y) (a ∙ ap (λ y. y / (p * q)) (omega arith)) ∙ above s (number_from 0 h) x (p * q) pos
    ∙ ap (λ y. s * y / (p * q)) (sym n) ∙ ap (λ y. s * number_from 0 ((h ++ l) ++ f) / y) (sym t)

-- the point is moved to the right, behind all digits
pub right-far : (s n len by : ℕ) → len ≤ by → s * (n * 10 ^ (by - len)) + 0 ≡ s * n * 10 ^ by / 10 ^ len
right-far s n len by h =
    let e : by ≡ len + (by - len) = omega arith in
    let t : 10 ^ by ≡ 10 ^ len * 10 ^ (by - len) = ap (λ k. 10 ^ k) e ∙ pow-add 10 len (by - len) in
    let m : s * n * 10 ^ by ≡ s * (n * 10 ^ (by - len)) * 10 ^ len + 0 = rw t (grind arith) in
    sym (ap (λ x. x / 10 ^ len) m ∙ mul-add-div_right (ten-pos len) (s * (n * 10 ^ (by - len))) 0 ∙ omega arith)

-- the point is moved to the right, between digits
pub right-near : (s : ℕ) (w a l : List ℕ)
    → s * number_from 0 (w ++ a) + (s * number_from 0 l + 0) / 10 ^ length l ≡ s * number_from 0 (w ++ (a ++ l)) * 10 ^ length a / 10 ^ length (a ++ l)
right-near s w a l =
    let p = 10 ^ length l in
    let q = 10 ^ length a in
    let n = number_from 0 (w ++ (a ++ l)) in
    let e : number_from 0 (w ++ (a ++ l)) ≡ number_from 0 (w ++ a) * p + number_from 0 l =
    ap (number_from 0) (sym (append_assoc w a l)) ∙ number-append (w ++ a) l in
    let t : 10 ^ length (a ++ l) ≡ p * q = ap (λ k. 10 ^ k) (length-append a l ∙ omega arith) ∙ pow-add 10 (length l) (length a) in
    ap (λ y. s * number_from 0 (w ++ a) + y / p) (omega arith) ∙ above s (number_from 0 (w ++ a)) (number_from 0 l) p (ten-pos (length l))
    ∙ ap (λ y. s * y / p) (sym e) ∙ sym (mul-div-mul_right (s * n) p (ten-pos (length a))) ∙ ap (λ y. s * n * q / y) (sym t)

-- a digit is at most nine
pub digit-few : (ds : List ℕ) (i : ℕ) → All (λ c. is_ascii_digit c ≡ true) ds → i < length ds → {d : ℕ} → d ≡ get_or ds i 0 - 48 → d ≤ 9
digit-few ds i h k {d} e =
    let t : is_ascii_digit (get_or ds i 0) ≡ true = h i 0 k in
    grind (arith, nat_tests)

pub low-few : (s d c : ℕ) → d ≤ 9 → c ≤ s → (s * d + c) / 10 ≤ s
low-few s d c h k =
    let p : s * d ≤ s * 9 = mul-le-mul_left s h in
    let b : s * d + c ≤ 10 * s = omega (arith, p, k) in
    div-le_of_le-mul 10 b
