-- The nearest integer to a fraction.
use Rattle.std.proofs.Common.{◌≡◌, ℕ, suc, zero, ◌+◌, ◌-◌, ◌*◌, ◌/◌, ◌%◌, ◌^◌, ◌<◌, ◌≤◌, Bool, true, false, List, [], ◌∷◌, length, Some, None, Err, min, refl, ap, sym, ◌∙◌, arith}
use Rattle.std.specs.Char.{is_ascii_digit}
use Rattle.std.specs.List.{All}
use Rattle.std.proofs.lemmas.Bool.Decides.{nat_tests}
use Rattle.std.proofs.lemmas.Nat.{le-div}
use Rattle.std.proofs.Math.Nat.{div-div-eq-div-mul, add-mul-div_right, div-eq_of_lt, mul-le-mul_left, pow-suc}
use Rattle.gmsh_text.specs.Bounded.{bounded}
use Rattle.gmsh_text.specs.Decimal.{number_from}
use Rattle.gmsh_text.specs.Nearest.{nearest, signed, fitted}
use Rattle.gmsh_text.specs.declared.decimals.reading.DecimalRefusal.TheVariants.{TooLarge}
use Rattle.gmsh_text.proofs.decimals.Bounds.{none-large, some-same}
use Rattle.gmsh_text.proofs.decimals.Numbers.{from-front}
use Rattle.gmsh_text.proofs.decimals.Quotients.{digit-few}

up-half : (x : ℕ) → (x + 1) / 2 ≡ x / 2 + min 1 (x % 2)
up-half x = omega arith

-- half of twice a fraction, rounded down, is rounded up
pub half : (m d : ℕ) → 0 < d → nearest m d ≡ 2 * m / d / 2 + min 1 (2 * m / d % 2)
half m d h =
    let e : (2 * m + 1 * d) / d ≡ 2 * m / d + 1 = add-mul-div_right (2 * m) 1 h in
    let f : 2 * m + d ≡ 2 * m + 1 * d = omega arith in
    let g : 2 * d ≡ d * 2 = omega arith in
    ap (λ x. (2 * m + d) / x) g ∙ sym (div-div-eq-div-mul (2 * m + d) d 2) ∙ ap (λ x. x / d / 2) f ∙ ap (λ x. x / 2) e ∙ up-half (2 * m / d)

-- a number beyond 32 bits is refused
pub too-large : (minus : Bool) (n : ℕ) → 2 ^ 32 ≤ n → fitted (signed minus n) ≡ Err TooLarge
too-large true zero h = absurd (omega arith)
too-large true (suc n) h = grind (arith, nat_tests)
too-large false n h = grind (arith, nat_tests)

-- a fraction that is that large
pub nearest-large : (m d : ℕ) → 0 < d → 2 ^ 32 * d ≤ m → 2 ^ 32 ≤ nearest m d
nearest-large m d p h = le-div (2 ^ 32) (2 * m + d) (2 * d) (omega arith) (omega arith)

-- one below a half
pub nearest-none : (m d : ℕ) → 2 * m < d → nearest m d ≡ 0
nearest-none m d h = div-eq_of_lt (omega arith)

-- what half of a product gives, where it fits
pub rounded-some : (s t n a d twice : ℕ) → t ≡ s → 0 < d → Some twice ≡ bounded (t * 2 * n * a / d) → twice / 2 + min 1 (twice % 2) ≡ nearest (s * n * a) d
rounded-some s t n a d twice e p h =
    let q : twice ≡ t * 2 * n * a / d = some-value h in
    let m : t * 2 * n * a ≡ 2 * (s * n * a) = rw e (grind arith) in
    ap (λ x. x / 2 + min 1 (x % 2)) (q ∙ ap (λ x. x / d) m) ∙ sym (half (s * n * a) d p)
  where
    some-value : {x y : ℕ} → Some x ≡ bounded y → x ≡ y
    some-value {x} {y} k = (some-same y x k).0

-- and where it does not
pub rounded-none : (s t n a d : ℕ) → t ≡ s → 0 < d → None ≡ bounded (t * 2 * n * a / d) → 2 ^ 32 ≤ nearest (s * n * a) d
rounded-none s t n a d e p h =
    let l = none-large (t * 2 * n * a / d) (sym h) in
    let m : t * 2 * n * a ≡ 2 * (s * n * a) = rw e (grind arith) in
    let k : 2 ^ 64 ≤ 2 * (s * n * a) / d = rw (sym m) l in
    rw (half (s * n * a) d p) (omega (arith, k))

-- digits spell less than ten to their number
pub number-low : (ds : List ℕ) → All (λ c. is_ascii_digit c ≡ true) ds → number_from 0 ds < 10 ^ length ds
unfolding number_from
number-low [] h = omega arith
number-low (d ∷ ds) h =
    let few : d - 48 ≤ 9 = digit-few (d ∷ ds) 0 h (omega arith) refl in
    let rest = number-low ds (λ k x l. h (suc k) x (omega (arith, l))) in
    let e = from-front (0 * 10 + (d - 48)) ds in
    let p : 10 ^ suc (length ds) ≡ 10 ^ length ds * 10 = pow-suc 10 (length ds) in
    let m : 10 ^ length ds * (d - 48) ≤ 10 ^ length ds * 9 = mul-le-mul_left (10 ^ length ds) few in
    rw p (grind (arith, e, rest, m))
