-- Exponents that are cut at 64 bits round a decimal to the same integer.
use Rattle.std.proofs.Common.{◌≡◌, ℕ, suc, zero, ◌+◌, ◌-◌, ◌*◌, ◌^◌, ◌<◌, ◌≤◌, nat_lt, Bool, true, false, List, [], ◌∷◌, ◌++◌, length, Option, Some, refl, ap, sym, ◌∙◌, arith}
use Rattle.std.specs.Prelude.{◌==◌}
use Rattle.std.proofs.lemmas.Bool.Decides.{nat_tests}
use Rattle.std.proofs.lemmas.Nat.{pow-add}
use Rattle.std.proofs.lemmas.List.{length-append}
use Rattle.std.proofs.Math.Nat.{mul-le-mul_left, pow-le-pow_right}
use Rattle.gmsh_text.specs.Bounded.{cut, IsShift}
use Rattle.gmsh_text.specs.Decimal.{number_from, decimal, power_of, Power}
use Rattle.gmsh_text.specs.Nearest.{nearest, signed, fitted, rounded_from, judged}
use Rattle.gmsh_text.specs.declared.decimals.exponent.Shift.{Shift}
use Rattle.gmsh_text.specs.declared.decimals.exponent.Shift.TheVariants.{Left, Right}
use Rattle.gmsh_text.proofs.decimals.Bounds.{ten-pos}
use Rattle.gmsh_text.proofs.decimals.Rounding.{nearest-none, nearest-large, too-large}

ten-more : (i j : ℕ) → i ≤ j → 10 ^ i ≤ 10 ^ j
ten-more i j h = let t : 0 < 10 = omega arith in pow-le-pow_right t h

-- so far to the left nothing is left of the digits
pub far-left : (s : ℕ) (w f : List ℕ) (k : ℕ) → s < 2 ^ 32 → number_from 0 (w ++ f) < 10 ^ length (w ++ f) → length w + 10 ≤ k
    → nearest (s * number_from 0 (w ++ f) * 10 ^ 0) (10 ^ (k + length f)) ≡ 0
far-left s w f k small low h =
    let n = number_from 0 (w ++ f) in
    let size = length-append w f in
    let a : 10 ^ (10 + length (w ++ f)) ≤ 10 ^ (k + length f) = ten-more (10 + length (w ++ f)) (k + length f) (omega (arith, size)) in
    let b = pow-add 10 10 (length (w ++ f)) in
    let t : n * s ≤ n * 2 ^ 32 = mul-le-mul_left n (omega arith) in
    nearest-none (s * n * 10 ^ 0) (10 ^ (k + length f)) (omega (arith, a, b, t, low))

-- so far to the right digits that are not all 0 leave 32 bits
pub far-right : (s n k l : ℕ) → 0 < s → 0 < n → l + 20 ≤ k → 2 ^ 32 ≤ nearest (s * n * 10 ^ k) (10 ^ l)
far-right s n k l p q h =
    let a : 10 ^ (20 + l) ≤ 10 ^ k = ten-more (20 + l) k (omega arith) in
    let b = pow-add 10 20 l in
    let one : 1 * 1 ≤ s * n = grind (arith, mul-le-mul_left s q) in
    let c : 10 ^ k * 1 ≤ 10 ^ k * (s * n) = mul-le-mul_left (10 ^ k) (omega (arith, one)) in
    nearest-large (s * n * 10 ^ k) (10 ^ l) (ten-pos l) (omega (arith, a, b, c))

pub decimal-some : (minus : Bool) (w f : List ℕ) (p : Power) → 0 < length w + length f
    → decimal minus w f (Some p) ≡ Some (record { negative = minus; digits = number_from 0 (w ++ f); up = p.up; down = p.down + length f })
decimal-some minus [] [] p h = absurd (omega arith)
decimal-some minus [] (d ∷ ds) p h = refl
decimal-some minus (c ∷ cs) [] p h = refl
decimal-some minus (c ∷ cs) (d ∷ ds) p h = refl

module _ (s : ℕ) (minus : Bool) (w f : List ℕ) (pos : 0 < s) (small : s < 2 ^ 32) (lw : length w < 2 ^ 63) (lf : length f < 2 ^ 63)
    (low : number_from 0 (w ++ f) < 10 ^ length (w ++ f)) where
  cut-left : (n : ℕ) → rounded_from s minus w f (Left (cut n)) ≡ fitted (signed minus (nearest (s * number_from 0 (w ++ f) * 10 ^ 0) (10 ^ (n + length f))))
  cut-left n = go (nat_lt n (2 ^ 64)) refl
    where
      go : (b : Bool) → nat_lt n (2 ^ 64) ≡ b → rounded_from s minus w f (Left (cut n)) ≡ fitted (signed minus (nearest (s * number_from 0 (w ++ f) * 10 ^ 0) (10 ^ (n + length f))))
      go true e = rw e refl
      go false e =
          let large : 2 ^ 64 ≤ n = grind (arith, nat_tests) in
          let c : cut n ≡ 2 ^ 64 - 1 = rw e refl in
          let x = far-left s w f (cut n) small low (omega (arith, c)) in
          let y = far-left s w f n small low (omega arith) in
          ap (λ k. fitted (signed minus k)) (x ∙ sym y)

  cut-right : (n : ℕ) → rounded_from s minus w f (Right (cut n)) ≡ fitted (signed minus (nearest (s * number_from 0 (w ++ f) * 10 ^ n) (10 ^ (0 + length f))))
  cut-right n = go (nat_lt n (2 ^ 64)) refl (number_from 0 (w ++ f)) refl
    where
      go : (b : Bool) → nat_lt n (2 ^ 64) ≡ b → (m : ℕ) → number_from 0 (w ++ f) ≡ m
          → rounded_from s minus w f (Right (cut n)) ≡ fitted (signed minus (nearest (s * number_from 0 (w ++ f) * 10 ^ n) (10 ^ (0 + length f))))
      go true e m k = rw e refl
      go false e zero k =
          let a : s * number_from 0 (w ++ f) * 10 ^ cut n ≡ s * number_from 0 (w ++ f) * 10 ^ n = rw k (grind arith) in
          ap (λ x. fitted (signed minus (nearest x (10 ^ (0 + length f))))) a
      go false e (suc m) k =
          let large : 2 ^ 64 ≤ n = grind (arith, nat_tests) in
          let c : cut n ≡ 2 ^ 64 - 1 = rw e refl in
          let some : 0 < number_from 0 (w ++ f) = omega (arith, k) in
          let x = far-right s (number_from 0 (w ++ f)) (cut n) (0 + length f) pos some (omega (arith, c)) in
          let y = far-right s (number_from 0 (w ++ f)) n (0 + length f) pos some (omega arith) in
          too-large minus _ x ∙ sym (too-large minus _ y)

  -- what is rounded from the parts of a decimal is what the reader answers for it
  pub from-parts : (sh : Shift) (p : Option Power) → IsShift (Some sh) p → 0 < length w + length f → rounded_from s minus w f sh ≡ judged (decimal minus w f p) s
  from-parts (Left by) p i h =
      ap (λ k. rounded_from s minus w f (Left k)) i.1 ∙ cut-left i.0
      ∙ sym (ap (λ d. judged d s) (ap (decimal minus w f) i.2 ∙ decimal-some minus w f _ h))
  from-parts (Right by) p i h =
      ap (λ k. rounded_from s minus w f (Right k)) i.1 ∙ cut-right i.0
      ∙ sym (ap (λ d. judged d s) (ap (decimal minus w f) i.2 ∙ decimal-some minus w f _ h))

pub some-first : (n m : ℕ) (b : Bool) → b ≡ (n == 0) → b ≡ false → 0 < n + m
some-first zero m b h k = grind (arith, nat_tests)
some-first (suc n) m b h k = omega arith

pub same-parts : (s : ℕ) (m n : Bool) (w x f g r t : List ℕ) → m ≡ n → w ≡ x → f ≡ g → r ≡ t
    → judged (decimal m w f (power_of r)) s ≡ judged (decimal n x g (power_of t)) s
same-parts s m n w x f g r t a b c d =
    ap (λ k. judged (decimal k w f (power_of r)) s) a ∙ ap (λ k. judged (decimal n k f (power_of r)) s) b
    ∙ ap (λ k. judged (decimal n x k (power_of r)) s) c ∙ ap (λ k. judged (decimal n x g (power_of k)) s) d
