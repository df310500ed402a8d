-- Numbers that are kept while they fit, and powers of ten.
use Rattle.std.proofs.Common.{◌≡◌, ℕ, ◌*◌, ◌^◌, ◌<◌, ◌≤◌, nat_lt, Bool, true, false, None, Some, refl, arith}
use Rattle.std.proofs.lemmas.Bool.Decides.{nat_tests}
use Rattle.std.proofs.Math.Nat.{pow-le-pow_right, mul-le-mul_left}
use Rattle.gmsh_text.specs.Bounded.{bounded}

pub none-large : (n : ℕ) → bounded n ≡ None → 2 ^ 64 ≤ n
none-large n h = go (nat_lt n (2 ^ 64)) refl
  where
    go : (b : Bool) → nat_lt n (2 ^ 64) ≡ b → 2 ^ 64 ≤ n
    go true e = let s : bounded n ≡ Some n = rw e refl in cc
    go false e = grind (arith, nat_tests)

pub large-none : (n : ℕ) → 2 ^ 64 ≤ n → bounded n ≡ None
large-none n h = grind (arith, nat_tests)

pub small-some : (n : ℕ) → n < 2 ^ 64 → bounded n ≡ Some n
small-some n h = grind (arith, nat_tests)

pub some-same : (n m : ℕ) → Some m ≡ bounded n → (m ≡ n) × (n < 2 ^ 64)
some-same n m h = grind (arith, nat_tests)

pub ten-pos : (n : ℕ) → 0 < 10 ^ n
ten-pos n = let z : 0 ≤ n = omega arith in let t : 0 < 10 = omega arith in let p : 10 ^ 0 ≤ 10 ^ n = pow-le-pow_right t z in omega (arith, p)

pub ten-large : (n : ℕ) → 20 ≤ n → 2 ^ 64 ≤ 10 ^ n
ten-large n h = let t : 0 < 10 = omega arith in let p : 10 ^ 20 ≤ 10 ^ n = pow-le-pow_right t h in omega (arith, p)

-- a number that is too large stays so
pub times-large : (n m : ℕ) → 0 < m → 2 ^ 64 ≤ n → 2 ^ 64 ≤ n * m
times-large n m p h = let q : n * 1 ≤ n * m = mul-le-mul_left n (omega arith) in omega (arith, q)
