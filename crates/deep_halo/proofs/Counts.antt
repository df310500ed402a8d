-- At most all numbers pass.
use Rattle.std.proofs.Common.{◌≤◌, ℕ, zero, suc, Bool, arith}
use Rattle.lemmas.specs.Below.{count_below}
use Rattle.lemmas.proofs.Truth.{cond_bit}

pub count_most : (n : ℕ) (p : ℕ → Bool) → count_below n p ≤ n
count_most zero p = omega arith
count_most (suc n) p = omega (arith, count_most n p, cond_bit (p n))
