-- Lists that memory can have.
use Rattle.std.proofs.Common.{ℕ, ◌<◌, ◌≤◌, ◌^◌, Bool, length, arith, cond, suc, zero, true, false}
use Rattle.lemmas.specs.Below.{listed, count_below}
use Rattle.lemmas.proofs.Below.{length_listed}

cond_few : (t : Bool) → cond {A = ℕ} t 1 0 ≤ 1
cond_few true = omega arith
cond_few false = omega arith

pub count_few : (n : ℕ) (p : ℕ → Bool) → count_below n p ≤ n
count_few zero p = omega arith
count_few (suc n) p = let h = count_few n p in let c = cond_few (p n) in omega arith

pub length_few : (n : ℕ) (p : ℕ → Bool) → length (listed n p) ≤ n
length_few n p = let e = length_listed n p in let h = count_few n p in omega arith

pub short_listed : (n : ℕ) (p : ℕ → Bool) → n < 2 ^ 32 → length (listed n p) < 2 ^ 63
short_listed n p l = let e = length_listed n p in let h = count_few n p in omega (arith, e, h, l)
