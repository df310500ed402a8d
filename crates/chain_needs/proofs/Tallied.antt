-- One number more is counted.
use Rattle.std.proofs.Common.{◌≡◌, ◌≤◌, ◌+◌, ℕ, Bool, true, false, cond, ap, ◌∙◌, arith}
use Rattle.lemmas.specs.Below.{count_below}
use Rattle.lemmas.proofs.Below.{count_more}

is_one : (n : ℕ) (p : ℕ → Bool) → p n ≡ true → count_below (n + 1) p ≡ count_below n p + 1
is_one n p h = count_more n p ∙ ap (λ b. count_below n p + cond b 1 0) h

is_none : (n : ℕ) (p : ℕ → Bool) → p n ≡ false → count_below (n + 1) p ≡ count_below n p + 0
is_none n p h = count_more n p ∙ ap (λ b. count_below n p + cond b 1 0) h

pub one_more : (n : ℕ) (p : ℕ → Bool) (old new : ℕ) → p n ≡ true → old ≤ n → old ≡ count_below n p → new ≡ old + 1 → (new ≤ n + 1) × (new ≡ count_below (n + 1) p)
one_more n p old new h le is e = (omega arith, (let q : count_below (n + 1) p ≡ count_below n p + 1 = is_one n p h in omega arith))

pub no_more : (n : ℕ) (p : ℕ → Bool) (old new : ℕ) → p n ≡ false → old ≤ n → old ≡ count_below n p → new ≡ old → (new ≤ n + 1) × (new ≡ count_below (n + 1) p)
no_more n p old new h le is e = (omega arith, (let q : count_below (n + 1) p ≡ count_below n p + 0 = is_none n p h in omega arith))
