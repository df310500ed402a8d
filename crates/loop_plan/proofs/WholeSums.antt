-- A sum of counts is at least any of them with those before it.
use Rattle.std.proofs.Common.{◌≡◌, ◌<◌, ◌≤◌, ◌+◌, ℕ, zero, suc, Option, None, Some, IfNone, ⊎_elim, subst, sym, arith}
use Rattle.std.proofs.lemmas.Bool.{cases_lt}
use Rattle.loop_plan.specs.Counted.{sum_below}

pub counts_within : (f : ℕ → ℕ) (k n : ℕ) → k < n → sum_below f k + f k ≤ sum_below f n
counts_within f k zero lt = absurd (omega (arith, lt))
counts_within f k (suc n) lt =
    ⊎_elim
    (λ (l : k < n). let rest : sum_below f k + f k ≤ sum_below f n = counts_within f k n l in omega arith)
    (λ (g : n ≤ k). let e : k ≡ n = omega arith in subst (λ z. sum_below f z + f z ≤ sum_below f n + f n) (sym e) (omega arith))
    (cases_lt k n)

pub where_none : {A : Type 0} (P : Type 0) (r : Option A) → P → IfNone r P
where_none P None p = p
where_none P (Some x) p = tt
