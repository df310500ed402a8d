-- Firsts of the numbers that pass a test.
use Rattle.std.proofs.Common.{◌≡◌, ℕ, ◌<◌, Bool, true, false, sym, ◌∙◌}
use Rattle.std.proofs.lemmas.Bool.{false_from_ne_true}
use Rattle.lemmas.specs.Below.{any_below}
use Rattle.lemmas.proofs.Below.{any_from}
use Rattle.partition.specs.Derive.{IsFirst}

pub none_passes : (n : ℕ) (p : ℕ → Bool) → any_below n p ≡ false → (j : ℕ) → j < n → p j ≡ false
none_passes n p h j l = false_from_ne_true (p j) (λ t. let z : true ≡ false = sym (any_from n p j l t) ∙ h in cc)

-- the first that passes, where none before it does
pub first_from : (n : ℕ) (p : ℕ → Bool) (k : ℕ) → k < n → p k ≡ true → any_below k p ≡ false → IsFirst n p k
first_from n p k l t h = record { within = l; passes = t; before = none_passes k p h }
