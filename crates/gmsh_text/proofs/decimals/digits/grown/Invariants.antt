use Rattle.std.proofs.Common.{◌≡◌, ℕ}
use Rattle.gmsh_text.specs.Bounded.{bounded}
use Rattle.gmsh_text.proofs.decimals.Numbers.{IsSoFar}
use Rattle.gmsh_text.proofs.decimals.digits.grown.Given as goal

abbrev pub invariant-loop-digit : goal.invariant-loop-digit
invariant-loop-digit l = (n : ℕ) → l.fn.value ≡ bounded n → IsSoFar n l.digits l.digit-index l.value
