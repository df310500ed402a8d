use Rattle.std.proofs.Common.{◌≡◌, ◌++◌, drop}
use Rattle.explanations.specs.Values.{spaced}
use Rattle.explanations.proofs.error_loops.values.put_spaced.Given as goal

abbrev pub invariant-loop-number : goal.invariant-loop-number
invariant-loop-number l = l.out.items ++ spaced (drop l.number-index l.numbers) ≡ l.fn.out.items ++ spaced l.numbers
