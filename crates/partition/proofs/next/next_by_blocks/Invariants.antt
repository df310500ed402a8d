use Rattle.std.proofs.Common.{◌≡◌, false, not, get_or}
use Rattle.lemmas.specs.Below.{any_below}
use Rattle.partition.proofs.next.next_by_blocks.Given as goal

abbrev pub invariant-loop-set : goal.invariant-loop-set
invariant-loop-set l = any_below l.set (λ s. not (get_or l.known s false)) ≡ false
