use Rattle.std.proofs.Common.{◌≡◌, false, get_or}
use Rattle.lemmas.specs.Below.{any_below}
use Rattle.partition.specs.Derive.{can_follow_targets}
use Rattle.partition.proofs.next.next_by_targets.Given as goal

abbrev pub invariant-loop-set : goal.invariant-loop-set
invariant-loop-set l = any_below l.set (can_follow_targets l.mesh (λ s. get_or l.known s false)) ≡ false
