use Rattle.std.proofs.Common.{◌≡◌, false, get_or}
use Rattle.lemmas.specs.Below.{any_below}
use Rattle.partition.specs.Derive.{can_follow_names}
use Rattle.partition.proofs.next.next_by_names.Given as goal

abbrev pub invariant-loop-set : goal.invariant-loop-set
invariant-loop-set l = any_below l.set (can_follow_names l.mesh (λ s. get_or l.known s false)) ≡ false
