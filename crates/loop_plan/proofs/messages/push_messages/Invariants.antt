use Rattle.std.proofs.Common.{◌≡◌, ◌++◌, map}
use Rattle.lemmas.specs.Below.{listed}
use Rattle.local_mesh.specs.RankSet.{has}
use Rattle.loop_plan.specs.Pairs.{pair}
use Rattle.loop_plan.proofs.messages.push_messages.Given as goal

abbrev pub invariant-loop-rank : goal.invariant-loop-rank
invariant-loop-rank l =
    l.pairs.items ++ map (pair l.owner) (listed 64 (has l.rest)) ≡ l.initial.pairs.items ++ map (pair l.owner) (listed 64 (has l.fn.receivers))

abbrev pub decreases-loop-rank : goal.decreases-loop-rank
decreases-loop-rank l = l.rest.bits
