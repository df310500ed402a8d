use Rattle.std.proofs.Common.{◌≡◌}
use Rattle.loop_plan.specs.Pairs.{pairs_below}
use Rattle.loop_plan.specs.Exports.{passes_by_exports}
use Rattle.loop_plan.proofs.messages.messages.Given as goal

abbrev pub invariant-loop-owner : goal.invariant-loop-owner
invariant-loop-owner l = l.pairs.items ≡ pairs_below (passes_by_exports l.mesh l.halos l.exchange) l.halos.ranks l.owner
