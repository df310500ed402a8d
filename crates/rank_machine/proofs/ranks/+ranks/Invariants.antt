use Rattle.std.proofs.Common.{length}
use Rattle.rank_machine.proofs.ranks.+ranks.Given as goal

abbrev pub decreases-join_mut+arg2 : goal.decreases-join_mut+arg2
decreases-join_mut+arg2 g l = length l.front.now

abbrev pub decreases-join_mut+arg3 : goal.decreases-join_mut+arg3
decreases-join_mut+arg3 g l = length l.back.now

abbrev pub decreases-run_from : goal.decreases-run_from
decreases-run_from g l = length l.parts.now
