use Rattle.std.proofs.Common.{arith}
use Rattle.std.proofs.lemmas.List.{length_push}
use Rattle.local_mesh.proofs.rank_sets.Appending.{empty_more}
use Rattle.local_mesh.proofs.rank_sets.lists.empty_lists.Goals as goal

pub loop-rank-preserved : goal.loop-rank-preserved
loop-rank-preserved c = rw c.in_ok-push.ensures.items (
  omega (arith, length_push c.loop-rank.lists.items c.new.result),
  empty_more c.loop-rank.lists.items c.new.result c.loop-rank._rank c.loop-rank.invariant.0 c.new.ensures.items c.loop-rank.invariant.1,
)
