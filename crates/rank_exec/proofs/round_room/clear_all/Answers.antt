use Rattle.std.proofs.Common.{arith}
use Rattle.rank_exec.proofs.GatheredGroups.{all_empty}
use Rattle.rank_exec.proofs.round_room.clear_all.Goals as goal

pub returns-clause-empty : goal.returns-clause-empty
returns-clause-empty c =
    let over = c.loop-rank-test.false in
    all_empty c.loop-rank.lists (λ r d lt. c.loop-rank.invariant.empty r d (omega arith) (omega (arith, lt, over)))
