use Rattle.std.proofs.Common.{◌∙◌, ap, ◌++◌, map, List}
use Rattle.lemmas.specs.Below.{listed}
use Rattle.local_mesh.specs.RankSet.{has}
use Rattle.loop_plan.specs.Pairs.{pair}
use Rattle.loop_plan.specs.declared.types.Pair.{Pair}
use Rattle.loop_plan.proofs.Collecting.{message_next}
use Rattle.loop_plan.proofs.messages.push_messages.Goals as goal

pub loop-rank-preserved : goal.loop-rank-preserved
loop-rank-preserved c =
    let there = c.in-Some.ensures.some in
    ap (λ (z : List Pair). z ++ map (pair c.args.owner) (listed 64 (has c.without-rest.result))) c.in_ok-push.ensures.items
    ∙ message_next c.args.owner c.in-Some.rank c.loop-rank.rest c.without-rest.result c.loop-rank.pairs.items
    (c.args.pairs.now.items ++ map (pair c.args.owner) (listed 64 (has c.args.receivers)))
    there.0 there.1 there.2 c.without-rest.ensures.has c.loop-rank.invariant
