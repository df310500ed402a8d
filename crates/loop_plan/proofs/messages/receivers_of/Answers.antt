use Rattle.std.proofs.Common.{◌≡◌, length, arith}
use Rattle.loop_plan.proofs.Collecting.{all_collected}
use Rattle.loop_plan.proofs.messages.receivers_of.Goals as goal

pub returns : goal.returns
returns c =
    let e : length c.args.exports.now ≡ c.loop-rank.rank = omega (arith, c.loop-rank-test.false, c.loop-rank.auto.rank-end, c.requires) in
    all_collected c.args.exports.now c.loop-rank.receivers c.loop-rank.rank e c.loop-rank.invariant
