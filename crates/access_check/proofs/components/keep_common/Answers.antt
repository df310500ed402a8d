use Rattle.std.proofs.Common.{rules, ◌≡◌, ◌≤◌, ◌<◌, ◌∙◌, length, arith, length-set}
use Rattle.access_check.specs.States.{has_component}
use Rattle.access_check.proofs.Bits.{common_step, rest_step, common_end}
use Rattle.access_check.proofs.components.keep_common.Goals as goal

pub loop-a-preserved : goal.loop-a-preserved
loop-a-preserved c =
    let words = c.loop-a.components.words in
    let lt : c.loop-a.a < length words = omega (arith, c.loop-a.invariant.sized, c.loop-a-test.true) in
    record {
      sized = length-set words c.loop-a.a _ ∙ c.loop-a.invariant.sized;
      done = common_step words c.args.components.now.words c.args.others.now.words c.loop-a.a lt (c.loop-a.invariant.rest c.loop-a.a (omega arith)) c.loop-a.invariant.done;
      rest = rest_step words c.args.components.now.words c.loop-a.a _ c.loop-a.invariant.rest;
    }

pub returns : goal.returns
unfolding has_component
returns c =
    let long : length c.args.components.now.words ≡ 16 = search rules in
    let end : length c.args.components.now.words ≤ c.loop-a.a = omega (arith, long, c.loop-a-test.false) in
    common_end c.loop-a.components.words c.args.components.now.words c.args.others.now.words c.loop-a.a end c.loop-a.invariant.done c.loop-a.invariant.rest
