use Rattle.std.proofs.Common.{◌∙◌, inr, ap, length, arith}
use Rattle.partition.proofs.part_text.Running.{gather_more, gather_none, gather_end}
use Rattle.partition.proofs.part_text.read.gather.Goals as goal

pub loop-given-preserved : goal.loop-given-preserved
loop-given-preserved c =
    let steps = c.in-Some.ensures.steps in
    let sizes = ap length steps.0 in
    record {
      same = c.loop-given.invariant.same ∙ gather_more c.args.line c.loop-given.sets.items _ c.loop-given.given-iterator.rest.items
          c.next.new.self.rest.items c.in-Some.given c.in-Some-given.owners steps.0 c.in-Some-given.is
          c.in_ok-push-in-Some-given.ensures.items;
      len = omega (arith, sizes, steps.1, c.loop-given.invariant.len);
    }

pub returns-in-None-given : goal.returns-in-None-given
returns-in-None-given c = inr (c.loop-given.invariant.same
    ∙ gather_none c.args.line c.loop-given.sets.items c.loop-given.given-iterator.rest.items c.next.new.self.rest.items c.in-Some.given
    c.in-Some.ensures.steps.0 c.in-None-given.is)

pub returns : goal.returns
returns c = c.loop-given.invariant.same ∙ gather_end c.args.line c.loop-given.given-iterator.rest.len c.loop-given.sets.items
    c.loop-given.given-iterator.rest.items c.loop-given.invariant.len c.in-None.ensures.steps.0
