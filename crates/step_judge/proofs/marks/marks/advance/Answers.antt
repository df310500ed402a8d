use Rattle.std.proofs.Common.{◌<◌, length, arith, inl}
use Rattle.step_judge.proofs.marks.Advance.{unchanged, passed_more}
use Rattle.step_judge.proofs.marks.marks.advance.Goals as goal

pub loop-here-preserved : goal.loop-here-preserved
loop-here-preserved c =
    let lt : c.loop-here.here < length c.args.items.now = (let t = c.requires.to in omega arith) in
    record {
      same = unchanged _ _ _ _ _ c.loop-here.invariant.same c.is_complete.ensures.same;
      from = (let f = c.loop-here.invariant.from in omega arith);
      within = inl (omega arith);
      passed = passed_more _ _ _ _ c.args.rank _ c.loop-here.invariant.same lt (c.is_complete.ensures.answer.0 c.if-is_complete.true) c.loop-here.invariant.passed;
    }
