use Rattle.std.proofs.Common.{◌≡◌, ◌≤◌, length, arith, ◌∙◌}
use Rattle.step_judge.proofs.marks.Advance.{back, stands_moved}
use Rattle.step_judge.proofs.marks.marks.StepMarks.stands.Goals as goal

pub invariant_of-self : goal.invariant_of-self
invariant_of-self c =
    let n : length c.self.inside.items.items ≡ c.self.inside.items.len = omega arith in
    let same = back c.self.inside.items.items c.advance-here.new.items c.self.inside.items.len (c.advance-here.ensures.same ∙ c.deref_mut.ensures.value) n in
    let rank = rw (← c.self.view_is) at c.requires.rank in
    let item = rw (← c.self.view_is) at c.requires.item in
    let passed = rw c.deref_mut.ensures.value at c.advance-here.ensures.passed in
    let inside : c.args.item ≤ length c.self.inside.items.items = omega (arith, item) in
    rw same (stands_moved _ _ c.args.rank c.index-from.result.now c.advance-here.result c.args.item c.self.invariant rank c.index-from.ensures c.advance-here.ensures.within inside passed)
