use Rattle.std.proofs.Common.{◌≡◌, ◌<◌, ◌/◌, length, get_or, subst}
use Rattle.std.proofs.lemmas.Bool.{false≢true}
use Rattle.std.proofs.lemmas.List.{get_or_read}
use Rattle.std.specs.Prelude.{IsTrue}
use Rattle.step_judge.specs.Marks.{no_marks}
use Rattle.step_judge.proofs.marks.Ends.{may_iff}
use Rattle.step_judge.proofs.marks.places.Places.may_begin.Goals as goal

pub returns-then-not-lower_done-clause-answer : goal.returns-then-not-lower_done-clause-answer
returns-then-not-lower_done-clause-answer c =
    let inside : c.args.place < length c.self.inside.begun.items = rw (← c.self.view_is) at c.requires in
    let may = may_iff _ c.args.place c.self.invariant inside in
    let low = rw c.stage-colour.ensures at c.lower_done.ensures.answer in
    rw (← c.self.view_is)
    ((λ f. absurd (false≢true f)), (λ h. subst IsTrue c.if-not-lower_done.true (low.1 (may.1 h).0)))

pub returns-clause-answer : goal.returns-clause-answer
returns-clause-answer c =
    let inside : c.args.place < length c.self.inside.begun.items = rw (← c.self.view_is) at c.requires in
    let block : c.args.place / c.self.inside.size < length c.self.inside.blocks.items = c.self.invariant.block_in c.args.place inside in
    let may = may_iff _ c.args.place c.self.invariant inside in
    let low = rw c.stage-colour.ensures at c.lower_done.ensures.answer in
    let read : c.index.result.now ≡ get_or c.self.inside.blocks.items (c.args.place / c.self.inside.size) no_marks = get_or_read _ _ _ block c.index.ensures no_marks in
    let wrote : c.index_mut.result.now ≡ get_or c.self.inside.blocks.items (c.args.place / c.self.inside.size) no_marks = get_or_read _ _ _ block c.index_mut.ensures.value no_marks in
    let stage = rw read at c.stage-inner.ensures in
    let here = rw (wrote, stage) at c.lower_done-2.ensures.answer in
    rw (← c.self.view_is)
    ((λ yes. may.0 (low.0 c.if-not-lower_done.false, here.0 yes)), (λ h. here.1 (may.1 h).1))
