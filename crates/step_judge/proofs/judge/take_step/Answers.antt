use Rattle.std.proofs.Common.{◌≡◌, ◌∙◌, sym, subst, true, false, Some, None}
use Rattle.std.proofs.lemmas.Bool.{false≢true}
use Rattle.schedule_steps.specs.Outline.{Outline}
use Rattle.schedule_steps.specs.Steps.{IsStep}
use Rattle.schedule_steps.specs.Standard.{standard}
use Rattle.schedule_steps.specs.Judged.{is_step, first_of, missing}
use Rattle.step_judge.specs.Marked.{Marked, outline_of, taken, IsReady}
use Rattle.step_judge.specs.Wanted.{wanted, AreMarksOf}
use Rattle.step_judge.proofs.Own.{own}
use Rattle.step_judge.proofs.Judging.{none_ready, missing_same, untaken}
use Rattle.step_judge.proofs.judge.take_step.Goals as goal

pub unreachable-requires : goal.unreachable-requires
unreachable-requires c =
    let v : Marked = c.args.marks.now in
    let o : Outline = outline_of v in
    let m : AreMarksOf o v = own v in
    let st : IsStep (outline_of v) c.args.step = (c.tests_decide.ensures.steps (outline_of v) c.args.step).0 (sym c.has_step.ensures ∙ c.if-not-has_step.false) in
    let free : taken v c.args.step ≡ false = sym c.is_taken.ensures ∙ c.if-is_taken.false in
    let first : (o : Outline) → AreMarksOf o v → None ≡ first_of (wanted v (Some c.args.step)) (standard o 1) =
    subst (λ z. (o : Outline) → AreMarksOf o z → None ≡ first_of (wanted z (Some c.args.step)) (standard o 1)) c.is_ready.ensures.same c.in-None.ensures in
    let steps = c.alike_outlines_judge_alike.ensures.steps (outline_of v) o m.alike in
    let earlier = c.alike_outlines_judge_alike.ensures.earlier (outline_of v) o m.alike in
    let none : missing o (taken v) c.args.step ≡ None =
    sym (missing_same v o steps earlier c.tests_decide.ensures.steps c.tests_decide.ensures.earlier c.tests_decide.ensures.takes c.args.step
    st (c.standard_is_accepted.ensures o 1)) ∙ sym (first o m) in
    let ready : IsReady v c.args.step = none_ready v o steps earlier c.tests_decide.ensures.steps c.tests_decide.ensures.earlier c.tests_decide.ensures.takes c.args.step st free none in
    absurd (false≢true (sym c.if-is_ready.false ∙ c.is_ready.ensures.answer.1 ready))

pub returns-clause-answer : goal.returns-clause-answer
returns-clause-answer c o m =
    let v : Marked = c.args.marks.now in
    let here : is_step (outline_of v) c.args.step ≡ true = sym c.has_step.ensures ∙ c.if-not-has_step.false in
    let st : IsStep (outline_of v) c.args.step = (c.tests_decide.ensures.steps (outline_of v) c.args.step).0 here in
    let free : taken v c.args.step ≡ false = sym c.is_taken.ensures ∙ c.if-is_taken.false in
    let first : (o : Outline) → AreMarksOf o v → Some c.in-Some.missing ≡ first_of (wanted v (Some c.args.step)) (standard o 1) =
    subst (λ z. (o : Outline) → AreMarksOf o z → Some c.in-Some.missing ≡ first_of (wanted z (Some c.args.step)) (standard o 1)) c.is_ready.ensures.same c.in-Some.ensures in
    let steps = c.alike_outlines_judge_alike.ensures.steps (outline_of v) o m.alike in
    let earlier = c.alike_outlines_judge_alike.ensures.earlier (outline_of v) o m.alike in
    let found : missing o (taken v) c.args.step ≡ Some c.in-Some.missing =
    sym (missing_same v o steps earlier c.tests_decide.ensures.steps c.tests_decide.ensures.earlier c.tests_decide.ensures.takes c.args.step
    st (c.standard_is_accepted.ensures o 1)) ∙ sym (first o m) in
    untaken o (taken v) c.args.step (Some c.in-Some.missing) (sym (steps c.args.step) ∙ here) free found
