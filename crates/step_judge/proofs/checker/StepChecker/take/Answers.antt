use Rattle.std.proofs.Common.{◌≡◌, ◌≤◌, ◌∙◌, ℕ, false, true, List, map, Vec, sym, subst, ap, Err}
use Rattle.std.specs.Prelude.{Result, Ok}
use Rattle.std.specs.Result.{IsErr, IsErrAnd}
use Rattle.std.specs.declared.alloc.Global.{Global as GlobalValue}
use Rattle.std.proofs.lemmas.Bool.{false≢true}
use Rattle.schedule_steps.specs.Judged.{is_step}
use Rattle.step_judge.specs.Load.{HasCells}
use Rattle.step_judge.specs.Marked.{Marked, outline_of, taken}
use Rattle.step_judge.specs.declared.refusal.ScheduleRefusal.{ScheduleRefusal}
use Rattle.step_judge.specs.Verdicts.{judged}
use Rattle.step_judge.specs.Wanted.{AreMarksOf}
use Rattle.step_judge.specs.Checking.{Checking, cells_in, step_cells}
use Rattle.step_judge.proofs.Own.{own}
use Rattle.step_judge.proofs.Room.{judged_well, one_fits, message_fits, room_after, has_cells, at_most}
use Rattle.step_judge.proofs.checker.StepChecker.take.Goals as goal

abbrev rows : List (Vec ℕ GlobalValue) → List (List ℕ)
rows xs = map (λ (v : Vec ℕ GlobalValue). v.items) xs

err_is : (r : Result (Unit {0}) ScheduleRefusal) (e : ScheduleRefusal) → IsErr r → IsErrAnd r (λ x. x ≡ e) → r ≡ Err e
err_is (Ok a) e i h = absurd (false≢true i)
err_is (Err x) e i h = ap Err h

pub returns-in_err-take_step-clause-answer : goal.returns-in_err-take_step-clause-answer
returns-in_err-take_step-clause-answer c o m =
    let h : AreMarksOf o c.self.inside.marks = rw (← c.self.view_is) at m in
    let a = c.in_err-take_step.ensures.answer o h in
    let same : judged o (taken c.self.inside.marks) c.args.step ≡ judged o (taken c.args.self.now.marks) c.args.step = ap (λ (z : Checking). judged o (taken z.marks) c.args.step) c.self.view_is in
    err_is c.from_residual.result c.in_err-take_step.field-0.0 c.from_residual.ensures.0 c.from_residual.ensures.1 ∙ (a ∙ same)

pub after-self-inside-requires-clause-frames : goal.after-self-inside-requires-clause-frames
after-self-inside-requires-clause-frames c =
    let v : Marked = c.self.inside.marks in
    let well : (is_step (outline_of v) c.args.step ≡ true) × (taken v c.args.step ≡ false) =
    judged_well (outline_of v) (taken v) c.args.step (c.in_ok-take_step.ensures.answer (outline_of v) (own v)) in
    one_fits v c.take_step.new.marks (rows c.self.inside.cells.items) c.self.inside.load.open_elements c.self.inside.load.cells c.args.step c.self.invariant c.in_ok-take_step.ensures.ok well.0 well.1

pub after-self-inside-requires-clause-mail : goal.after-self-inside-requires-clause-mail
after-self-inside-requires-clause-mail c =
    let v : Marked = c.self.inside.marks in
    let cells : List (List ℕ) = rows c.self.inside.cells.items in
    let well : (is_step (outline_of v) c.args.step ≡ true) × (taken v c.args.step ≡ false) =
    judged_well (outline_of v) (taken v) c.args.step (c.in_ok-take_step.ensures.answer (outline_of v) (own v)) in
    let e : c.cells_of-cells.result ≡ step_cells (cells_in cells v) c.args.step = rw (← c.self.view_is) at c.cells_of-cells.ensures in
    message_fits v c.take_step.new.marks cells c.self.inside.load.open_elements c.self.inside.load.cells c.args.step c.self.invariant c.in_ok-take_step.ensures.ok well.0 well.1 c.cells_of-cells.result
    (subst (λ z. z ≤ c.self.invariant.most) (sym e) (at_most (cells_in cells v) c.self.invariant.most c.self.invariant.messages c.args.step))

pub invariant_of-self-2 : goal.invariant_of-self-2
invariant_of-self-2 c =
    let v : Marked = c.self.inside.marks in
    let cells : List (List ℕ) = rows c.self.inside.cells.items in
    let well : (is_step (outline_of v) c.args.step ≡ true) × (taken v c.args.step ≡ false) =
    judged_well (outline_of v) (taken v) c.args.step (c.in_ok-take_step.ensures.answer (outline_of v) (own v)) in
    let e : c.cells_of-cells.result ≡ step_cells (cells_in cells v) c.args.step = rw (← c.self.view_is) at c.cells_of-cells.ensures in
    let loads = c.after-self-inside.ensures (cells_in cells v) (subst (λ z. HasCells (cells_in cells v) c.args.step z) (sym e) (has_cells (cells_in cells v) c.args.step)) in
    rw loads (room_after v c.take_step.new.marks cells c.self.inside.load.open_elements c.self.inside.load.cells c.args.step c.self.invariant c.in_ok-take_step.ensures.ok well.0 well.1)
