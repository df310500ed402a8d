use Rattle.std.proofs.Common.{◌≡◌, ◌<◌, ◌≤◌, ◌^◌, ◌∙◌, ℕ, List, [], Vec, length, map, subst, sym, ap, refl, arith}
use Rattle.std.specs.Prelude.{slice_index, slice_index_or}
use Rattle.std.specs.declared.alloc.Global.{Global}
use Rattle.std.proofs.lemmas.List.{length-map}
use Rattle.schedule_steps.specs.Outline.{Outline}
use Rattle.step_judge.specs.Load.{no_load}
use Rattle.step_judge.specs.Marked.{outline_of}
use Rattle.step_judge.specs.Checking.{Checking}
use Rattle.bound_program.specs.Values.{bound_of, BoundValue}
use Rattle.loop_plan.specs.declared.types.ItemPlan.{ItemPlan}
use Rattle.loop_plan.specs.Values.{plan_of, PlanValue, item_plan_of}
use Rattle.loop_plan.specs.StepOutline.{step_outline}
use Rattle.schedule_check.specs.Mail.{rows_of}
use Rattle.schedule_check.specs.PlanChecking.{checking, IsOfPlan, IsNew}
use Rattle.schedule_check.proofs.Distinct.{are_distinct, are_inside}
use Rattle.schedule_check.proofs.Rooms.{room}
use Rattle.schedule_check.proofs.OfPlan.{of_plan_new}
use Rattle.schedule_check.proofs.checker.Checker.new.Goals as goal

pub all_cells-requires-clause-ranks : goal.all_cells-requires-clause-ranks
all_cells-requires-clause-ranks c = are_distinct c.args.bound.now.mesh c.requires.ranks.0 c.args.ranks.now c.requires.ranks.1

pub all_cells-requires-clause-items : goal.all_cells-requires-clause-items
all_cells-requires-clause-items c k l =
    let b : BoundValue = bound_of c.args.bound.now in
    let p : PlanValue = plan_of c.args.plan.now in
    let o : Outline = step_outline b c.args.ranks.now p in
    let same : p.items ≡ map item_plan_of c.deref.result.now = ap (λ (z : List ItemPlan). map item_plan_of z) (sym c.deref.ensures.value) in
    let n : length p.items ≡ length c.deref.result.now = ap (λ z. length z) same ∙ length-map c.deref.result.now item_plan_of in
    are_inside b c.args.ranks.now p c.deref.result.now c.requires.plan same k l (let e : length p.items ≡ length b.trace = c.requires.plan.items in omega arith)

pub new-requires : goal.new-requires
new-requires c =
    let b : BoundValue = bound_of c.args.bound.now in
    let p : PlanValue = plan_of c.args.plan.now in
    let o : Outline = step_outline b c.args.ranks.now p in
    let counts = c.can_count.ensures c.if-not-can_count.false in
    room c.in_ok-marks.marks o (rows_of c.in_ok-cells.cells.items) c.largest.result c.args.plan.now.steps
    c.in_ok-marks.ensures.plan
    c.tests_decide.ensures.steps
    c.standard_is_accepted.ensures
    c.alike_outlines_accept_alike.ensures
    c.accepted_lists_have_all_steps.ensures
    (subst (λ (z : List (Vec ℕ Global)). (k i : ℕ) → slice_index (slice_index_or (rows_of z) k []) i ≤ c.largest.result) c.deref-2.ensures.value c.largest.ensures)
    c.requires.plan.steps
    counts.0
    counts.1

pub invariant_of-result : goal.invariant_of-result
invariant_of-result c =
    let b : BoundValue = bound_of c.args.bound.now in
    let p : PlanValue = plan_of c.args.plan.now in
    let o : Outline = step_outline b c.args.ranks.now p in
    let of : IsOfPlan (checking b c.args.ranks.now p record { marks = c.in_ok-marks.marks; cells = rows_of c.in_ok-cells.cells.items; load = no_load }) =
    of_plan_new b c.args.ranks.now p c.in_ok-marks.marks (rows_of c.in_ok-cells.cells.items) c.deref.result.now c.requires.plan
    (ap (λ (z : List ItemPlan). map item_plan_of z) (sym c.deref.ensures.value))
    c.in_ok-marks.ensures.plan c.in_ok-marks.ensures.items c.in_ok-cells.ensures c.tests_decide.ensures.steps no_load in
    record {
      of_plan = subst (λ (z : Checking). IsOfPlan (checking b c.args.ranks.now p z)) (sym c.new.ensures) of;
      few = subst (λ z. z < 2 ^ 32) c.requires.plan.steps (c.can_count.ensures c.if-not-can_count.false).0;
    }

pub returns : goal.returns
returns c =
    let b : BoundValue = bound_of c.args.bound.now in
    let p : PlanValue = plan_of c.args.plan.now in
    let o : Outline = step_outline b c.args.ranks.now p in
    subst (λ (z : Checking). IsNew b c.args.ranks.now p (checking b c.args.ranks.now p z)) (sym c.new.ensures) (record {
      bound = refl;
      meshes = refl;
      plan = refl;
      marks = λ t st. c.in_ok-marks.ensures.open t
          ((c.tests_decide.ensures.steps (outline_of c.in_ok-marks.marks) t).0
          (c.alike_outlines_judge_alike.ensures.steps (outline_of c.in_ok-marks.marks) o c.in_ok-marks.ensures.plan.alike t
          ∙ (c.tests_decide.ensures.steps o t).1 st));
      load = refl;
    })
