use Rattle.std.proofs.Common.{◌≡◌, ℕ, List, ap, sym, subst, ◌∙◌}
use Rattle.kernel_code.specs.Codes.{AreCodesOf}
use Rattle.local_mesh.specs.declared.types.RankMesh.{RankMesh}
use Rattle.local_mesh.specs.declared.lists.LocalLists.{LocalLists}
use Rattle.local_mesh.specs.LocalMesh.{AreRankMeshes}
use Rattle.local_mesh.specs.Lists.{AreLocalLists}
use Rattle.bound_program.specs.Values.{bound_of}
use Rattle.run_model.specs.Ranges.{AllObey, StartsInRange}
use Rattle.schedule_steps.specs.Outline.{Outline}
use Rattle.schedule_steps.specs.declared.step.Step.{Step}
use Rattle.schedule_steps.specs.Steps.{Accepted}
use Rattle.schedule_steps.specs.Peaks.{IsPeak}
use Rattle.schedule_steps.specs.Standard.{standard}
use Rattle.schedule_steps.specs.Drawn.{IsDrawn}
use Rattle.schedule_check.specs.Mail.{plan_cells}
use Rattle.bound_plan.specs.Memories.{dump_of}
use Rattle.loop_plan.specs.Planned.{PlannedValue}
use Rattle.rank_program.specs.Runnables.{HasLocalLists}
use Rattle.rank_program.specs.declared.program.DistributedProgram.{DistributedProgram}
use Rattle.rank_program.specs.Sound.{program_in, plan_in, layout_in, outline_in}
use Rattle.rank_exec.specs.Driving.{FitsPeak}
use Rattle.rank_exec.specs.Runs.{IsRunBy}
use Rattle.rank_exec.specs.Orders.{InOrder, CanTake}
use Rattle.rank_exec.specs.declared.planned_run.orders.Order.{Order}
use Rattle.rank_exec.proofs.planned_run.SameProgram.{told, can_take}
use Rattle.rank_exec.proofs.planned_run.running.run_on_ranks.Goals as goal

-- orders of one outline with one group
one_order : {o n : Outline} {g h : ℕ} → o ≡ n → g ≡ h → standard o g ≡ standard n h
one_order {o} {n} {g} {h} e f = ap (λ z. standard z g) e ∙ ap (λ z. standard n z) f

accepted_alike : {o n : Outline} {l : List Step} → o ≡ n → Accepted o l → Accepted n l
accepted_alike {o} {n} {l} e a = subst (λ z. Accepted z l) e a

drawn_alike : {o n : Outline} {g h : ℕ} (seed : ℕ) (l : List Step) → o ≡ n → g ≡ h → IsDrawn o g seed l → IsDrawn n h seed l
drawn_alike {o} {n} {g} {h} seed l e f d = subst (λ z. IsDrawn z h seed l) e (subst (λ z. IsDrawn o z seed l) f d)

pub local_lists-requires-clause-meshes : goal.local_lists-requires-clause-meshes
local_lists-requires-clause-meshes g c =
    let p = c.planned.inside in
    let fit = c.planned.invariant in (
      fit.numbers,
      fit.distributed.are_perms,
      subst (λ (ms : List RankMesh). AreRankMeshes p.bound.now.mesh p.distribution.owners fit.numbers ms)
          (sym c.as_slice-meshes.ensures.value) fit.distributed.are_meshes,
    )

pub new-requires-clause-lists : goal.new-requires-clause-lists
new-requires-clause-lists g c =
    let p = c.planned.inside in
    subst (λ (v : PlannedValue). HasLocalLists v c.deref-2.result.now) c.planned.view_is
    (subst (λ (ms : List RankMesh). AreLocalLists p.bound.now.mesh p.distribution.owners p.distribution.halos ms c.deref-2.result.now)
    c.as_slice-meshes.ensures.value
    (subst (λ (ls : List LocalLists). AreLocalLists p.bound.now.mesh p.distribution.owners p.distribution.halos c.as_slice-meshes.result.now
    ls)
    (sym c.deref-2.ensures.value) c.in_ok-lists.ensures))

pub new-requires-clause-codes : goal.new-requires-clause-codes
new-requires-clause-codes g c =
    subst (λ (v : PlannedValue). AreCodesOf (bound_of v.bound).kernels c.deref-3.result.now) c.planned.view_is
    (rw c.deref-3.ensures.value (rw c.deref.ensures.value at c.in_ok-codes.ensures))

pub run_planned-requires-clause-start : goal.run_planned-requires-clause-start
run_planned-requires-clause-start g c κs within = subst StartsInRange (sym c.in_ok-program.ensures.of_bound) c.requires.start

pub run_planned-requires-clause-accepted : goal.run_planned-requires-clause-accepted
run_planned-requires-clause-accepted g c κs within =
    accepted_alike (c.in_ok-shape-in-Standard.ensures.outline ∙ ap outline_in c.parts-parts.ensures.are) c.in_ok-steps-in-Standard.ensures.accepted

pub run_planned-requires-clause-peak : goal.run_planned-requires-clause-peak
run_planned-requires-clause-peak g c κs within =
    let x = c.in_ok-program.program in
    let room = c.in_ok-room-in-Standard.room in
    subst (λ (z : List Step). FitsPeak (layout_in x) room.frames room.mail z)
    (sym (c.in_ok-steps-in-Standard.ensures.order ∙ one_order (c.in_ok-shape-in-Standard.ensures.outline ∙ ap outline_in c.parts-parts.ensures.are)
    c.in_ok-shape-in-Standard.ensures.group))
    c.in_ok-room-in-Standard.ensures

pub returns-in-Standard : goal.returns-in-Standard
returns-in-Standard g c =
    let x = c.in_ok-program.program in
    let out = c.in_ok-outcome-in-Standard.outcome in
    told c.args.planned.now x c.in_ok-program.ensures c.args.order.now c.args.dumps out
    (λ l e. subst (λ (z : List Step). IsRunBy (program_in x) (dump_of c.args.dumps (program_in x) x.owners.now x.meshes.now (plan_in x) z)
    out)
    (c.in_ok-steps-in-Standard.ensures.order ∙
    (one_order (c.in_ok-shape-in-Standard.ensures.outline ∙ ap outline_in c.parts-parts.ensures.are) c.in_ok-shape-in-Standard.ensures.group ∙ sym
    (subst (λ (z : Order). InOrder (outline_in x) z l) c.in-Standard.is e)))
    c.in_ok-outcome-in-Standard.ensures)

pub run_planned-requires-in-Drawn-clause-start : goal.run_planned-requires-in-Drawn-clause-start
run_planned-requires-in-Drawn-clause-start g c κs within = subst StartsInRange (sym c.in_ok-program.ensures.of_bound) c.requires.start

pub peak_of-requires-clause-ranks : goal.peak_of-requires-clause-ranks
peak_of-requires-clause-ranks g c =
    let s = c.parts-parts.ensures.sound in (
      s.halos,
      record {
        owners = c.parts-parts.result.now.owners.now;
        numbers = s.numbers;
        are_halos = s.lists.halos;
        distributed = s.planned.distributed;
      },
    )

pub run_planned-requires-in-Drawn-clause-accepted : goal.run_planned-requires-in-Drawn-clause-accepted
run_planned-requires-in-Drawn-clause-accepted g c κs within =
    accepted_alike (c.in_ok-shape-in-Drawn.ensures.outline ∙ ap outline_in c.parts-parts.ensures.are) c.in_ok-again-in-Drawn.ensures.accepted

pub run_planned-requires-in-Drawn-clause-peak : goal.run_planned-requires-in-Drawn-clause-peak
run_planned-requires-in-Drawn-clause-peak g c κs within =
    let x = c.in_ok-program.program in
    let s = c.is_sound.ensures in
    let e : c.in_ok-steps-in-Drawn.steps ≡ c.in_ok-again-in-Drawn.again = c.drawn_once.ensures (outline_in x) c.in-Drawn.group
    c.in-Drawn.seed c.in_ok-steps-in-Drawn.steps c.in_ok-again-in-Drawn.again
    (drawn_alike c.in-Drawn.seed c.in_ok-steps-in-Drawn.steps (c.in_ok-shape-in-Drawn.ensures.outline ∙ ap outline_in c.parts-parts.ensures.are) c.in_ok-shape-in-Drawn.ensures.group
    c.in_ok-steps-in-Drawn.ensures.drawn)
    (drawn_alike c.in-Drawn.seed c.in_ok-again-in-Drawn.again (c.in_ok-shape-in-Drawn.ensures.outline ∙ ap outline_in c.parts-parts.ensures.are) c.in_ok-shape-in-Drawn.ensures.group
    c.in_ok-again-in-Drawn.ensures.drawn) in
    c.peaks_are_room.ensures.room (program_in x) x.owners.now s.numbers x.meshes.now (plan_in x) s.planned
    c.in_ok-again-in-Drawn.again c.in_ok-peak-in-Drawn.peak
    (accepted_alike (c.in_ok-shape-in-Drawn.ensures.outline ∙ ap outline_in c.parts-parts.ensures.are) c.in_ok-again-in-Drawn.ensures.accepted)
    (subst (λ (l : List Step). IsPeak (plan_cells (program_in x) x.meshes.now (plan_in x)) l c.in_ok-peak-in-Drawn.peak) e
    (subst (λ (d : DistributedProgram). IsPeak (plan_cells (program_in d) d.meshes.now (plan_in d)) c.in_ok-steps-in-Drawn.steps c.in_ok-peak-in-Drawn.peak) c.parts-parts.ensures.are
    c.in_ok-peak-in-Drawn.ensures))

pub returns-in-Drawn : goal.returns-in-Drawn
returns-in-Drawn g c =
    let x = c.in_ok-program.program in
    let out = c.in_ok-outcome-in-Drawn.outcome in
    told c.args.planned.now x c.in_ok-program.ensures c.args.order.now c.args.dumps out
    (λ l e. subst (λ (z : List Step). IsRunBy (program_in x) (dump_of c.args.dumps (program_in x) x.owners.now x.meshes.now (plan_in x) z)
    out)
    (c.drawn_once.ensures (outline_in x) c.in-Drawn.group c.in-Drawn.seed c.in_ok-again-in-Drawn.again l
    (drawn_alike c.in-Drawn.seed c.in_ok-again-in-Drawn.again (c.in_ok-shape-in-Drawn.ensures.outline ∙ ap outline_in c.parts-parts.ensures.are)
    c.in_ok-shape-in-Drawn.ensures.group c.in_ok-again-in-Drawn.ensures.drawn)
    (subst (λ (z : Order). InOrder (outline_in x) z l) c.in-Drawn.is e))
    c.in_ok-outcome-in-Drawn.ensures)

pub run_planned-requires-in-Listed-clause-start : goal.run_planned-requires-in-Listed-clause-start
run_planned-requires-in-Listed-clause-start g c κs within = subst StartsInRange (sym c.in_ok-program.ensures.of_bound) c.requires.start

pub run_planned-requires-in-Listed-clause-accepted : goal.run_planned-requires-in-Listed-clause-accepted
run_planned-requires-in-Listed-clause-accepted g c κs within =
    let x = c.in_ok-program.program in
    let can = subst (λ (z : Order). CanTake (outline_in x) (plan_cells (program_in x) x.meshes.now (plan_in x)) z) c.in-Listed.is
    (can_take c.args.planned.now x c.in_ok-program.ensures c.args.order.now c.requires.order) in
    subst (Accepted (outline_in x)) (sym c.new-steps.ensures) can.0

pub run_planned-requires-in-Listed-clause-peak : goal.run_planned-requires-in-Listed-clause-peak
run_planned-requires-in-Listed-clause-peak g c κs within =
    let s = c.is_sound.ensures in
    let x = c.in_ok-program.program in
    let can = subst (λ (z : Order). CanTake (outline_in x) (plan_cells (program_in x) x.meshes.now (plan_in x)) z) c.in-Listed.is
    (can_take c.args.planned.now x c.in_ok-program.ensures c.args.order.now c.requires.order) in
    subst (λ (z : List Step). FitsPeak (layout_in x) c.in-Listed.peak.frames c.in-Listed.peak.mail z) (sym c.new-steps.ensures)
    (c.peaks_are_room.ensures.room (program_in x) x.owners.now s.numbers x.meshes.now (plan_in x) s.planned c.in-Listed.steps.now
    c.in-Listed.peak can.0 can.1)

pub returns : goal.returns
returns g c =
    let x = c.in_ok-program.program in
    let out = c.in_ok-outcome-in-Listed.outcome in
    told c.args.planned.now x c.in_ok-program.ensures c.args.order.now c.args.dumps out
    (λ l e. subst (λ (z : List Step). IsRunBy (program_in x) (dump_of c.args.dumps (program_in x) x.owners.now x.meshes.now (plan_in x) z)
    out)
    (c.new-steps.ensures ∙ sym (subst (λ (z : Order). InOrder (outline_in x) z l) c.in-Listed.is e))
    c.in_ok-outcome-in-Listed.ensures)
