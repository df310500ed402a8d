-- The checker's cells of a message, and the peak of a list of steps, are those of the machine.
use Rattle.std.specs.Prelude.{◌≡◌, ◌<◌, ℕ, List}
use Rattle.mesh_decl.specs.declared.owners.Owners.{Owners}
use Rattle.mesh_decl.specs.declared.owners.Perms.{Perms}
use Rattle.local_mesh.specs.declared.types.RankMesh.{RankMesh}
use Rattle.schedule_steps.specs.declared.step.Step.{Step}
use Rattle.schedule_steps.specs.declared.peak.Peak.{Peak}
use Rattle.schedule_steps.specs.Steps.{Accepted}
use Rattle.schedule_steps.specs.Peaks.{IsPeak}
use Rattle.schedule_model.specs.Layout.{message_cells}
use Rattle.bound_program.specs.Values.{BoundValue}
use Rattle.loop_plan.specs.Values.{PlanValue}
use Rattle.loop_plan.specs.StepOutline.{step_outline}
use Rattle.schedule_check.specs.Mail.{plan_cells}
use Rattle.bound_plan.specs.Layouts.{layout_of}
use Rattle.bound_plan.specs.Laws.{Planned}
use Rattle.rank_exec.specs.Driving.{FitsPeak}

-- the receiver imports by local meshes the cells that the sender exports
abbrev pub CellsAreExported : Type 0
CellsAreExported =
    (b : BoundValue) (o : Owners) (n : Perms) (meshes : List RankMesh) (p : PlanValue)
    → Planned b o n meshes p
    → (k s r : ℕ) → s < o.ranks → r < o.ranks
    → plan_cells b meshes p k s r ≡ message_cells (layout_of b o meshes p) k s r

-- so no front of an accepted list has more open, or more cells in the mail, than the list's peak says
abbrev pub PeaksAreRoom : Type 0
PeaksAreRoom =
    (b : BoundValue) (o : Owners) (n : Perms) (meshes : List RankMesh) (p : PlanValue)
    → Planned b o n meshes p
    → (l : List Step) (k : Peak)
    → Accepted (step_outline b meshes p) l
    → IsPeak (plan_cells b meshes p) l k
    → FitsPeak (layout_of b o meshes p) k.frames k.mail l
