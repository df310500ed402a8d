-- What a bound program on several ranks, with its plan, gives to the theorem on schedules.
use Rattle.std.specs.Prelude.{◌≡◌, ◌<◌, ◌↔◌, ℕ, List, length}
use Rattle.kernel_model.specs.declared.types.faults.KernelFault.{KernelFault}
use Rattle.mesh_decl.specs.declared.owners.Owners.{Owners}
use Rattle.mesh_decl.specs.declared.owners.Perms.{Perms}
use Rattle.local_mesh.specs.declared.types.RankMesh.{RankMesh}
use Rattle.schedule_steps.specs.declared.step.Step.{Step}
use Rattle.schedule_steps.specs.Steps.{Accepted}
use Rattle.schedule_steps.specs.Alike.{AlikeOutlines}
use Rattle.schedule_model.specs.Setup.{Setup}
use Rattle.schedule_model.specs.Layout.{Layout, IsLayout, by_place}
use Rattle.schedule_model.specs.Flat.{Flat, StartsFlat, flat_from, AgreesFlat}
use Rattle.run_model.specs.OnWindows.{OnWindows}
use Rattle.schedule_model.specs.Laws.{Items, Lawful, Coloured}
use Rattle.schedule_model.specs.LoopParts.{LoopParts}
use Rattle.run_model.specs.Ranges.{AllObey, StartsInRange}
use Rattle.bound_program.specs.Values.{BoundValue, SiteValue}
use Rattle.bound_program.specs.Fits.{Fits}
use Rattle.run_model.specs.Programs.{run_of_program}
use Rattle.run_model.specs.Hosts.{variable_cells}
use Rattle.run_model.specs.Arguments.{modes_of, cell_of}
use Rattle.loop_plan.specs.Values.{PlanValue}
use Rattle.loop_plan.specs.StepOutline.{step_outline}
use Rattle.loop_plan.specs.Proper.{Proper}
use Rattle.loop_plan.specs.Distributed.{IsDistributed}
use Rattle.bound_plan.specs.Places.{cells_of, place_of, cell_at}
use Rattle.bound_plan.specs.Windows.{frame_cells, frame_windows}
use Rattle.bound_plan.specs.Variables.{variable_index, variable_at}
use Rattle.bound_plan.specs.Starts.{first_flat}
use Rattle.bound_plan.specs.Setups.{setup_of}
use Rattle.bound_plan.specs.Layouts.{layout_of}

-- a program on several ranks, with a plan that is proper
pub record Planned (b : BoundValue) (o : Owners) (n : Perms) (meshes : List RankMesh) (p : PlanValue) : Type 0 where
  pub fits : Fits b
  pub distributed : IsDistributed b.mesh o n meshes
  pub proper : Proper b meshes p

-- the steps of the plan are those of the theorem, by places
abbrev pub PlansAreByPlace : Type 0
PlansAreByPlace =
    (b : BoundValue) (o : Owners) (n : Perms) (meshes : List RankMesh) (p : PlanValue)
    → Planned b o n meshes p
    → AlikeOutlines (step_outline b meshes p) (by_place (setup_of b o meshes p) (layout_of b o meshes p))

-- so a list of steps is accepted by the plan exactly where it is accepted by places
abbrev pub PlansAcceptByPlace : Type 0
PlansAcceptByPlace =
    (b : BoundValue) (o : Owners) (n : Perms) (meshes : List RankMesh) (p : PlanValue)
    → Planned b o n meshes p
    → (steps : List Step)
    → Accepted (step_outline b meshes p) steps ↔ Accepted (by_place (setup_of b o meshes p) (layout_of b o meshes p)) steps

-- a planned program whose kernels obey their modes, and that begins with numbers of 32 bits
pub record Runnable (b : BoundValue) (o : Owners) (n : Perms) (meshes : List RankMesh) (p : PlanValue) : Type 0 where
  pub planned : Planned b o n meshes p
  pub obey : AllObey b
  pub start : StartsInRange b

-- the setup has what the theorem on schedules asks of it
abbrev pub SetupsAreLawful : Type 0
SetupsAreLawful =
    (b : BoundValue) (o : Owners) (n : Perms) (meshes : List RankMesh) (p : PlanValue)
    → Runnable b o n meshes p
    → Lawful (setup_of b o meshes p)

-- the colours of a planned program's setup order the elements that modify a common cell
abbrev pub SetupsAreColoured : Type 0
SetupsAreColoured =
    (b : BoundValue) (o : Owners) (n : Perms) (meshes : List RankMesh) (p : PlanValue)
    → Planned b o n meshes p
    → Coloured (setup_of b o meshes p)

-- the parts of a planned program's setup are lawful, each as its own definition says it
abbrev pub SetupsHaveParts : Type 0
SetupsHaveParts =
    (b : BoundValue) (o : Owners) (n : Perms) (meshes : List RankMesh) (p : PlanValue)
    → Planned b o n meshes p
    → Items (setup_of b o meshes p) × LoopParts (setup_of b o meshes p)

-- the layout is that of the setup
abbrev pub LayoutsFit : Type 0
LayoutsFit =
    (b : BoundValue) (o : Owners) (n : Perms) (meshes : List RankMesh) (p : PlanValue)
    → Planned b o n meshes p
    → IsLayout (setup_of b o meshes p) (layout_of b o meshes p)

-- each index of a rank's buffer is its cell's place, and each index of the variables its cell's
pub record HasOneIndex (b : BoundValue) (o : Owners) (meshes : List RankMesh) : Type 0 where
  pub places : (r i : ℕ) → r < o.ranks → i < cells_of meshes r → place_of meshes b.mesh r (cell_at meshes b.mesh r i) ≡ i
  pub variables : (i : ℕ) → i < length (variable_cells b) → variable_index b (variable_at b i) ≡ i

-- in each planned program, cells and their indices in buffers are one to one
abbrev pub CellsHaveOneIndex : Type 0
CellsHaveOneIndex =
    (b : BoundValue) (o : Owners) (n : Perms) (meshes : List RankMesh) (p : PlanValue)
    → Planned b o n meshes p
    → HasOneIndex b o meshes

-- the windows of a frame are the cells that the arguments reach, each once
abbrev pub FramesAreReached : Type 0
FramesAreReached =
    (b : BoundValue) (site : SiteValue) (e : ℕ)
    → OnWindows (modes_of b site) (cell_of b site e) (frame_cells b site.args e) (frame_windows b site.args e)

-- the first state is one in which the machine starts
abbrev pub FirstStatesStart : Type 0
FirstStatesStart = (p : Setup KernelFault) (l : Layout KernelFault) → StartsFlat p l (first_flat p l)

-- every list of steps that the plan accepts runs on flat buffers as the program does in sequence
abbrev pub PlansRunAsSequential : Type 0
PlansRunAsSequential =
    (b : BoundValue) (o : Owners) (n : Perms) (meshes : List RankMesh) (p : PlanValue)
    → Runnable b o n meshes p
    → (f : Flat KernelFault)
    → StartsFlat (setup_of b o meshes p) (layout_of b o meshes p) f
    → (steps : List Step)
    → Accepted (step_outline b meshes p) steps
    → AgreesFlat (setup_of b o meshes p) (layout_of b o meshes p) (run_of_program b)
    (flat_from (setup_of b o meshes p) (layout_of b o meshes p) steps f)
