-- What the machine asks of a distributed program.
use Rattle.std.specs.Prelude.{◌≡◌, ◌<◌, ℕ, ℤ, true, List, length}
use Rattle.kernel_model.specs.declared.types.faults.KernelFault.{KernelFault}
use Rattle.kernel_code.specs.Codes.{AreCodesOf, HaveRoom}
use Rattle.mesh_decl.specs.Mesh.{set_size}
use Rattle.mesh_decl.specs.declared.owners.Perms.{Perms}
use Rattle.local_mesh.specs.declared.halo_lists.types.Halos.{Halos}
use Rattle.schedule_steps.specs.Outline.{Outline}
use Rattle.schedule_steps.specs.declared.step.Step.{Step}
use Rattle.schedule_steps.specs.declared.step.Step.TheVariants.{Begin}
use Rattle.schedule_steps.specs.Steps.{IsStep}
use Rattle.schedule_model.specs.Program.{is_loop}
use Rattle.schedule_model.specs.Setup.{Setup}
use Rattle.schedule_model.specs.Layout.{Layout, IsLayout, Core, by_place}
use Rattle.bound_program.specs.Values.{BoundValue, bound_of}
use Rattle.run_model.specs.Kernels.{constants}
use Rattle.run_model.specs.Hosts.{variable_cells}
use Rattle.run_model.specs.Laws.{site_of}
use Rattle.run_model.specs.Programs.{item_at, kind_of}
use Rattle.run_model.specs.Ranges.{AllObey}
use Rattle.loop_plan.specs.Values.{PlanValue, plan_of}
use Rattle.loop_plan.specs.StepOutline.{step_outline}
use Rattle.bound_plan.specs.Laws.{Planned}
use Rattle.bound_plan.specs.Windows.{frame_cells}
use Rattle.bound_plan.specs.Variables.{variable_at}
use Rattle.bound_plan.specs.Setups.{setup_of}
use Rattle.bound_plan.specs.Layouts.{layout_of}
use Rattle.rank_state.specs.declared.spans.Span.{Span}
use Rattle.rank_state.specs.declared.scalars.Scalar.{Scalar}
use Rattle.rank_state.specs.Shows.{variables_from, Tables, Indexed, AreWindows}
use Rattle.rank_layout.specs.Tables.{tables_of}
use Rattle.rank_layout.specs.MessageLaws.{HasLists}
use Rattle.rank_program.specs.declared.tasks.Task.{Task}
use Rattle.rank_program.specs.declared.tasks.Targets.{Targets}
use Rattle.rank_layout.specs.Made.{AreMade}
use Rattle.rank_program.specs.Targets.{AllTargets}
use Rattle.rank_program.specs.Keeping.{KeepsIn}
use Rattle.rank_program.specs.declared.program.DistributedProgram.{DistributedProgram}

module _ (c : DistributedProgram) where
  abbrev pub program_in : BoundValue
  program_in = bound_of c.bound.now

  abbrev pub plan_in : PlanValue
  plan_in = plan_of c.plan.now

  abbrev pub setup_in : Setup KernelFault
  setup_in = setup_of program_in c.owners.now c.meshes.now plan_in

  abbrev pub layout_in : Layout KernelFault
  layout_in = layout_of program_in c.owners.now c.meshes.now plan_in

  abbrev pub outline_in : Outline
  outline_in = step_outline program_in c.meshes.now plan_in

  abbrev pub tables_in : Tables
  tables_in = tables_of program_in plan_in

  abbrev pub core_in : ℕ → ℕ → List ℤ → List ℤ → Core KernelFault
  core_in = layout_in.core

  -- the step is one of the program
  abbrev pub HasStep : Step → Type 0
  HasStep s = IsStep (by_place setup_in layout_in) s

  -- the targets of tasks of the item's loop
  abbrev pub targeted_in : ℕ → List Task → List Targets → Type 0
  targeted_in k = AllTargets program_in (site_of program_in k).args

  -- the program can be run on these ranks by its plan, with the codes of its kernels
  pub record Sound : Type 0 where
    pub numbers : Perms
    pub halos : Halos
    pub planned : Planned program_in c.owners.now numbers c.meshes.now plan_in
    pub lists : HasLists program_in c.owners.now numbers c.meshes.now plan_in halos c.lists.now
    pub made : AreMade program_in c.owners.now plan_in c.lists.now c.tables
    pub codes : AreCodesOf program_in.kernels c.codes.now
    pub obey : AllObey program_in
    pub keeps : (k : ℕ) → KeepsIn program_in k
    pub room : HaveRoom c.codes.now c.locals
    pub layout : IsLayout setup_in layout_in
    pub indexed : Indexed setup_in layout_in tables_in
    pub windowed : (k r x : ℕ) → IsStep (by_place setup_in layout_in) (Begin k r x)
        → (spans : List Span) × (scalars : List Scalar) × AreWindows setup_in layout_in tables_in k r x spans scalars
    pub variables : variables_from (variable_at program_in) 0 (length (variable_cells program_in)) ≡ variable_cells program_in

  -- the item is a loop with this element, with so many constants and cells of its frame
  pub record Takes (k e cs ws : ℕ) : Type 0 where
    pub is_loop : is_loop (kind_of (item_at program_in k)) ≡ true
    pub element : e < set_size program_in.mesh (site_of program_in k).set
    pub constants : cs ≡ length (constants program_in)
    pub windows : ws ≡ length (frame_cells program_in (site_of program_in k).args e)
