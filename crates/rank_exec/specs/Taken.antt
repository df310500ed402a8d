-- Steps of a program on the machine: that they can be taken, and that they were.
use Rattle.std.specs.Prelude.{List, Option}
use Rattle.kernel_model.specs.declared.types.faults.KernelFault.{KernelFault}
use Rattle.schedule_steps.specs.declared.step.Step.{Step}
use Rattle.schedule_model.specs.Sequential.{Stop}
use Rattle.schedule_model.specs.Flat.{Flat, flat_step}
use Rattle.rank_state.specs.Machine.{State}
use Rattle.rank_program.specs.declared.program.DistributedProgram.{DistributedProgram}
use Rattle.rank_program.specs.Sound.{setup_in, layout_in, tables_in}
use Rattle.rank_machine.specs.Shown.{ShowsState}
use Rattle.rank_exec.specs.Closed.{GroupsAreAlone}
use Rattle.rank_exec.specs.Driving.{Ready, ComeReady, Done, After}

module _ (c : DistributedProgram) where
  -- the step can be taken
  abbrev pub IsReady : Step → State KernelFault → Type 0
  IsReady s m = Ready (setup_in c) (layout_in c) (tables_in c) s m

  -- so can the steps that come, one after another
  abbrev pub AreReady : List Step → State KernelFault → Type 0
  AreReady come m = ComeReady (setup_in c) (layout_in c) (tables_in c) come m

  -- closed groups among them leave what their elements leave one after another
  abbrev pub GroupsAlone : List Step → Type 0
  GroupsAlone come = GroupsAreAlone (setup_in c) (layout_in c) come

  -- the steps were taken
  abbrev pub StepsDone : List Step → (old new : State KernelFault) → Type 0
  StepsDone steps old new = Done (setup_in c) (layout_in c) (tables_in c) steps old new

  -- whatever state the machine showed, it shows what the step makes of it, or stops as that does
  abbrev pub StepEnds : Step → Option (Stop KernelFault) → (old new : State KernelFault) → Type 0
  StepEnds s stop old new =
      (f : Flat KernelFault) → ShowsState c old f
      → After (setup_in c) (layout_in c) (tables_in c) stop new (flat_step (setup_in c) (layout_in c) s f)
