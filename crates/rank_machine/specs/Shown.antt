-- What a machine shows of the run of a program.
use Rattle.std.specs.Prelude.{List}
use Rattle.kernel_model.specs.declared.types.faults.KernelFault.{KernelFault}
use Rattle.schedule_steps.specs.declared.step.Step.{Step}
use Rattle.schedule_model.specs.Flat.{Flat, flat_step, flat_from}
use Rattle.rank_state.specs.Machine.{State}
use Rattle.rank_state.specs.Shows.{Shows}
use Rattle.rank_program.specs.declared.program.DistributedProgram.{DistributedProgram}
use Rattle.rank_program.specs.Sound.{setup_in, layout_in, tables_in}

module _ (c : DistributedProgram) where
  -- the machine shows this state of the machine on flat buffers
  abbrev pub ShowsState : State KernelFault → Flat KernelFault → Type 0
  ShowsState m f = Shows (setup_in c) (layout_in c) (tables_in c) m f

  -- it shows one
  abbrev pub IsShowing : State KernelFault → Type 0
  IsShowing m = (f : Flat KernelFault) × ShowsState m f

  -- whatever state it showed, it shows what the step makes of it
  abbrev pub StepDone : Step → (old new : State KernelFault) → Type 0
  StepDone s old new = (f : Flat KernelFault) → ShowsState old f → ShowsState new (flat_step (setup_in c) (layout_in c) s f)

  -- the same of steps one after another
  abbrev pub AllDone : List Step → (old new : State KernelFault) → Type 0
  AllDone steps old new = (f : Flat KernelFault) → ShowsState old f → ShowsState new (flat_from (setup_in c) (layout_in c) steps f)
