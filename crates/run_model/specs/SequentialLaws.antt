-- The run on whole arrays is the one that the theorem on schedules is about.
use Rattle.std.specs.Prelude.{◌≡◌, ℕ}
use Rattle.kernel_model.specs.declared.types.faults.KernelFault.{KernelFault}
use Rattle.schedule_model.specs.Sequential.{Seq, seq}
use Rattle.schedule_model.specs.Sequential as cells
use Rattle.bound_program.specs.Values.{BoundValue}
use Rattle.bound_program.specs.Fits.{Fits}
use Rattle.run_model.specs.Programs.{program_of}
use Rattle.run_model.specs.Programs as program
use Rattle.run_model.specs.Runs.{Run, Stopped, Going}
use Rattle.run_model.specs.Program.{before, printed, first_fault}
use Rattle.run_model.specs.Holds.{Holds}

-- both stopped at one place by one fault, or both go on with the same values; and they printed the same
abbrev pub Agree : BoundValue → Run → Seq KernelFault → Type 0
Agree b (Stopped x o) (cells.Stopped y s p) = (x ≡ y) × (o ≡ p)
Agree b (Going arrays o) (cells.Going s p) = Holds b arrays s × (o ≡ p)
Agree b (Stopped x o) (cells.Going s p) = ⊥
Agree b (Going arrays o) (cells.Stopped y s p) = ⊥

-- both runs agree before each item of a program that fits
abbrev pub ItemsAgree : Type 0
ItemsAgree = (b : BoundValue) → Fits b → (k : ℕ) → Agree b (before b k) (seq (program_of b) k)

-- the program prints the same in both runs, and has the same first fault or none
pub record RunIsOne (b : BoundValue) : Type 0 where
  pub printed : printed b ≡ program.printed b
  pub first_fault : first_fault b ≡ program.first_fault b

-- of each program that fits, the run on whole arrays is the one of the theorem
abbrev pub RunsAreOne : Type 0
RunsAreOne = (b : BoundValue) → Fits b → RunIsOne b
