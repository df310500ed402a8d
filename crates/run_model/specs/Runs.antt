-- How far a run has come.
use Rattle.std.specs.Prelude.{ℕ, List, Option, Some, None}
use Rattle.kernel_model.specs.declared.types.faults.KernelFault.{KernelFault}
use Rattle.schedule_model.specs.Sequential.{Stop}
use Rattle.run_model.specs.Arrays.{Arrays}

-- where a run stopped and by which fault, or the arrays as they are; with the bytes that were printed
pub data Run : Type 0 where
  Stopped : (at : Stop KernelFault) (printed : List ℕ) → Run
  Going : (arrays : Arrays) (printed : List ℕ) → Run

-- item k faults, at an element or, where it is no loop, at none; what the element stored before its fault is shown nowhere
abbrev pub stops : (k : ℕ) (element : Option ℕ) (printed : List ℕ) → KernelFault → Run
stops k e o f = Stopped (record { item = k; element = e; fault = f }) o

-- goes on, unless the run has stopped
abbrev pub go_on : (Arrays → List ℕ → Run) → Run → Run
go_on next (Stopped x o) = Stopped x o
go_on next (Going arrays o) = next arrays o

-- the bytes that it printed
abbrev pub printed_by : Run → List ℕ
printed_by (Stopped x o) = o
printed_by (Going arrays o) = o

-- where it stopped, and by which fault, if it did
abbrev pub stop_of : Run → Option (Stop KernelFault)
stop_of (Stopped x o) = Some x
stop_of (Going arrays o) = None
