-- What a run that stopped leaves.
use Rattle.std.specs.Prelude.{◌≡◌, ◌<◌, ℕ, List, Option, Some, None}
use Rattle.kernel_model.specs.declared.types.faults.KernelFault.{KernelFault}
use Rattle.schedule_model.specs.Cells.{Store}
use Rattle.schedule_model.specs.Effects.{Faulted}
use Rattle.schedule_model.specs.Program.{Program, Halts, elements}
use Rattle.schedule_model.specs.Sequential.{Stop, Stopped, Going, Ran_through, loop, seq}
use Rattle.bound_program.specs.Values.{BoundValue}
use Rattle.run_model.specs.Programs.{program_of}

module _ (p : Program KernelFault) where
  -- an element that faults leaves what the earlier ones of its loop stored; a statement that faults leaves all as it was
  abbrev pub Leaves : ℕ → Option ℕ → KernelFault → Store → Store → Type 0
  Leaves k (Some e) f before s = (e < elements p k) × (loop p k e before ≡ Ran_through s) × (p.run k e s ≡ Faulted f)
  Leaves k None f before s = (s ≡ before) × (p.host k before ≡ Halts f)

  -- the first n items stop at one of them, with the bytes that were printed before it
  pub record StopsAt (n : ℕ) (x : Stop KernelFault) (s : Store) (o : List ℕ) : Type 0 where
    pub item : x.item < n
    pub before : Store
    pub going : seq p x.item ≡ Going before o
    pub leaves : Leaves x.item x.element x.fault before s

-- a run that stopped did so at the first fault
abbrev pub RunsStopAtFaults : Type 0
RunsStopAtFaults =
    (b : BoundValue) (n : ℕ) (x : Stop KernelFault) (s : Store) (o : List ℕ)
    → seq (program_of b) n ≡ Stopped x s o → StopsAt (program_of b) n x s o
