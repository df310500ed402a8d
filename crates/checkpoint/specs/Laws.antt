-- A run is that of its head and then that of its tail.
use Rattle.std.specs.Prelude.{◌≡◌, ℕ, ◌+◌, ◌-◌, ◌≤◌, ◌<◌, ◌^◌, List, length, ◌++◌, true, pos, slice_index_or}
use Rattle.kernel_model.specs.declared.types.faults.KernelFault.{KernelFault}
use Rattle.schedule_model.specs.Cells.{Variable, Store}
use Rattle.schedule_model.specs.Program.{Program}
use Rattle.schedule_model.specs.Sequential.{Stop, Seq, Stopped, Going, seq, sequential}
use Rattle.bound_program.specs.Values.{BoundValue}
use Rattle.bound_program.specs.Fits.{Fits, var_at}
use Rattle.loop_bind.specs.Constants.{LeavesConstants}
use Rattle.run_model.specs.Programs.{program_of, run_of_program}
use Rattle.run_model.specs.Ranges.{AllObey}
use Rattle.checkpoint.specs.Cut.{HasShape, StateValue, CanCut, state_at, head, tail}
use Rattle.checkpoint.specs.StateText.{state_text}

-- ---- any program

-- the items from k on, numbered from 0, started with these values
abbrev pub from_item : {F : Type 0} → Program F → ℕ → Store → Program F
from_item p k s = record {
  items = p.items - k;
  kind = λ i. p.kind (k + i);
  site = λ i. p.site (k + i);
  set = λ i. p.set (k + i);
  size = p.size;
  set_of = p.set_of;
  start = s;
  run = λ i. p.run (k + i);
  host = λ i. p.host (k + i);
}

-- a stop, with its item numbered as in the whole program
abbrev pub later : {F : Type 0} → ℕ → Stop F → Stop F
later k x = record { item = k + x.item; element = x.element; fault = x.fault }

-- a run of the items from k on, behind what was printed before
abbrev pub behind : {F : Type 0} → ℕ → List ℕ → Seq F → Seq F
behind k o (Stopped x s w) = Stopped (later k x) s (o ++ w)
behind k o (Going s w) = Going s (o ++ w)

-- a run that came to item k goes on as the items from there, begun with its values
abbrev pub RunsGoOn : Type 0
RunsGoOn =
    (p : Program KernelFault) (k : ℕ) (s : Store) (o : List ℕ)
    → k ≤ p.items → seq p k ≡ Going s o → sequential p ≡ behind k o (sequential (from_item p k s))

-- ---- bound programs

-- the head's run is the program's up to the cut, where it prints the state
abbrev pub HeadsPrintStates : Type 0
HeadsPrintStates =
    (b : BoundValue) (k : ℕ) (s : Store) (o : List ℕ)
    → CanCut b k → seq (program_of b) k ≡ Going s o
    → run_of_program (head b k) ≡ Going s (o ++ state_text b (state_at b k s))

-- where the program has stopped before the item, so has the head
abbrev pub HeadsStop : Type 0
HeadsStop =
    (b : BoundValue) (k : ℕ) (x : Stop KernelFault) (s : Store) (o : List ℕ)
    → CanCut b k → seq (program_of b) k ≡ Stopped x s o
    → run_of_program (head b k) ≡ Stopped x s o

-- a head fits where the program does and 32 bits count its items
abbrev pub HeadsFit : Type 0
HeadsFit = (b : BoundValue) (k : ℕ) → Fits b → CanCut b k → length (head b k).trace < 2 ^ 32 → Fits (head b k)

-- ---- tails

-- a tail fits where the program does and the state has its shape
abbrev pub TailsFit : Type 0
TailsFit = (b : BoundValue) (s : StateValue) → Fits b → CanCut b s.item → HasShape b s → Fits (tail b s)

-- the variables that are `const` have the values that they begin with
abbrev pub KeepsConstants : BoundValue → Store → Type 0
KeepsConstants b s =
    (v i : ℕ) → (var_at b v).is_const ≡ true
    → s (Variable (record { variable = v; component = i })) ≡ slice_index_or (var_at b v).start i (pos 0)

-- where nothing sets them, they keep those through the run
abbrev pub RunsKeepConstants : Type 0
RunsKeepConstants =
    (b : BoundValue) (k : ℕ) (s : Store) (o : List ℕ)
    → Fits b → AllObey b → LeavesConstants b → seq (program_of b) k ≡ Going s o → KeepsConstants b s

-- both stopped at one place, or neither did, and they printed the same
abbrev pub EndAlike : Seq KernelFault → Seq KernelFault → Type 0
EndAlike (Stopped x s o) (Stopped y t w) = (x ≡ y) × (o ≡ w)
EndAlike (Going s o) (Going t w) = o ≡ w
EndAlike (Stopped x s o) (Going t w) = ⊥
EndAlike (Going s o) (Stopped y t w) = ⊥

-- a run that comes to the cut goes on as that of the tail, begun with the state there
abbrev pub TailsGoOn : Type 0
TailsGoOn =
    (b : BoundValue) (k : ℕ) (s : Store) (o : List ℕ)
    → Fits b → AllObey b → LeavesConstants b → CanCut b k → seq (program_of b) k ≡ Going s o
    → EndAlike (run_of_program b) (behind k o (run_of_program (tail b (state_at b k s))))

-- ---- accesses

-- the kernels of a head obey what those of the program obey
abbrev pub HeadsObey : Type 0
HeadsObey = (b : BoundValue) (k : ℕ) → AllObey b → AllObey (head b k)

-- the kernels of a tail obey what those of the program obey, where the state has the program's shape
abbrev pub TailsObey : Type 0
TailsObey = (b : BoundValue) (s : StateValue) → HasShape b s → AllObey b → AllObey (tail b s)
