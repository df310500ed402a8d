-- A run that stopped did so at the first fault.
use Rattle.std.proofs.Common.{◌≡◌, ◌<◌, ℕ, zero, suc, List, refl, subst, arith}
use Rattle.kernel_model.specs.declared.types.faults.KernelFault.{KernelFault}
use Rattle.schedule_model.specs.Cells.{Store}
use Rattle.schedule_model.specs.Effects.{Ran, Faulted, Finished}
use Rattle.schedule_model.specs.Program.{Program, Kind, Free, Reduce, Ordered, Host, Hosted, Halts, Goes, elements}
use Rattle.schedule_model.specs.Sequential.{Loop, Broke, Ran_through, loop, one_more, after_run, Seq, Stopped, Going, after_loop, after_host, item_from, after_item, seq}
use Rattle.run_model.specs.Programs.{program_of}
use Rattle.run_model.specs.Stops.{StopsAt, RunsStopAtFaults}

module _ (p : Program KernelFault) where
  -- where the first n elements of a loop break, the earlier ones ran
  abbrev Breaks : ℕ → ℕ → Store → Loop KernelFault → Type 0
  Breaks k n before (Broke e f s) = (e < n) × (loop p k e before ≡ Ran_through s) × (p.run k e s ≡ Faulted f)
  Breaks k n before (Ran_through s) = Unit {0}

  after_one : (k n : ℕ) (before s : Store) → loop p k n before ≡ Ran_through s → (r : Ran KernelFault) → p.run k n s ≡ r → Breaks k (suc n) before (after_run n s r)
  after_one k n before s through (Faulted f) e = ((let lt : n < suc n = omega arith in lt), through, e)
  after_one k n before s through (Finished t) e = tt

  with_one : (k n : ℕ) (before : Store) (x : Loop KernelFault) → loop p k n before ≡ x → Breaks k n before x → Breaks k (suc n) before (one_more p k n x)
  with_one k n before (Broke e f s) at h = ((let lt : e < suc n = omega (arith, h.0) in lt), h.1, h.2)
  with_one k n before (Ran_through s) at h = after_one k n before s at (p.run k n s) refl

  breaks : (k n : ℕ) (before : Store) → Breaks k n before (loop p k n before)
  breaks k zero before = tt
  breaks k (suc n) before = with_one k n before (loop p k n before) refl (breaks k n before)

  -- ---- items
  abbrev Stops : ℕ → Seq KernelFault → Type 0
  Stops n (Stopped x s o) = StopsAt p n x s o
  Stops n (Going s o) = Unit {0}

  by_loop : (n : ℕ) (s : Store) (o : List ℕ) → seq p n ≡ Going s o → (x : Loop KernelFault) → Breaks n (elements p n) s x → Stops (suc n) (after_loop n o x)
  by_loop n s o at (Broke e f t) h = record { item = omega arith; before = s; going = at; leaves = h }
  by_loop n s o at (Ran_through t) h = tt

  by_host : (n : ℕ) (s : Store) (o : List ℕ) → seq p n ≡ Going s o → (x : Hosted KernelFault) → p.host n s ≡ x → Stops (suc n) (after_host n s o x)
  by_host n s o at (Halts f) e = record { item = omega arith; before = s; going = at; leaves = (refl, e) }
  by_host n s o at (Goes v w) e = tt

  by_item : (n : ℕ) (s : Store) (o : List ℕ) → seq p n ≡ Going s o → (kind : Kind) → Stops (suc n) (item_from p n kind s o)
  by_item n s o at Free = by_loop n s o at (loop p n (elements p n) s) (breaks n (elements p n) s)
  by_item n s o at Reduce = tt
  by_item n s o at Ordered = by_loop n s o at (loop p n (elements p n) s) (breaks n (elements p n) s)
  by_item n s o at Host = by_host n s o at (p.host n s) refl

  by_run : (n : ℕ) (x : Seq KernelFault) → seq p n ≡ x → Stops n x → Stops (suc n) (after_item p n x)
  by_run n (Stopped x s o) at h = record { item = omega (arith, h.item); before = h.before; going = h.going; leaves = h.leaves }
  by_run n (Going s o) at h = by_item n s o at (p.kind n)

  stops : (n : ℕ) → Stops n (seq p n)
  stops zero = tt
  stops (suc n) = by_run n (seq p n) refl (stops n)

pub runs_stop_at_faults : RunsStopAtFaults
runs_stop_at_faults b n x s o at = subst (Stops (program_of b) n) at (stops (program_of b) n)
