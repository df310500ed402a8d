-- A run keeps all values in range.
use Rattle.std.proofs.Common.{◌≡◌, ℕ, zero, suc, ℤ, true, List, [], ◌∷◌, length, Some, None, refl, ap}
use Rattle.kernel_model.specs.declared.types.faults.KernelFault.{KernelFault}
use Rattle.kernel_model.specs.declared.types.kernels.RKernel.{RKernel}
use Rattle.schedule_model.specs.Cells.{Data, Variable, VarCell, Store, InRange}
use Rattle.schedule_model.specs.Effects.{Ran, Faulted, Finished}
use Rattle.schedule_model.specs.Program as program
use Rattle.schedule_model.specs.Program.{Kind, Hosted, Halts, Goes, is_loop, elements}
use Rattle.schedule_model.specs.Sequential.{Loop, Broke, Ran_through, loop, one_more, after_run, Seq, Stopped, Going, with_variables, after_loop, after_host, item_from, after_item, seq}
use Rattle.bound_program.specs.Values.{BoundValue, no_site}
use Rattle.bound_program.specs.Fits.{Fits, TakesArgs}
use Rattle.run_model.specs.Kernels.{kernel_at}
use Rattle.run_model.specs.Programs.{kind_of, loop_of, item_at, program_of}
use Rattle.run_model.specs.Laws.{site_of, IsLoopOf, LoopsKeepRange}
use Rattle.run_model.proofs.Items.{loop_there}
use Rattle.run_model.specs.Ranges.{FirstValuesInRange, HostsKeepRange, RunInRange, RunsKeepRange}

-- a loop's number and its kernel are there
kernel_there : (xs : List RKernel) (n m : ℕ) → TakesArgs xs n m → (f : RKernel) × (kernel_at xs n ≡ Some f)
kernel_there [] n m h = absurd h
kernel_there (x ∷ xs) zero m h = (x, refl)
kernel_there (x ∷ xs) (suc n) m h = kernel_there xs n m h

module _ (b : BoundValue) where
  loop_is : Fits b → (k : ℕ) → is_loop (kind_of (item_at b k)) ≡ true → (f : RKernel) × IsLoopOf b k f
  loop_is fits k h =
      let lt = loop_there b None b.trace k fits.items h in
      let w = kernel_there b.kernels (site_of b k).kernel (length (site_of b k).args) (fits.sites (loop_of (item_at b k)) no_site lt).kernel in
      (w.0, record { is_loop = h; kernel = w.1 })

module _ (loops : LoopsKeepRange) (hosts : HostsKeepRange) (b : BoundValue) (fits : Fits b) where
  abbrev LoopInRange : Loop KernelFault → Type 0
  LoopInRange (Broke e f s) = InRange s
  LoopInRange (Ran_through s) = InRange s

  module _ (k : ℕ) (h : is_loop (kind_of (item_at b k)) ≡ true) where
    after_one : (e : ℕ) (s : Store) → InRange s → (r : Ran KernelFault) → (program_of b).run k e s ≡ r → LoopInRange (after_run e s r)
    after_one e s small (Faulted f) ran = small
    after_one e s small (Finished t) ran = let w = loop_is b fits k h in loops b k e w.0 s t fits w.1 small ran

    with_one : (e : ℕ) (x : Loop KernelFault) → LoopInRange x → LoopInRange (one_more (program_of b) k e x)
    with_one e (Broke a f s) small = small
    with_one e (Ran_through s) small = after_one e s small ((program_of b).run k e s) refl

    elements_keep : (n : ℕ) (s : Store) → InRange s → LoopInRange (loop (program_of b) k n s)
    elements_keep zero s small = small
    elements_keep (suc n) s small = with_one n (loop (program_of b) k n s) (elements_keep n s small)

  by_loop : (k : ℕ) (o : List ℕ) (x : Loop KernelFault) → LoopInRange x → RunInRange (after_loop k o x)
  by_loop k o (Broke e f s) small = small
  by_loop k o (Ran_through s) small = small

  variables_kept : (k : ℕ) (s : Store) (v : VarCell → ℤ) (o : List ℕ) → InRange s → (program_of b).host k s ≡ Goes v o → InRange (with_variables v s)
  variables_kept k s v o small e (Data c) = small (Data c)
  variables_kept k s v o small e (Variable x) = hosts b k s v o fits small e x

  by_host : (k : ℕ) (s : Store) (o : List ℕ) → InRange s → (x : Hosted KernelFault) → (program_of b).host k s ≡ x → RunInRange (after_host k s o x)
  by_host k s o small (Halts f) e = small
  by_host k s o small (Goes v w) e = variables_kept k s v w small e

  by_item : (k : ℕ) (s : Store) (o : List ℕ) → InRange s → (kind : Kind) → kind_of (item_at b k) ≡ kind → RunInRange (item_from (program_of b) k kind s o)
  by_item k s o small program.Free e =
      by_loop k o (loop (program_of b) k (elements (program_of b) k) s) (elements_keep k (ap is_loop e) (elements (program_of b) k) s small)
  by_item k s o small program.Reduce e = small
  by_item k s o small program.Ordered e =
      by_loop k o (loop (program_of b) k (elements (program_of b) k) s) (elements_keep k (ap is_loop e) (elements (program_of b) k) s small)
  by_item k s o small program.Host e = by_host k s o small ((program_of b).host k s) refl

  by_run : (k : ℕ) (x : Seq KernelFault) → RunInRange x → RunInRange (after_item (program_of b) k x)
  by_run k (Stopped x s o) small = small
  by_run k (Going s o) small = by_item k s o small (kind_of (item_at b k)) refl

  run_kept : InRange (program_of b).start → (k : ℕ) → RunInRange (seq (program_of b) k)
  run_kept small zero = small
  run_kept small (suc k) = by_run k (seq (program_of b) k) (run_kept small k)

pub runs_keep_range : LoopsKeepRange → HostsKeepRange → FirstValuesInRange → RunsKeepRange
runs_keep_range loops hosts first b fits obey starts k = run_kept loops hosts b fits (first b starts) k
