-- Kernels with the same trees, in bound programs that are the same but for these.
use Rattle.std.proofs.Common.{◌≡◌, ℕ, zero, suc, ℤ, List, [], ◌∷◌, map, Option, Some, None, refl, ap}
use Rattle.std.proofs.Math.Path.{fun_ext}
use Rattle.kernel_model.specs.declared.types.faults.KernelFault.{KernelFault}
use Rattle.kernel_model.specs.declared.types.kernels.RKernel.{RKernel}
use Rattle.kernel_model.specs.View.{rkernel_of}
use Rattle.kernel_model.specs.Trees.{RunsAlike}
use Rattle.schedule_model.specs.Cells.{Store}
use Rattle.schedule_model.specs.Effects.{Ran}
use Rattle.schedule_model.specs.Program.{Program}
use Rattle.schedule_model.specs.Layout.{of_core}
use Rattle.run_model.specs.OnWindows.{core_of}
use Rattle.bound_program.specs.Values.{BoundValue, SiteValue}
use Rattle.bound_program.specs.Fits.{site_at}
use Rattle.run_model.specs.Windows.{windows, window_cells}
use Rattle.run_model.specs.Kernels.{kernel_at, constant_values, run_of}
use Rattle.run_model.specs.Programs.{program_of, item_at, loop_of}
use Rattle.bound_plan.specs.Windows.{frame_windows, core_with}
use Rattle.bound_plan.specs.OneRun.{SameTree, with_kernels}

pub same_at : (ks ls : List RKernel) → map rkernel_of ks ≡ map rkernel_of ls → (n : ℕ) → SameTree (kernel_at ks n) (kernel_at ls n)
same_at [] [] e n = tt
same_at [] (l ∷ ls) e n = absurd (let f : ⊥ = cc in f)
same_at (k ∷ ks) [] e n = absurd (let f : ⊥ = cc in f)
same_at (k ∷ ks) (l ∷ ls) e zero = let f : rkernel_of k ≡ rkernel_of l = cc in f
same_at (k ∷ ks) (l ∷ ls) e (suc n) = same_at ks ls (let f : map rkernel_of ks ≡ map rkernel_of ls = cc in f) n

module _ (runs_alike : RunsAlike) where
  run_same : (b : BoundValue) (o p : Option RKernel) → SameTree o p → (site : SiteValue) (e : ℕ) (s : Store) → run_of b o site e s ≡ run_of b p site e s
  run_same b None None h site e s = refl
  run_same b (Some k) (Some l) h site e s =
      ap (λ r. of_core (window_cells b site.args e) s (core_of r)) (runs_alike k l h (windows b site.args e) (constant_values b s) (map s (window_cells b site.args e) ∷ []))
  run_same b None (Some l) h site e s = absurd h
  run_same b (Some k) None h site e s = absurd h

  -- the program with another run of its elements
  abbrev running : BoundValue → (ℕ → ℕ → Store → Ran KernelFault) → Program KernelFault
  running b run = record (program_of b) { run = run }

  pub programs_same : (b : BoundValue) (ks : List RKernel) → map rkernel_of b.kernels ≡ map rkernel_of ks → program_of b ≡ program_of (with_kernels b ks)
  programs_same b ks e =
      ap (running b) (fun_ext (λ k. fun_ext (λ x. fun_ext (λ s. one k x s))))
    where
      one : (k x : ℕ) (s : Store) → (program_of b).run k x s ≡ (program_of (with_kernels b ks)).run k x s
      one k x s =
          let site = site_at b (loop_of (item_at b k)) in
          run_same b (kernel_at b.kernels site.kernel) (kernel_at ks site.kernel) (same_at b.kernels ks e site.kernel) site x s

  pub core_same : (b : BoundValue) (o p : Option RKernel) → SameTree o p → (site : SiteValue) (e : ℕ) (cs ws : List ℤ) → core_with b o site e cs ws ≡ core_with b p site e cs ws
  core_same b None None h site e cs ws = refl
  core_same b (Some k) (Some l) h site e cs ws = ap core_of (runs_alike k l h (frame_windows b site.args e) cs (ws ∷ []))
  core_same b None (Some l) h site e cs ws = absurd h
  core_same b (Some k) None h site e cs ws = absurd h
