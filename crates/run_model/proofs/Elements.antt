-- The run of a loop for an element is that of its kernel.
use Rattle.std.proofs.Common.{◌≡◌, ◌<◌, ℕ, zero, suc, true, List, [], ◌∷◌, map, length, All, Option, Some, None, refl, sym, ap, ◌∙◌, subst, arith}
use Rattle.std.proofs.lemmas.List.{length-map}
use Rattle.kernel_model.specs.declared.types.kernels.RKernel.{RKernel}
use Rattle.kernel_model.specs.Resolved.{IsResolved}
use Rattle.kernel_model.specs.Meaning.{kernel_meaning}
use Rattle.kernel_model.specs.Obeys.{Mode, mode_at}
use Rattle.kernel_model.specs.Independence.{ShapeStays}
use Rattle.schedule_model.specs.Cells.{Cell, Store}
use Rattle.schedule_model.specs.Arguments.{reaches}
use Rattle.run_model.specs.ElementRun.{EndsAs, ElementRunsKeepRange, ElementRunsKeepReads}
use Rattle.bound_program.specs.Values.{BoundValue, SiteValue}
use Rattle.bound_program.specs.Fits.{Fits, KernelFits}
use Rattle.run_model.specs.Windows.{window_cells, windows}
use Rattle.run_model.specs.Kernels.{kernel_at, constant_values, run_of}
use Rattle.run_model.specs.Arguments.{arg_at, argument_at, entries, dat_width, var_width, mode_of, modes_of, cell_of, is_constant}
use Rattle.run_model.specs.Programs.{program_of}
use Rattle.run_model.specs.Laws.{site_of, RunsKernel, ElementsRunKernels, LoopsKeepRange, LoopsKeepReads}
use Rattle.run_model.proofs.Windows.{windows_are_reached, mode_is, is_argument, below}
use Rattle.run_model.proofs.Reaches.{access_is, reaches_own, reaches_only}
use Rattle.run_model.proofs.OnWindows.{windows_in_range, fit, hold, end}
use Rattle.run_model.proofs.Constants.{values_long, values_in_range, same_values}

some_is : (x y : RKernel) → Some x ≡ Some y → x ≡ y
some_is x y h = ap (by_default x) h
  where
    by_default : RKernel → Option RKernel → RKernel
    by_default d None = d
    by_default d (Some k) = k

kernel_fits : (b : BoundValue) (xs : List RKernel) (n : ℕ) (k : RKernel) → All (KernelFits b) xs → kernel_at xs n ≡ Some k → KernelFits b k
kernel_fits b [] n k fits at = absurd (let f : ⊥ = cc in f)
kernel_fits b (x ∷ xs) zero k fits at = subst (KernelFits b) (some_is x k at) (fits 0 x (omega arith))
kernel_fits b (x ∷ xs) (suc n) k fits at = kernel_fits b xs n k (λ i d lt. fits (suc i) d (omega arith)) at

module _ (shape : ShapeStays) (b : BoundValue) (site : SiteValue) (e : ℕ) (k : RKernel) (fits : Fits b) (kernel : KernelFits b k) where
  reach : (a i : ℕ) → i < (mode_at (modes_of b site) a).dim → reaches (entries b) (dat_width b) (var_width b) e (argument_at site a) (cell_of b site e a i) ≡ true
  reach a i lt = reaches_own b e (arg_at site a) i (below b site a i lt)

  reached : (a : ℕ) (c : Cell) → a < length site.args → reaches (entries b) (dat_width b) (var_width b) e (argument_at site a) c ≡ true
      → (i : ℕ) × (i < (mode_at (modes_of b site) a).dim) × (c ≡ cell_of b site e a i)
  reached a c lt h =
      let w = reaches_only b e (arg_at site a) c h in
      (w.0, subst (λ (m : Mode). w.0 < m.dim) (sym (mode_is b site a lt)) w.1, w.2)

  ends : (s : Store) → EndsAs (entries b) (dat_width b) (var_width b) (argument_at site) (length site.args) e (modes_of b site) (cell_of b site e)
      (windows b site.args e) s (kernel_meaning (windows b site.args e) (constant_values b s) k (map s (window_cells b site.args e) ∷ [])) (run_of b (Some k) site e s)
  ends s =
      end (entries b) (dat_width b) (var_width b) (argument_at site) (length site.args) e (modes_of b site) (cell_of b site e) (window_cells b site.args e) (windows b site.args e)
      (windows_are_reached b site e) (is_argument b site) reach s (kernel_meaning (windows b site.args e) (constant_values b s) k (map s (window_cells b site.args e) ∷ []))
      ((shape k (windows b site.args e) (constant_values b s) (map s (window_cells b site.args e) ∷ [])
      (fit (entries b) (dat_width b) (var_width b) (argument_at site) (length site.args) e (modes_of b site) (cell_of b site e)
      (window_cells b site.args e) (windows b site.args e) (windows_are_reached b site e) s)).1 0
      ∙ length-map (window_cells b site.args e) s)

  runs_kernel : RunsKernel b site e k (run_of b (Some k) site e)
  runs_kernel = record {
    is_run = record {
      count = length-map site.args (mode_of b);
      accesses = λ a lt. ap (λ (m : Mode). m.access) (mode_is b site a lt) ∙ access_is (arg_at site a);
      reach = reach;
      reached = reached;
      consts = constant_values b;
      constants = same_values b fits.constants;
      resolved = λ s. subst (λ n. IsResolved n k) (sym (values_long b s)) kernel.resolved;
      numbers = values_in_range b;
      targets = λ s. windows b site.args e;
      lists = λ s. map s (window_cells b site.args e) ∷ [];
      in_range = windows_in_range (window_cells b site.args e);
      held = hold (entries b) (dat_width b) (var_width b) (argument_at site) (length site.args) e (modes_of b site) (cell_of b site e)
          (window_cells b site.args e) (windows b site.args e) (windows_are_reached b site e);
      ends = ends;
    };
    consts = λ s. refl;
  }

pub elements_run_kernels : ShapeStays → ElementsRunKernels
elements_run_kernels shape b k e f fits loop =
    subst (λ o. RunsKernel b (site_of b k) e f (run_of b o (site_of b k) e)) (sym loop.kernel)
    (runs_kernel shape b (site_of b k) e f fits (kernel_fits b b.kernels (site_of b k).kernel f fits.kernels loop.kernel))

pub loops_keep_range : ElementsRunKernels → ElementRunsKeepRange → LoopsKeepRange
loops_keep_range runs keep b k e f s t fits loop =
    keep (entries b) (dat_width b) (var_width b) (argument_at (site_of b k)) (length (site_of b k).args) e (modes_of b (site_of b k)) (cell_of b (site_of b k) e) f (is_constant b)
    ((program_of b).run k e) (runs b k e f fits loop).is_run s t

pub loops_keep_reads : ElementsRunKernels → ElementRunsKeepReads → LoopsKeepReads
loops_keep_reads runs keep b k e f s t c fits loop obeys ran =
    keep (entries b) (dat_width b) (var_width b) (argument_at (site_of b k)) (length (site_of b k).args) e (modes_of b (site_of b k)) (cell_of b (site_of b k) e) f (is_constant b)
    ((program_of b).run k e) (runs b k e f fits loop).is_run obeys s t ran c
