-- Kernels on the cells of frames.
use Rattle.std.proofs.Common.{◌≡◌, ◌<◌, ◌+◌, ℕ, ℤ, true, List, [], ◌∷◌, length, map, sym, ap, subst, ◌∙◌, arith}
use Rattle.std.specs.Prelude.{slice_index_or}
use Rattle.kernel_model.specs.declared.types.kernels.RKernel.{RKernel}
use Rattle.kernel_model.specs.Meaning.{Target, target_at, kernel_meaning}
use Rattle.kernel_model.specs.Meaning as kernel
use Rattle.kernel_model.specs.Independence.{Fits as NamesCells, ShapeStays, store_after}
use Rattle.schedule_model.specs.Cells.{Cell, Variable, Store}
use Rattle.schedule_model.specs.Program.{is_loop}
use Rattle.schedule_model.specs.Layout.{Leaves, of_core}
use Rattle.run_model.specs.OnWindows.{OnWindows, ElementRunsOnWindows, core_of}
use Rattle.bound_program.specs.Values.{BoundValue}
use Rattle.bound_program.specs.Fits.{Fits}
use Rattle.run_model.specs.Programs.{kind_of, item_at, program_of}
use Rattle.run_model.specs.Kernels.{constants, constant_values}
use Rattle.run_model.specs.Arguments.{argument_at, entries, dat_width, var_width, modes_of, cell_of, is_constant}
use Rattle.run_model.specs.Laws.{site_of, RunsKernel, WindowsAreReached}
use Rattle.bound_plan.specs.Windows.{frame_cells, frame_windows, core_with, site_core}
use Rattle.bound_plan.specs.Given.{ItemLaws, KernelLaws}
use Rattle.bound_plan.proofs.KernelsHold.{kernel as kernel_of, is_loop_of}
use Rattle.bound_plan.proofs.Framed.{on_frames}

-- what a run leaves in its one list
left : (r : kernel.Ran) (us : List ℤ) → core_of r ≡ Leaves us → slice_index_or (store_after r) 0 [] ≡ us
left (kernel.Finished l) us h = cc
left (kernel.Stopped l f) us h = let q : ⊥ = cc in absurd q

module _ (kernels : KernelLaws) (items : ItemLaws) (windows : WindowsAreReached) (law : ElementRunsOnWindows) (shape : ShapeStays)
    (b : BoundValue) (fits : Fits b) (k : ℕ) (loops : is_loop (kind_of (item_at b k)) ≡ true) (e : ℕ) where
  abbrev f : RKernel
  f = (kernel_of kernels items b fits k loops).0

  abbrev cells : List Cell
  cells = frame_cells b (site_of b k).args e

  abbrev targets : List Target
  targets = frame_windows b (site_of b k).args e

  on : OnWindows (modes_of b (site_of b k)) (cell_of b (site_of b k) e) cells targets
  on = on_frames b windows (site_of b k) e

  runs : RunsKernel b (site_of b k) e f ((program_of b).run k e)
  runs = kernels.runs b k e f fits (is_loop_of kernels items b fits k loops)

  core_is : (cs ws : List ℤ) → site_core b (site_of b k) e cs ws ≡ core_of (kernel_meaning targets cs f (ws ∷ []))
  core_is cs ws = ap (λ z. core_with b z (site_of b k) e cs ws) (kernel_of kernels items b fits k loops).1

  pub run_is : (s : Store) → (program_of b).run k e s ≡ of_core cells s (site_core b (site_of b k) e (map (λ v. s (Variable v)) (constants b)) (map s cells))
  run_is s =
      law (entries b) (dat_width b) (var_width b) (argument_at (site_of b k)) (length (site_of b k).args) e (modes_of b (site_of b k)) (cell_of b (site_of b k) e)
      f (is_constant b) ((program_of b).run k e) runs.is_run cells targets on s
      ∙ ap (λ z. of_core cells s (core_of (kernel_meaning targets z f (map s cells ∷ [])))) (runs.consts s)
      ∙ ap (λ z. of_core cells s z) (sym (core_is (constant_values b s) (map s cells)))

  fit : (ws : List ℤ) → length ws ≡ length cells → NamesCells targets (ws ∷ [])
  fit ws l = record {
    arrays = λ a i lt.
        let z : (target_at targets a).array ≡ 0 = on.arrays a i (subst (λ c. i < c) (on.counts a) lt) in
        subst (λ x. x < 1) (sym z) (omega arith);
    cells = λ a i lt.
        subst (λ x. (target_at targets a).from + i < length (slice_index_or (ws ∷ []) x [])) (sym (on.arrays a i (subst (λ c. i < c) (on.counts a) lt)))
        (subst (λ m. (target_at targets a).from + i < m) (sym l) (on.inside a i (subst (λ c. i < c) (on.counts a) lt)));
  }

  pub same_length : (cs ws us : List ℤ) → length ws ≡ length cells → site_core b (site_of b k) e cs ws ≡ Leaves us → length us ≡ length cells
  same_length cs ws us l h =
      ap length (sym (left (kernel_meaning targets cs f (ws ∷ [])) us (sym (core_is cs ws) ∙ h)))
      ∙ (shape f targets cs (ws ∷ []) (fit ws l)).1 0
      ∙ l
