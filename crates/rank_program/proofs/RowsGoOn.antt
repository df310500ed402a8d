-- Rows of a loop that runs in rows, for places from one on, are elements at which it goes on.
use Rattle.std.proofs.Common.{◌≡◌, ◌<◌, ◌≤◌, ◌+◌, ◌++◌, ℕ, ℤ, Bool, List, map, take, drop, length, get_or, Option, sym, ap, ◌∙◌, subst, arith}
use Rattle.std.specs.Prelude.{◌==◌, slice_index}
use Rattle.std.proofs.Math.Seq.{take-append_seam}
use Rattle.std.proofs.lemmas.List.{length-take-le}
use Rattle.kernel_model.specs.declared.types.faults.KernelFault.{KernelFault}
use Rattle.kernel_model.specs.declared.types.views.frame.Place.{Place}
use Rattle.kernel_model.specs.Framed.{target_of}
use Rattle.kernel_model.specs.Meaning.{Target}
use Rattle.kernel_model.specs.Obeys.{Mode}
use Rattle.schedule_model.specs.Sequential.{Stop}
use Rattle.bound_plan.specs.Laws.{FramesAreReached}
use Rattle.run_model.specs.Arguments.{modes_of}
use Rattle.run_model.specs.Laws.{site_of}
use Rattle.rank_state.specs.Windows.{firsts}
use Rattle.kernel_runs.specs.declared.row_batches.rows.RowLoop.{RowLoop}
use Rattle.kernel_runs.specs.Here.{FinishesHere}
use Rattle.kernel_runs.specs.RowLoops.{RunsInRows}
use Rattle.kernel_runs.specs.RowsRun.{RowsRun}
use Rattle.rank_layout.specs.StepLaws.{StepsStand}
use Rattle.rank_layout.specs.WindowLaws.{ArgsAreHere, ArgsHaveCells, ElementWindowsStand}
use Rattle.rank_program.specs.declared.local_loops.LocalLoop.{LocalLoop}
use Rattle.rank_program.specs.Batches.{BeginsAt, Counts, GoesOn, IsRowLoop}
use Rattle.rank_program.specs.LocalArgs.{places_in}
use Rattle.rank_program.specs.LocalLoops.{IsLocalLoop}
use Rattle.rank_program.specs.LocalRuns.{AllBeginHere}
use Rattle.rank_program.specs.Sound.{program_in, setup_in, layout_in}
use Rattle.rank_program.proofs.BatchRuns.{rows_reach}

module _ (l : LocalLoop) (y : RowLoop) (is : IsLocalLoop l) (row : IsRowLoop l y) (steps : AllBeginHere l)
    (stand : StepsStand) (here : ArgsAreHere) (have : ArgsHaveCells) (windows : ElementWindowsStand) (frames : FramesAreReached) (finishes : FinishesHere)
    (memory : List ℤ) (wide : l.part.now.cells ≤ length memory) (at count n : ℕ) (few : n ≤ count) (fits : at + count ≤ length l.places.now)
    (batch : List ℕ) (are : (j : ℕ) → j < count → slice_index batch j ≡ get_or l.places.now (at + j) 0) where
  abbrev old : List ℤ
  old = take l.part.now.cells memory

  -- the rank owns the element at a place
  abbrev owned : ℕ → Bool
  owned x = (setup_in l.program.now).owner ((setup_in l.program.now).program.set l.item) ((layout_in l.program.now).original l.item l.rank x) == l.rank

  -- where the kernel's arguments stand for a row
  abbrev targets : ℕ → List Target
  targets j = map target_of (places_in (slice_index batch j) l.args.now row.stand)

  long : length old ≡ l.part.now.cells
  long = length-take-le l.part.now.cells memory wide

  begins : (j : ℕ) → j < count → BeginsAt l (slice_index batch j)
  begins j lt = subst (BeginsAt l) (sym (are j lt)) (steps (at + j) (omega (arith, lt, fits)))

  in_rows : RunsInRows y (length old) (modes_of (program_in l.program.now) (site_of (program_in l.program.now) l.item)) (λ x. places_in x l.args.now row.stand) batch count
  in_rows =
      subst (λ k. RunsInRows y k (modes_of (program_in l.program.now) (site_of (program_in l.program.now) l.item)) (λ x. places_in x l.args.now row.stand) batch count) (sym long)
      (row.in_rows batch count begins)

  -- what they leave stands before what follows the rank's cells
  pub rows_go_on : ((j : ℕ) → j < count → Counts (owned (get_or l.places.now (at + j) 0)) l.scalars.now)
      → (kept : Option (Stop KernelFault)) (new ps qs : List ℤ) → length new ≡ length old
      → ((modes : List Mode) (stands : ℕ → List Place) → RunsInRows y (length old) modes stands batch count
      → RowsRun y.code.now.kernel.now y.constants.now (firsts y.variables.now y.scalars.now) y.scalars.now (λ j. map target_of (stands (slice_index batch j))) n old new ps qs)
      → GoesOn l at (at + n) (record { cells = old; partials = ps; fault = kept })
      (record { cells = take l.part.now.cells (new ++ drop l.part.now.cells memory); partials = qs; fault = kept })
  rows_go_on counts kept new ps qs same ran =
      let w = l.part.now.cells in
      let rows = ran (modes_of (program_in l.program.now) (site_of (program_in l.program.now) l.item)) (λ x. places_in x l.args.now row.stand) in_rows in
      let coded : RowsRun l.code.now.kernel.now l.constants.now (firsts l.variables.now l.scalars.now) l.scalars.now targets n old new ps qs =
      subst (λ z. RowsRun z.kernel.now l.constants.now (firsts l.variables.now l.scalars.now) l.scalars.now targets n old new ps qs) row.code
      (subst (λ z. RowsRun y.code.now.kernel.now z (firsts l.variables.now l.scalars.now) l.scalars.now targets n old new ps qs) row.constants
      (subst (λ z. RowsRun y.code.now.kernel.now y.constants.now (firsts z l.scalars.now) l.scalars.now targets n old new ps qs) row.variables
      (subst (λ z. RowsRun y.code.now.kernel.now y.constants.now (firsts y.variables.now z) z targets n old new ps qs) row.scalars rows))) in
      let front : new ≡ take w (new ++ drop w memory) =
      sym (ap (λ k. take k (new ++ drop w memory)) (sym (same ∙ long)) ∙ take-append_seam new (drop w memory)) in
      subst (λ m. GoesOn l at (at + n) (record { cells = old; partials = ps; fault = kept }) (record { cells = m; partials = qs; fault = kept })) front
      (λ start h.
      rows_reach l is.sound is stand here windows frames have finishes row.stand row.are
      l.places.now steps start at old ps long kept (λ j. slice_index batch j)
      n (omega (arith, few, fits)) (λ j lt. are j (omega (arith, lt, few))) (λ j lt. counts j (omega (arith, lt, few))) new qs coded h)
