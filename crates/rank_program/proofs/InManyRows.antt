-- Places from one on, as a loop that runs in rows takes them.
use Rattle.std.proofs.Common.{◌≡◌, ℕ, ◌+◌, ◌<◌, ◌≤◌, List, take, drop, length, get_or, sym, ap, ◌∙◌, subst, arith}
use Rattle.std.specs.Prelude.{slice_index}
use Rattle.std.proofs.lemmas.List.{get_or-drop, get_or-take, length-take-le, length-drop}
use Rattle.kernel_model.specs.Resolved.{IsResolved}
use Rattle.kernel_code.specs.Coded.{IsCode}
use Rattle.run_model.specs.Arguments.{modes_of}
use Rattle.run_model.specs.Laws.{site_of}
use Rattle.rank_state.specs.Windows.{Reads}
use Rattle.kernel_runs.specs.declared.row_batches.rows.RowLoop.{RowLoop}
use Rattle.kernel_runs.specs.RowLoops.{LeadsFrom, RunsInRows}
use Rattle.kernel_runs.specs.Rounds.{CanRun}
use Rattle.rank_program.specs.declared.local_loops.LocalLoop.{LocalLoop}
use Rattle.rank_program.specs.Batches.{BeginsAt, IsRowLoop}
use Rattle.rank_program.specs.LocalArgs.{places_in}
use Rattle.rank_program.specs.LocalLoops.{IsLocalLoop}
use Rattle.rank_program.specs.Sound.{program_in}

part_is : (places : List ℕ) (at count j : ℕ) → j < count → slice_index (take count (drop at places)) j ≡ get_or places (at + j) 0
part_is places at count j lt = get_or-take count (drop at places) j 0 lt ∙ get_or-drop at places j 0

module _ (places : List ℕ) (at count : ℕ) (fits : at + count ≤ length places) (part : List ℕ) (is : part ≡ take count (drop at places)) where
  pub part_length : length part ≡ count
  part_length =
      let behind = length-drop at places in
      ap length is ∙ length-take-le count (drop at places) (omega (arith, behind, fits))

  pub part_are : (j : ℕ) → j < count → slice_index part j ≡ get_or places (at + j) 0
  part_are j lt = ap (λ xs. slice_index xs j) is ∙ part_is places at count j lt

module _ (l : LocalLoop) (y : RowLoop) (row : IsRowLoop l y) (is : IsLocalLoop l) (cells : ℕ) (long : cells ≡ l.part.now.cells)
    (part : List ℕ) (begins : (j : ℕ) → j < length part → BeginsAt l (slice_index part j)) where
  pub can_run : CanRun y cells part
  can_run = record {
    code = subst IsCode (sym row.code) is.code;
    resolved =
        subst (λ z. IsResolved (length z) y.code.now.kernel.now) (sym row.constants)
        (subst (λ z. IsResolved (length l.constants.now) z.kernel.now) (sym row.code) is.resolved);
    params = row.params ∙ ap (λ z. z.kernel.now.params) (sym row.code);
    fits = row.fits;
    whole = row.whole;
    variables = subst (λ z. Reads (length z) y.scalars.now) (sym row.variables) (subst (Reads (length l.variables.now)) (sym row.scalars) is.variables);
    leads = λ j lt. subst (λ n. LeadsFrom y n (slice_index part j)) (sym long) (row.leads (slice_index part j) (begins j lt));
  }

  pub in_rows : RunsInRows y cells (modes_of (program_in l.program.now) (site_of (program_in l.program.now) l.item)) (λ x. places_in x l.args.now row.stand) part (length part)
  in_rows = subst (λ n. RunsInRows y n (modes_of (program_in l.program.now) (site_of (program_in l.program.now) l.item))
      (λ x. places_in x l.args.now row.stand) part (length part)) (sym long) (row.in_rows part (length part) begins)
