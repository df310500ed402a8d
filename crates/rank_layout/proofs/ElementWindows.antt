-- The windows of an element that a step begins.
use Rattle.std.proofs.Common.{◌≡◌, ◌≤◌, ◌+◌, ℕ, zero, suc, List, [], ◌∷◌, ◌++◌, length, refl, sym, ap, ap₂, ◌∙◌, subst, length-append}
use Rattle.schedule_model.specs.Cells.{DatCell, VarCell}
use Rattle.bound_program.specs.Classes.{modifies}
use Rattle.run_model.specs.Programs.{item_at, loop_of}
use Rattle.run_model.specs.Laws.{site_of}
use Rattle.bound_plan.specs.Machine.{DatsComeFirst, FramesHaveCellsOnce}
use Rattle.bound_plan.specs.Places.{original_at, cell_at}
use Rattle.bound_plan.specs.Windows.{frame_cells}
use Rattle.bound_plan.specs.Variables.{variable_at}
use Rattle.rank_state.specs.declared.spans.Span.{Span}
use Rattle.rank_state.specs.declared.scalars.Scalar.{Scalar}
use Rattle.rank_state.specs.Spans.{total}
use Rattle.rank_state.specs.Windows.{cells_from, span_cells, scalar_cells, Marked}
use Rattle.rank_layout.specs.DatWindows.{spans_after}
use Rattle.rank_layout.specs.Tables.{tables_of}
use Rattle.rank_layout.specs.OwnedLaws.{FramesFit}
use Rattle.rank_layout.specs.TableLaws.{ScalarsStand}
use Rattle.rank_layout.specs.WindowLaws.{arg_span, AreDatWindows, DatWindowsStand, ElementWindowsStand}
use Rattle.rank_layout.proofs.ItemLoops.{args_are}

pub run_count : (cell_at : ℕ → DatCell) (at n : ℕ) → length (cells_from cell_at at n) ≡ n
run_count cell_at at zero = refl
run_count cell_at at (suc n) = ap suc (run_count cell_at (suc at) n)

pub spans_count : (cell_at : ℕ → DatCell) (spans : List Span) → length (span_cells cell_at spans) ≡ total spans
spans_count cell_at [] = refl
spans_count cell_at (s ∷ ss) =
    length-append (cells_from cell_at s.at s.dim) (span_cells cell_at ss) ∙ ap₂ (λ i j. i + j) (run_count cell_at s.at s.dim) (spans_count cell_at ss)

scalars_count : (variable_at : ℕ → VarCell) (scalars : List Scalar) → length (scalar_cells variable_at scalars) ≡ length scalars
scalars_count variable_at [] = refl
scalars_count variable_at (x ∷ xs) = ap suc (scalars_count variable_at xs)

pub windows_are : DatWindowsStand → DatsComeFirst → FramesHaveCellsOnce → FramesFit → ScalarsStand → ElementWindowsStand
windows_are stand first once fit reduced b o n meshes p pl k r x m scalars is part are =
    let site = site_of b k in
    let e = original_at meshes r site.set x in
    let spans = spans_after (arg_span b.mesh m x (modifies site.args)) site.args [] in
    let dats : AreDatWindows b meshes site r x (modifies site.args) spans
    = stand b o n meshes p pl (loop_of (item_at b k)) r x m (modifies site.args) (record { loop = is.loop; rank = is.rank; place = is.executed; part = part }) in
    let cells : frame_cells b site.args e ≡ span_cells (cell_at meshes b.mesh r) spans ++ scalar_cells (variable_at b) scalars
    = first b site.args e ∙ ap₂ (λ u v. u ++ v) dats.cells (are.cells e) in
    let count : length (frame_cells b site.args e) ≡ total spans + length scalars =
    ap length cells ∙ length-append (span_cells (cell_at meshes b.mesh r) spans) (scalar_cells (variable_at b) scalars)
    ∙ ap₂ (λ i j. i + j) (spans_count (cell_at meshes b.mesh r) spans) (scalars_count (variable_at b) scalars) in
    let room : length (frame_cells b site.args e) ≤ (tables_of b p).stride = fit b p (loop_of (item_at b k)) e is.loop in
    record {
      cells = cells;
      once = once b site e;
      within = dats.within;
      writes = subst (λ args. Marked (λ i. modifies args (cell_at meshes b.mesh r i).dat) spans) (sym (args_are b k is.free)) dats.marked;
      are_scalars = (reduced b o meshes p k scalars are).are_scalars;
      covers = are.covers;
      fits = subst (λ z. z ≤ (tables_of b p).stride) count room;
    }
