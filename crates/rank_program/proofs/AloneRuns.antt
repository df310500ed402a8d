-- A run of an element on its rank is its begin and its own end at once.
use Rattle.std.proofs.Common.{◌≡◌, ℕ, ◌<◌, ℤ, sym, ap, ap₂, ◌∙◌, List, [], ◌++◌, length, set, Option}
use Rattle.std.specs.Prelude.{◌==◌}
use Rattle.std.proofs.lemmas.List.{set-get_or, set-set, get_or-set_same}
use Rattle.schedule_steps.specs.declared.step.Step.TheVariants.{Begin, End}
use Rattle.schedule_steps.specs.Steps.{IsStep}
use Rattle.schedule_model.specs.Setup.{Setup}
use Rattle.schedule_model.specs.Sequential.{Stop}
use Rattle.schedule_model.specs.Layout.{Layout, Core, by_place}
use Rattle.schedule_model.specs.Flat.{Flat, flat_step}
use Rattle.rank_state.specs.declared.spans.Span.{Span}
use Rattle.rank_state.specs.declared.scalars.Scalar.{Scalar}
use Rattle.rank_state.specs.Spans.{total, gathered}
use Rattle.rank_state.specs.Windows.{firsts}
use Rattle.rank_state.specs.Core.{fault_of}
use Rattle.rank_state.specs.Indices.{values_at}
use Rattle.rank_state.specs.Frames.{Shut, pane_at, pane_after, closed}
use Rattle.rank_state.specs.Machine.{State, row, noted, merged_pane, passed, windows_of}
use Rattle.rank_state.specs.Shows.{Tables, AreWindows, Shows}
use Rattle.rank_program.specs.AloneRuns.{Share, RunsAt, share_of, with_share}

module _ {F : Type 0} (p : Setup F) (l : Layout F) (t : Tables) (k r : ℕ) where
  -- a begin and its own end at once show what the steps leave
  abbrev pub PairsShow : Type 0
  PairsShow =
      (x : ℕ) → IsStep (by_place p l) (Begin k r x) → (spans : List Span) (scalars : List Scalar) → AreWindows p l t k r x spans scalars
      → (st : State F) (f : Flat F) → Shows p l t st f → pane_at st.frames.panes r x ≡ Shut → 0 < st.frames.left
      → Shows p l t
      (passed (p.owner (p.program.set k) (l.original k r x) == r) k r (l.original k r x) spans scalars
      (l.core k (l.original k r x) (values_at st.variables t.constants) (windows_of st r spans scalars)) st)
      (flat_step p l (End k r x) (flat_step p l (Begin k r x) f))

  abbrev of_parts : State F → List (List ℤ) → List (List ℤ) → Option (Stop F) → State F
  of_parts st ms ps x = record st { memories = ms; partials = ps; fault = x }

  module _ (old : State F) (here : r < length old.memories) (there : r < length old.partials) where
    -- no run
    pub unchanged : (m : Share F) → m ≡ share_of r old → old ≡ with_share r m old
    unchanged m e =
        ap₂ (λ ms ps. of_parts old ms ps old.fault) (sym (set-get_or old.memories r [])) (sym (set-get_or old.partials r []))
        ∙ ap (λ z. with_share r z old) (sym e)

    -- a run of an element is a begin and its own end at once
    pub run_passes : (x : ℕ) (m new : Share F) → (runs : RunsAt p l t k r (values_at old.variables t.constants) old.variables x m new)
        → passed (p.owner (p.program.set k) (l.original k r x) == r) k r (l.original k r x) runs.spans runs.scalars
        (l.core k (l.original k r x) (values_at old.variables t.constants) (windows_of (with_share r m old) r runs.spans runs.scalars)) (with_share r m old)
        ≡ with_share r new old
    run_passes x m new runs =
        let e = l.original k r x in
        let own = p.owner (p.program.set k) e == r in
        let vs = values_at old.variables t.constants in
        let spans = runs.spans in
        let scalars = runs.scalars in
        let cells_there : row (set old.memories r m.cells) r ≡ m.cells = get_or-set_same old.memories r m.cells [] here in
        let partials_there : row (set old.partials r m.partials) r ≡ m.partials = get_or-set_same old.partials r m.partials [] there in
        let ran : Core F = l.core k e vs (gathered (row (set old.memories r m.cells) r) spans ++ firsts old.variables scalars) in
        let same : ran ≡ runs.ran = ap (λ z. l.core k e vs (gathered z spans ++ firsts old.variables scalars)) cells_there ∙ sym runs.is in
        let cells : closed spans (pane_after k ran) (row (set old.memories r m.cells) r) ≡ new.cells =
        ap₂ (λ o z. closed spans (pane_after k o) z) same cells_there ∙ sym runs.cells in
        let amounts : merged_pane own (total spans) scalars (pane_after k ran) (row (set old.partials r m.partials) r) ≡ new.partials =
        ap₂ (λ o z. merged_pane own (total spans) scalars (pane_after k o) z) same partials_there ∙ sym runs.partials in
        let memories : set (set old.memories r m.cells) r (closed spans (pane_after k ran) (row (set old.memories r m.cells) r)) ≡ set old.memories r new.cells =
        set-set old.memories r m.cells (closed spans (pane_after k ran) (row (set old.memories r m.cells) r)) ∙ ap (set old.memories r) cells in
        let partials : set (set old.partials r m.partials) r (merged_pane own (total spans) scalars (pane_after k ran) (row (set old.partials r m.partials) r)) ≡ set old.partials r new.partials =
        set-set old.partials r m.partials (merged_pane own (total spans) scalars (pane_after k ran) (row (set old.partials r m.partials) r)) ∙ ap (set old.partials r) amounts in
        let fault : noted k e (fault_of ran) m.fault ≡ new.fault = ap (λ o. noted k e (fault_of o) m.fault) same ∙ sym runs.fault in
        ap₂ (λ ms ps. of_parts old ms ps (noted k e (fault_of ran) m.fault)) memories partials
        ∙ ap (of_parts old (set old.memories r new.cells) (set old.partials r new.partials)) fault
