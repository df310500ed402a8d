-- A begin and its own end at once.
use Rattle.std.proofs.Common.{◌≡◌, ℕ, ◌+◌, ◌-◌, ◌<◌, Bool, List, [], length, get_or, set, sym, ap, ap₂, subst, ◌∙◌, arith, get_or-set_same}
use Rattle.std.specs.Prelude.{◌==◌}
use Rattle.std.proofs.lemmas.List.{set-set, set-get_or}
use Rattle.schedule_steps.specs.declared.step.Step.TheVariants.{Begin, End}
use Rattle.schedule_steps.specs.Steps.{IsStep}
use Rattle.schedule_model.specs.Setup.{Setup}
use Rattle.schedule_model.specs.Layout.{Layout, Core, IsLayout, by_place}
use Rattle.schedule_model.specs.Flat.{Flat, flat_step}
use Rattle.rank_state.specs.declared.spans.Span.{Span}
use Rattle.rank_state.specs.declared.scalars.Scalar.{Scalar}
use Rattle.rank_state.specs.Frames.{Pane, Panes, Shut, pane_at, pane_after, with_pane, closed}
use Rattle.rank_state.specs.Machine.{State, row, windows_of, begun_as, merged_pane, ended, passed}
use Rattle.rank_state.specs.Spans.{total}
use Rattle.rank_state.specs.Indices.{values_at}
use Rattle.rank_state.specs.Shows.{Tables, Indexed, AreWindows, Shows}
use Rattle.rank_state.proofs.Scatters.{LookUp}
use Rattle.rank_state.proofs.Panes.{pane_here}
use Rattle.rank_state.proofs.Can.{can_begin}
use Rattle.rank_state.proofs.Steps.{begin_step, end_step}
use Rattle.rank_state.proofs.Opening.{begin_opens}

-- a pane that is opened and shut again
open_shut : (r x : ℕ) (v : Pane) (ps : List (List Pane)) → r < length ps → pane_at ps r x ≡ Shut → with_pane r x Shut (with_pane r x v ps) ≡ ps
open_shut r x v ps lt none =
    ap (λ row. set (with_pane r x v ps) r (set row x Shut)) (get_or-set_same ps r (set (get_or ps r []) x v) [] lt)
    ∙ set-set ps r (set (get_or ps r []) x v) (set (set (get_or ps r []) x v) x Shut)
    ∙ ap (set ps r) (set-set (get_or ps r []) x v Shut ∙ ap (set (get_or ps r []) x) (sym none) ∙ set-get_or (get_or ps r []) x Shut)
    ∙ set-get_or ps r []

module _ {F : Type 0} (st : State F) where
  abbrev of_parts : Pane → Panes → Bool → ℕ → List Span → List Scalar → State F → State F
  of_parts v fs own r spans scalars s =
      record s {
        memories = set s.memories r (closed spans v (row s.memories r));
        partials = set s.partials r (merged_pane own (total spans) scalars v (row s.partials r));
        frames = fs;
      }

  pub passes : (own : Bool) (k r x e : ℕ) (spans : List Span) (scalars : List Scalar) (ran : Core F) → r < length st.frames.panes
      → x < length (get_or st.frames.panes r []) → pane_at st.frames.panes r x ≡ Shut → 0 < st.frames.left
      → ended own r x spans scalars (begun_as k r x e ran st) ≡ passed own k r e spans scalars ran st
  passes own k r x e spans scalars ran lr lx none some =
      let left : st.frames.left - 1 + 1 ≡ st.frames.left = omega arith in
      ap₂ (λ v fs. of_parts v fs own r spans scalars (begun_as k r x e ran st))
      (pane_here r x (pane_after k ran) st.frames.panes lr lx)
      (ap₂ (λ ps n. record st.frames { panes = ps; left = n }) (open_shut r x (pane_after k ran) st.frames.panes lr none) left)

module _ {F : Type 0} (p : Setup F) (l : Layout F) (t : Tables) (q : Indexed p l t) (z : IsLayout p l) (st : State F) (f : Flat F) (h : Shows p l t st f) where
  pub pass_step : LookUp → (k r x : ℕ) → IsStep (by_place p l) (Begin k r x) → (spans : List Span) (scalars : List Scalar)
      → AreWindows p l t k r x spans scalars → pane_at st.frames.panes r x ≡ Shut → 0 < st.frames.left
      → Shows p l t (passed (p.owner (p.program.set k) (l.original k r x) == r) k r (l.original k r x) spans scalars
      (l.core k (l.original k r x) (values_at st.variables t.constants) (windows_of st r spans scalars)) st)
      (flat_step p l (End k r x) (flat_step p l (Begin k r x) f))
  pass_step law k r x plan spans scalars e none some =
      let can = can_begin p l t st f h q k r x plan spans scalars e in
      let begun = begin_step p l t q st f h z k r x plan spans scalars e none in
      subst (λ s. Shows p l t s (flat_step p l (End k r x) (flat_step p l (Begin k r x) f)))
      (passes st (p.owner (p.program.set k) (l.original k r x) == r) k r x (l.original k r x) spans scalars
      (l.core k (l.original k r x) (values_at st.variables t.constants) (windows_of st r spans scalars)) can.frame.rank can.frame.place
      none some)
      (end_step p l t q (begun_as k r x (l.original k r x)
      (l.core k (l.original k r x) (values_at st.variables t.constants) (windows_of st r spans scalars)) st)
      (flat_step p l (Begin k r x) f) begun law k r x plan spans scalars e
      (λ shut. begin_opens p l k r x f (sym (begun.panes k r x) ∙ shut)))
