-- What the machine's calls need of its lists, where these show a state.
use Rattle.std.proofs.Common.{◌≡◌, ℕ, ◌+◌, ◌<◌, ◌≤◌, true, false, refl, sym, ap, subst, ◌∙◌, arith, ⊎_elim, List, [], ◌∷◌, length, get_or}
use Rattle.std.specs.Prelude.{◌==◌, nat_lt}
use Rattle.std.proofs.lemmas.Bool.{cases_Bool, and_parts, ltb-true, eqb-true, cond-false}
use Rattle.schedule_steps.specs.declared.step.Step.TheVariants.{Begin, End}
use Rattle.schedule_steps.specs.Steps.{IsStep}
use Rattle.schedule_model.specs.Setup.{Setup}
use Rattle.schedule_model.specs.Tests.{free_kind}
use Rattle.schedule_model.specs.Layout.{Layout, by_place}
use Rattle.schedule_model.specs.Flat.{Flat}
use Rattle.schedule_model.specs.Flat as flat
use Rattle.rank_state.specs.declared.spans.Span.{Span}
use Rattle.rank_state.specs.declared.scalars.Scalar.{Scalar}
use Rattle.rank_state.specs.declared.scalars.Scalar.TheVariants.{Value, Amount}
use Rattle.rank_state.specs.Spans.{Within, total}
use Rattle.rank_state.specs.Windows.{Reads, InSlots, Merges}
use Rattle.rank_state.specs.Frames.{Pane, Shut, Broken, Holds, pane_at, Enough, Exactly}
use Rattle.rank_state.specs.declared.owned.Owned.{Owned}
use Rattle.rank_state.specs.Machine.{State}
use Rattle.rank_state.specs.Ordered.{Within_all, total_all, OwnedBy, InVariables, AreOwned}
use Rattle.rank_state.specs.Indices.{InLength}
use Rattle.rank_state.specs.Shows.{Tables, Indexed, IsScalar, AreScalars, AreWindows, AreExports, AreImports, Shows, pane_in}
use Rattle.rank_state.specs.Can.{CanCopy, HasPlace, CanBegin, CanEnd, CanReduce, CanRun}
use Rattle.rank_state.proofs.Amounts.{windows_length, cells_total}

module _ {F : Type 0} (p : Setup F) (l : Layout F) (t : Tables) where
  pub exports_total : (k s r a : ℕ) (spans : List Span) → AreExports p l t k s r a spans → total spans ≡ length (l.exports k s r)
  exports_total k s r a spans e = sym (ap length e.cells ∙ cells_total (l.cell_at a) spans)

  pub imports_total : (k s r : ℕ) (spans : List Span) → AreImports p l t k s r spans → total spans ≡ length (l.exports k s r)
  imports_total k s r spans e = sym (ap length e.cells ∙ cells_total (l.cell_at r) spans)

  reads : (k : ℕ) (xs : List Scalar) → AreScalars p l t k xs → Reads l.variables xs
  reads k [] h = tt
  reads k (x ∷ xs) h = (of_one x h.0, reads k xs h.1)
    where
      of_one : (x : Scalar) → IsScalar p l t k x → Rattle.rank_state.specs.Windows.index x < l.variables
      of_one (Value at) g = g.0
      of_one (Amount at slot how) g = g.0

  merges : (k : ℕ) (xs : List Scalar) → AreScalars p l t k xs → Merges t.slots xs
  merges k [] h = tt
  merges k (x ∷ xs) h = (of_one x h.0, merges k xs h.1)
    where
      of_one : (x : Scalar) → IsScalar p l t k x → InSlots t.slots x
      of_one (Value at) g = tt
      of_one (Amount at slot how) g = g.2

module _ {F : Type 0} (p : Setup F) (l : Layout F) (t : Tables) (st : State F) (f : Flat F) (h : Shows p l t st f) where
  pub can_copy : (r : ℕ) (spans : List Span) → r < p.ranks → Within (l.width r) spans → CanCopy st r spans
  can_copy r spans lt within = record {
    rank = (let w : length st.memories ≡ p.ranks = h.sized.ranks in omega arith);
    inside = subst (λ n. Within n spans) (sym (h.sized.widths r lt)) within;
  }

  has_place : Indexed p l t → (k r x : ℕ) → IsStep (by_place p l) (Begin k r x) → HasPlace st r x
  has_place q k r x plan =
      let lt : x < l.count k r = ltb-true x (l.count k r) (and_parts (nat_lt x (l.count k r)) true plan.3).0 in
      let lr : r < p.ranks = plan.2 in
      record {
        rank = (let w : length st.frames.panes ≡ p.ranks = h.sized.panes in omega arith);
        place = (let w : length (get_or st.frames.panes r []) ≡ t.places r = h.sized.places r plan.2 in let c : l.count k r ≤ t.places r =
            q.counts_fit k r (free_kind (p.program.kind k) plan.1) plan.2 in omega arith);
      }

  pub can_begin : Indexed p l t → (k r x : ℕ) → IsStep (by_place p l) (Begin k r x) → (spans : List Span) (scalars : List Scalar)
      → AreWindows p l t k r x spans scalars → CanBegin st t.constants r x spans scalars
  can_begin q k r x plan spans scalars e =
      let count : length st.variables ≡ l.variables = h.sized.count in
      record {
        memory = can_copy r spans plan.2 e.within;
        frame = has_place q k r x plan;
        reads = subst (λ n. Reads n scalars) (sym h.sized.count) (reads p l t k scalars e.are_scalars);
        constants = subst (λ n. InLength n t.constants) (sym h.sized.count) q.constants_fit;
        fits = (let s : st.frames.stride ≡ t.stride = h.sized.stride in let i : total spans + length scalars ≤ t.stride = e.fits in omega arith);
      }

  -- an open frame has the cells of its element's windows
  frame_cells : (k r x : ℕ) (spans : List Span) (scalars : List Scalar) → AreWindows p l t k r x spans scalars → (pane_in k (pane_at st.frames.panes r x) ≡ flat.Shut_pane → ⊥)
      → (pane : Pane) → pane_at st.frames.panes r x ≡ pane → Enough (total spans) pane × Exactly (total spans + length scalars) pane
  frame_cells k r x spans scalars e stays Shut i = (tt, tt)
  frame_cells k r x spans scalars e stays (Broken j) i = (tt, tt)
  frame_cells k r x spans scalars e stays (Holds j ws) i = ⊎_elim
      (λ (y : (k == j) ≡ true).
      let here : pane_at st.frames.panes r x ≡ Holds k ws = i ∙ ap (λ z. Holds z ws) (sym (eqb-true k j y)) in
      let len : length ws ≡ total spans + length scalars = h.held r x k ws here ∙ (ap length e.cells ∙ windows_length (l.cell_at r) spans l.variable_at scalars) in
      (omega arith, len))
      (λ (y : (k == j) ≡ false). absurd (stays (ap (pane_in k) i ∙ cond-false (k == j) (flat.Windows ws) flat.Shut_pane y)))
      (cases_Bool (k == j))

  pub can_end : Indexed p l t → (k r x : ℕ) → IsStep (by_place p l) (End k r x) → (spans : List Span) (scalars : List Scalar)
      → AreWindows p l t k r x spans scalars → (pane_in k (pane_at st.frames.panes r x) ≡ flat.Shut_pane → ⊥)
      → CanEnd st r x spans scalars
  can_end q k r x plan spans scalars e stays =
      let lr : r < p.ranks = plan.2 in
      let cells = frame_cells k r x spans scalars e stays (pane_at st.frames.panes r x) refl in
      record {
        memory = can_copy r spans plan.2 e.within;
        frame = has_place q k r x plan;
        partials = (let w : length st.partials ≡ p.ranks = h.sized.partials in omega arith);
        slots = subst (λ n. Merges n scalars) (sym (h.sized.slots r plan.2)) (merges p l t k scalars e.are_scalars);
        enough = cells.0;
        exact = cells.1;
      }

  pub can_reduce : (k : ℕ) (scalars : List Scalar) → AreScalars p l t k scalars → CanReduce st scalars
  can_reduce k scalars g = record {
    reads = subst (λ n. Reads n scalars) (sym h.sized.count) (reads p l t k scalars g);
    rows = λ i lt. subst (λ n. Merges n scalars) (sym (h.sized.slots i (let w : length st.partials ≡ p.ranks = h.sized.partials in omega arith))) (merges p l t k scalars g);
  }

  within_all : (spans : List Owned) → OwnedBy p l t spans → Within_all st.memories spans
  within_all [] h2 = tt
  within_all (s ∷ ss) g = (
    (let w : length st.memories ≡ p.ranks = h.sized.ranks in let lt = g.0 in omega arith),
    (let w : length (get_or st.memories s.rank []) ≡ l.width s.rank = h.sized.widths s.rank g.0 in let room : s.at + s.dim ≤ l.width s.rank = g.1 in omega arith),
    within_all ss g.3,
  )

  in_length : (indices : List ℕ) → InVariables p l t indices → InLength (length st.variables) indices
  in_length [] g = tt
  in_length (i ∷ is) g = ((let w : length st.variables ≡ l.variables = h.sized.count in let lt = g.0 in omega arith), in_length is g.1)

  pub can_run : Indexed p l t → (k e : ℕ) (spans : List Owned) (indices : List ℕ) → AreOwned p l t k e spans indices → CanRun st t.constants spans indices
  can_run q k e spans indices o =
      let count : length st.variables ≡ l.variables = h.sized.count in
      record {
        inside = within_all spans o.owned;
        reads = in_length indices o.variables;
        constants = subst (λ n. InLength n t.constants) (sym h.sized.count) q.constants_fit;
        room = (let s : st.frames.stride ≡ t.stride = h.sized.stride in let i : total_all spans + length indices ≤ t.stride = o.fits in omega arith);
      }
