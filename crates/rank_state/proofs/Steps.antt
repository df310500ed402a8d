-- Begins and ends: those of the lists are those of the machine on flat buffers.
use Rattle.std.proofs.Common.{◌≡◌, ℕ, zero, suc, ℤ, pos, ◌+◌, ◌<◌, ◌≤◌, Bool, true, false, cond, refl, sym, ap, ap₂, subst, ◌∙◌, arith, ⊎_elim, Some, None, List, [], ◌∷◌, ◌++◌, map, length, get_or, set, take, drop, get_or-set_same, get_or-set_other, length-set, length-drop}
use Rattle.std.specs.Prelude.{◌==◌}
use Rattle.std.proofs.lemmas.Bool.{cases_Bool, cases_eq, false≢true, false_from_ne_true, and_parts, ltb-true, eqb-true, eq-eqb, cond-true, cond-false}
use Rattle.std.proofs.lemmas.List.{take_all, map-append, length-map, set-get_or}
use Rattle.std.proofs.Math.Seq.{drop-cons}
use Rattle.schedule_steps.specs.declared.step.Step.TheVariants.{Begin, End}
use Rattle.schedule_steps.specs.Steps.{IsStep}
use Rattle.schedule_model.specs.Cells.{Variable, VarCell}
use Rattle.schedule_model.specs.Program.{Free, is_loop, elements}
use Rattle.schedule_model.specs.Setup.{Setup}
use Rattle.schedule_model.specs.Tests.{free_kind}
use Rattle.schedule_model.specs.Machine.{put2, merge_at, window_of}
use Rattle.schedule_model.specs.Kept.{kept}
use Rattle.schedule_model.specs.Layout.{Layout, Core, Faults, Leaves, IsLayout, lookup, by_place}
use Rattle.schedule_model.specs.Flat as flat
use Rattle.schedule_model.specs.Flat.{Flat, read, variable, window, open_pane, close_pane, flat_step}
use Rattle.schedule_model.specs.Scatter.{looked_up}
use Rattle.rank_state.specs.declared.spans.Span.{Span}
use Rattle.rank_state.specs.declared.scalars.Scalar.{Scalar}
use Rattle.rank_state.specs.declared.scalars.Scalar.TheVariants.{Value, Amount}
use Rattle.rank_state.specs.Spans.{Within, total}
use Rattle.rank_state.specs.Windows.{index, first, span_cells, scalar_cells, amounts, has_slot}
use Rattle.rank_state.specs.Frames.{Pane, Shut, Broken, Holds, pane_at, with_pane, closed}
use Rattle.rank_state.specs.Machine.{State, row, windows_of, begun_as, begun, merged_pane, ended}
use Rattle.rank_state.specs.Shows.{Tables, variables_from, Indexed, IsScalar, AreScalars, AreWindows, Sized, Shows, pane_in}
use Rattle.rank_state.proofs.Gathers.{AtFirst, gather_cells, gather_scalars}
use Rattle.rank_state.proofs.Posts.{pair, pair_cases, put2_same, put2_other}
use Rattle.rank_state.proofs.Panes.{ranks_kept, places_kept, pane_here, pane_else, panes_put}
use Rattle.rank_state.proofs.Faults.{kept_push, elements_push}
use Rattle.rank_state.proofs.Amounts.{amounts_length, amounts_other, amounts_here, slot_site, lookup_scalar, once_behind, windows_length}
use Rattle.rank_state.proofs.Scatters.{LookUp, scattered_length, copied_back}
use Rattle.rank_state.specs.Indices.{values_at, InLength}
use Rattle.rank_state.proofs.Messages as messages
use Rattle.rank_state.proofs.Messages.{lengths_kept}

module _ {F : Type 0} (p : Setup F) (l : Layout F) (t : Tables) (q : Indexed p l t) (st : State F) (f : Flat F) (h : Shows p l t st f) where
  row_length : (r : ℕ) → r < p.ranks → length (row st.memories r) ≡ l.width r
  row_length = messages.row_length p l t q st f h

  read_at : (r i : ℕ) → r < p.ranks → i < length (row st.memories r) → read p l f r (l.cell_at r i) ≡ get_or (row st.memories r) i (pos 0)
  read_at = messages.read_at p l t q st f h

  memories_sized : (r : ℕ) (new : List ℤ) → length new ≡ length (row st.memories r) → r < p.ranks → (a : ℕ) → a < p.ranks → length (get_or (set st.memories r new) a []) ≡ l.width a
  memories_sized = messages.memories_sized p l t q st f h

  -- ---- begin

  -- the first n variables
  constants_from : (i n : ℕ) → i + n ≤ l.variables → take n (drop i st.variables) ≡ map (variable p l f) (variables_from l.variable_at i n)
  constants_from i zero le = refl
  constants_from i (suc n) le =
      let count : length st.variables ≡ l.variables = h.sized.count in
      ap (take (suc n)) (drop-cons st.variables i (pos 0) (omega arith))
      ∙ (ap (λ x. x ∷ take n (drop (suc i) st.variables)) (sym (variable_at_index i (omega arith)))
      ∙ ap (λ xs. variable p l f (l.variable_at i) ∷ xs) (constants_from (suc i) n (omega arith)))
    where
      variable_at_index : (i : ℕ) → i < l.variables → variable p l f (l.variable_at i) ≡ get_or st.variables i (pos 0)
      variable_at_index i lt = ap (λ j. get_or f.variables j (pos 0)) (q.index_at i lt) ∙ ap (λ vs. get_or vs i (pos 0)) (sym h.variables)

  constants_at : (is : List ℕ) → InLength l.variables is → values_at st.variables is ≡ map (variable p l f) (map l.variable_at is)
  constants_at [] g = refl
  constants_at (i ∷ is) g = ap₂ (λ a b. a ∷ b) (ap (λ vs. get_or vs i (pos 0)) h.variables ∙ ap (λ j. get_or f.variables j (pos 0)) (sym (q.index_at i g.0))) (constants_at is g.1)

  pub constants_are : values_at st.variables t.constants ≡ map (variable p l f) l.constants
  constants_are = constants_at t.constants q.constants_fit ∙ ap (map (variable p l f)) (sym q.constants_are)

  -- all variables
  pub variables_are : st.variables ≡ map (variable p l f) (variables_from l.variable_at 0 l.variables)
  variables_are = sym (take_all l.variables st.variables (let n = h.sized.count in omega (arith, n))) ∙ constants_from 0 l.variables (omega arith)

  scalar_first : (k r : ℕ) (x : Scalar) → IsScalar p l t k x → window p l f k r (Variable (l.variable_at (index x))) ≡ first st.variables x
  scalar_first k r (Value at) g =
      ap (λ o. window_of o (variable p l f (l.variable_at at))) g.1
      ∙ (ap (λ j. get_or f.variables j (pos 0)) (q.index_at at g.0) ∙ ap (λ vs. get_or vs at (pos 0)) (sym h.variables))
  scalar_first k r (Amount at slot how) g = ap (λ o. window_of o (variable p l f (l.variable_at at))) g.1

  scalars_first : (k r : ℕ) (xs : List Scalar) → AreScalars p l t k xs → AtFirst l.variable_at (window p l f k r) st.variables xs
  scalars_first k r [] g = tt
  scalars_first k r (x ∷ xs) g = (scalar_first k r x g.0, scalars_first k r xs g.1)

  windows_are : (k r x : ℕ) → r < p.ranks → (spans : List Span) (scalars : List Scalar) → AreWindows p l t k r x spans scalars
      → windows_of st r spans scalars ≡ map (window p l f k r) (l.cells k (l.original k r x))
  windows_are k r x lt spans scalars e =
      ap₂ (λ a b. a ++ b)
      (gather_cells (l.cell_at r) (window p l f k r) (row st.memories r) (λ i il. read_at r i lt il) spans (subst (λ n. Within n spans) (sym (row_length r lt)) e.within))
      (gather_scalars l.variable_at (window p l f k r) st.variables scalars (scalars_first k r scalars e.are_scalars))
      ∙ (sym (map-append (window p l f k r) (span_cells (l.cell_at r) spans) (scalar_cells l.variable_at scalars))
      ∙ ap (map (window p l f k r)) (sym e.cells))

  -- a place that stands in the table
  pub record AtPlace (r x : ℕ) : Type 0 where
    pub rank : r < p.ranks
    pub place : x < t.places r

  in_ranks : (r x : ℕ) → AtPlace r x → r < length st.frames.panes
  in_ranks r x a = let w : length st.frames.panes ≡ p.ranks = h.sized.panes in omega (arith, a.rank)

  in_row : (r x : ℕ) → AtPlace r x → x < length (get_or st.frames.panes r [])
  in_row r x a = let w : length (get_or st.frames.panes r []) ≡ t.places r = h.sized.places r a.rank in omega (arith, a.place)

  held_put : (k r x : ℕ) (v : Pane) → AtPlace r x → ((j : ℕ) (ws : List ℤ) → v ≡ Holds j ws → length ws ≡ length (l.cells j (l.original j r x)))
      → (a b j : ℕ) (ws : List ℤ) → pane_at (with_pane r x v st.frames.panes) a b ≡ Holds j ws → length ws ≡ length (l.cells j (l.original j a b))
  held_put k r x v at new a b j ws e = ⊎_elim
      (λ (i : a ≡ r). ⊎_elim
      (λ (y : b ≡ x).
      subst (λ z. length ws ≡ length (l.cells j (l.original j z b))) (sym i)
      (subst (λ z. length ws ≡ length (l.cells j (l.original j r z))) (sym y)
      (new j ws (sym (pane_here r x v st.frames.panes (in_ranks r x at) (in_row r x at))
      ∙ (ap (λ z. pane_at (with_pane r x v st.frames.panes) z x) (sym i)
      ∙ (ap (pane_at (with_pane r x v st.frames.panes) a) (sym y) ∙ e))))))
      (λ (y : b ≡ x → ⊥). h.held a b j ws (sym (pane_else r x v st.frames.panes (in_ranks r x at) a b (λ z. y)) ∙ e))
      (cases_eq b x))
      (λ (i : a ≡ r → ⊥). h.held a b j ws (sym (pane_else r x v st.frames.panes (in_ranks r x at) a b (λ z w. i z)) ∙ e))
      (cases_eq a r)

  sized_put : (k r x : ℕ) (v : Pane) → AtPlace r x → (a : ℕ) → a < p.ranks → length (get_or (with_pane r x v st.frames.panes) a []) ≡ t.places a
  sized_put k r x v at a lt = places_kept r x v st.frames.panes (in_ranks r x at) a ∙ h.sized.places a lt

  open_step : (k r x : ℕ) → AtPlace r x → pane_at st.frames.panes r x ≡ Shut → (ran : Core F) → ((us : List ℤ) → ran ≡ Leaves us → length us ≡ length (l.cells k (l.original k r x)))
      → Shows p l t (begun_as k r x (l.original k r x) ran st) (open_pane p l k r x ran f)
  open_step k r x at none (Faults n) len = record {
    sized = record {
      ranks = h.sized.ranks;
      widths = h.sized.widths;
      count = h.sized.count;
      partials = h.sized.partials;
      slots = h.sized.slots;
      panes = ranks_kept r x (Broken k) st.frames.panes ∙ h.sized.panes;
      places = sized_put k r x (Broken k) at;
      stride = h.sized.stride;
    };
    memories = h.memories;
    variables = h.variables;
    partials = h.partials;
    mail = h.mail;
    whole = h.whole;
    panes = panes_put st.frames.panes f.panes k r x (Broken k) flat.Broken_pane (in_ranks r x at) (in_row r x at) h.panes (λ j. refl) (λ j ne. sym (h.panes j r x) ∙ ap (pane_in j) none);
    held = held_put k r x (Broken k) at (λ j ws e. cc);
    elements = elements_push f.faults (record { item = k; element = Some (l.original k r x); fault = n }) h.elements (l.original k r x, refl);
    fault = ap (λ o. kept o (record { item = k; element = Some (l.original k r x); fault = n })) h.fault
        ∙ sym (kept_push None f.faults (record { item = k; element = Some (l.original k r x); fault = n }));
    output = h.output;
    stop = h.stop;
  }
  open_step k r x at none (Leaves us) len = record {
    sized = record {
      ranks = h.sized.ranks;
      widths = h.sized.widths;
      count = h.sized.count;
      partials = h.sized.partials;
      slots = h.sized.slots;
      panes = ranks_kept r x (Holds k us) st.frames.panes ∙ h.sized.panes;
      places = sized_put k r x (Holds k us) at;
      stride = h.sized.stride;
    };
    memories = h.memories;
    variables = h.variables;
    partials = h.partials;
    mail = h.mail;
    whole = h.whole;
    panes = panes_put st.frames.panes f.panes k r x (Holds k us) (flat.Windows us) (in_ranks r x at) (in_row r x at) h.panes (λ j. refl) (λ j ne. sym (h.panes j r x) ∙ ap (pane_in j) none);
    held = held_put k r x (Holds k us) at (λ j ws e. (let i : k ≡ j = cc in let w : us ≡ ws = cc in ap length (sym w) ∙ (len us refl ∙ ap (λ z. length (l.cells z (l.original z r x))) i)));
    elements = h.elements;
    fault = h.fault;
    output = h.output;
    stop = h.stop;
  }

  -- a place that is run stands in the table
  at_place : (k r x : ℕ) → IsStep (by_place p l) (Begin k r x) → AtPlace r x
  at_place k r x plan = record {
    rank = plan.2;
    place = (let lt : x < l.count k r = ltb-true x (l.count k r) (and_parts (Rattle.std.specs.Prelude.nat_lt x (l.count k r)) true plan.3).0
        in omega (arith, q.counts_fit k r (free_kind (p.program.kind k) plan.1) plan.2));
  }

  pub begin_step : IsLayout p l → (k r x : ℕ) → IsStep (by_place p l) (Begin k r x) → (spans : List Span) (scalars : List Scalar)
      → AreWindows p l t k r x spans scalars → pane_at st.frames.panes r x ≡ Shut
      → Shows p l t (begun l.core t.constants k r x (l.original k r x) spans scalars st) (flat_step p l (Begin k r x) f)
  begin_step z k r x plan spans scalars e none =
      let fr : p.program.kind k ≡ Free = free_kind (p.program.kind k) plan.1 in
      let lt : x < l.count k r = ltb-true x (l.count k r) (and_parts (Rattle.std.specs.Prelude.nat_lt x (l.count k r)) true plan.3).0 in
      let el : l.original k r x < elements p.program k = (z.outside k r x fr plan.2 lt).0 in
      let same : l.core k (l.original k r x) (values_at st.variables t.constants) (windows_of st r spans scalars) ≡ l.core k
      (l.original k r x) (map (variable p l f) l.constants) (map (window p l f k r) (l.cells k (l.original k r x))) =
      ap₂ (l.core k (l.original k r x)) constants_are (windows_are k r x plan.2 spans scalars e) in
      subst (λ ran. Shows p l t (begun_as k r x (l.original k r x) ran st) (flat_step p l (Begin k r x) f)) (sym same)
      (open_step k r x (at_place k r x plan) none (l.core k (l.original k r x) (map (variable p l f) l.constants) (map (window p l f k r) (l.cells k (l.original k r x))))
      (λ us i. z.same_length k (l.original k r x) (map (variable p l f) l.constants) (map (window p l f k r) (l.cells k (l.original k r x)))
      us (ap is_loop fr) el (length-map (l.cells k (l.original k r x)) (window p l f k r)) i))

  -- ---- end

  closed_length : (r : ℕ) (spans : List Span) (pane : Pane) → r < p.ranks → Within (l.width r) spans
      → Rattle.rank_state.specs.Frames.Enough (total spans) pane
      → length (closed spans pane (row st.memories r)) ≡ length (row st.memories r)
  closed_length r spans Shut lt within room = refl
  closed_length r spans (Broken k) lt within room = refl
  closed_length r spans (Holds k ws) lt within room = scattered_length 0 ws spans (row st.memories r) (subst (λ n. Within n spans) (sym (row_length r lt)) within) (omega (arith, room))

  merged_length : (own : Bool) (n : ℕ) (scalars : List Scalar) (pane : Pane) (ps : List ℤ) → length (merged_pane own n scalars pane ps) ≡ length ps
  merged_length own n scalars Shut ps = refl
  merged_length own n scalars (Broken k) ps = refl
  merged_length true n scalars (Holds k ws) ps = amounts_length scalars (drop n ws) ps
  merged_length false n scalars (Holds k ws) ps = refl

  ended_sized : (own : Bool) (r x : ℕ) (spans : List Span) (scalars : List Scalar) → AtPlace r x → Within (l.width r) spans
      → Rattle.rank_state.specs.Frames.Enough (total spans) (pane_at st.frames.panes r x) → Sized p l t (ended own r x spans scalars st)
  ended_sized own r x spans scalars at within room = record {
    ranks = length-set st.memories r (closed spans (pane_at st.frames.panes r x) (row st.memories r)) ∙ h.sized.ranks;
    widths = memories_sized r (closed spans (pane_at st.frames.panes r x) (row st.memories r)) (closed_length r spans (pane_at st.frames.panes r x) at.rank within room) at.rank;
    count = h.sized.count;
    partials = length-set st.partials r (merged_pane own (total spans) scalars (pane_at st.frames.panes r x) (row st.partials r)) ∙ h.sized.partials;
    slots = λ a al. lengths_kept st.partials r (merged_pane own (total spans) scalars (pane_at st.frames.panes r x) (row st.partials r))
        (merged_length own (total spans) scalars (pane_at st.frames.panes r x) (row st.partials r))
        (let w : length st.partials ≡ p.ranks = h.sized.partials in omega (arith, at.rank)) a ∙ h.sized.slots a al;
    panes = ranks_kept r x Shut st.frames.panes ∙ h.sized.panes;
    places = sized_put 0 r x Shut at;
    stride = h.sized.stride;
  }

  -- a frame of a kernel that faulted leaves nothing
  broken_step : (own : Bool) (k r x : ℕ) (spans : List Span) (scalars : List Scalar) → AtPlace r x → Within (l.width r) spans → pane_at st.frames.panes r x ≡ Broken k
      → Shows p l t (ended own r x spans scalars st) (close_pane p l k r x (l.original k r x) flat.Broken_pane f)
  broken_step own k r x spans scalars at within i = record {
    sized = ended_sized own r x spans scalars at within (subst (Rattle.rank_state.specs.Frames.Enough (total spans)) (sym i) tt);
    memories = ap (λ z. set st.memories r (closed spans z (row st.memories r))) i ∙ (set-get_or st.memories r [] ∙ h.memories);
    variables = h.variables;
    partials = λ a j al jl.
        ap (λ z. get_or (get_or (set st.partials r (merged_pane own (total spans) scalars z (row st.partials r))) a []) j (pos 0)) i
        ∙ (ap (λ z. get_or (get_or z a []) j (pos 0)) (set-get_or st.partials r []) ∙ h.partials a j al jl);
    mail = h.mail;
    whole = h.whole;
    panes = panes_put st.frames.panes f.panes k r x Shut flat.Shut_pane (in_ranks r x at) (in_row r x at) h.panes
        (λ j. sym (same_cond (j == k)))
        (λ j ne. sym (h.panes j r x) ∙ (ap (pane_in j) i ∙ cond-false (j == k) flat.Broken_pane flat.Shut_pane
        (Rattle.std.proofs.lemmas.Bool.ne_eqb j k ne)));
    held = held_put k r x Shut at (λ j ws e. cc);
    elements = h.elements;
    fault = h.fault;
    output = h.output;
    stop = h.stop;
  }
    where
      same_cond : (b : Bool) → cond b flat.Shut_pane flat.Shut_pane ≡ flat.Shut_pane
      same_cond true = refl
      same_cond false = refl

  -- what an owned element's amounts make of a partial of the loop
  abbrev merging : Bool → ℕ → ℕ → ℕ → List ℤ → VarCell → ℤ
  merging own k r e ws v = cond own (merge_at (p.reduces (p.program.site k) v) (f.partials r (p.program.site k) v) (lookup (l.cells k e) ws (Variable v) (pos 0))) (f.partials r (p.program.site k) v)

  partial_here : (own : Bool) (k r x : ℕ) (spans : List Span) (scalars : List Scalar) (ws : List ℤ) (i : ℕ) → r < p.ranks
      → AreWindows p l t k r x spans scalars → length ws ≡ length (l.cells k (l.original k r x))
      → i < t.slots → t.site_at i ≡ p.program.site k → get_or
      (cond own (amounts scalars (drop (total spans) ws) (row st.partials r)) (row st.partials r)) i (pos 0) ≡ merging own k r
      (l.original k r x) ws (t.reduced_at i)
  partial_here own k r x spans scalars ws i lr e len lt site = by_own own
    where
      before : get_or (row st.partials r) i (pos 0) ≡ f.partials r (p.program.site k) (t.reduced_at i)
      before = h.partials r i lr lt ∙ ap (λ s. f.partials r s (t.reduced_at i)) site

      all : length ws ≡ total spans + length scalars
      all = len ∙ (ap length e.cells ∙ windows_length (l.cell_at r) spans l.variable_at scalars)

      by_own : (b : Bool) → get_or (cond b (amounts scalars (drop (total spans) ws) (row st.partials r)) (row st.partials r)) i (pos 0) ≡ merging b k r (l.original k r x) ws (t.reduced_at i)
      by_own true =
          amounts_here p l t k i scalars (drop (total spans) ws) (row st.partials r)
          (let w : length (row st.partials r) ≡ t.slots = h.sized.slots r lr in omega arith)
          (omega (arith, all, length-drop (total spans) ws)) e.are_scalars
          (once_behind (span_cells (l.cell_at r) spans) (scalar_cells l.variable_at scalars) (subst Rattle.schedule_model.specs.Scatter.Once e.cells e.once)) (e.covers i lt site)
          ∙ (ap (λ z. merge_at (p.reduces (p.program.site k) (t.reduced_at i)) z (lookup (scalar_cells l.variable_at scalars) (drop (total spans) ws) (Variable (t.reduced_at i)) (pos 0))) before
          ∙ ap (merge_at (p.reduces (p.program.site k) (t.reduced_at i)) (f.partials r (p.program.site k) (t.reduced_at i)))
          (sym (lookup_scalar (l.cell_at r) spans (scalar_cells l.variable_at scalars) ws (t.reduced_at i) (pos 0) (omega (arith, all)))
          ∙ ap (λ z. lookup z ws (Variable (t.reduced_at i)) (pos 0)) (sym e.cells)))
      by_own false = before

  partial_else : (own : Bool) (k r : ℕ) (n : ℕ) (scalars : List Scalar) (ws : List ℤ) (i : ℕ) → AreScalars p l t k scalars → (t.site_at i ≡ p.program.site k → ⊥)
      → get_or (cond own (amounts scalars (drop n ws) (row st.partials r)) (row st.partials r)) i (pos 0) ≡ get_or (row st.partials r) i (pos 0)
  partial_else true k r n scalars ws i g ne = amounts_other i scalars (drop n ws) (row st.partials r) (false_from_ne_true (has_slot i scalars) (λ y. ne (slot_site p l t k i scalars g y)))
  partial_else false k r n scalars ws i g ne = refl

  partials_put : (own : Bool) (k r x : ℕ) (spans : List Span) (scalars : List Scalar) (ws : List ℤ) → r < p.ranks
      → AreWindows p l t k r x spans scalars → length ws ≡ length (l.cells k (l.original k r x)) → (a i : ℕ) → a < p.ranks → i < t.slots
      → get_or (get_or (set st.partials r (cond own (amounts scalars (drop (total spans) ws) (row st.partials r)) (row st.partials r))) a
      []) i (pos 0) ≡ put2 r (p.program.site k) (merging own k r (l.original k r x) ws) f.partials a (t.site_at i) (t.reduced_at i)
  partials_put own k r x spans scalars ws lr e len a i al il =
      let new = cond own (amounts scalars (drop (total spans) ws) (row st.partials r)) (row st.partials r) in
      let lp : r < length st.partials = (let w : length st.partials ≡ p.ranks = h.sized.partials in omega arith) in
      ⊎_elim
      (λ (y : (a ≡ r) × (t.site_at i ≡ p.program.site k)).
      subst (λ z. get_or (get_or (set st.partials r
      (cond own (amounts scalars (drop (total spans) ws) (row st.partials r)) (row st.partials r))) z []) i (pos 0) ≡ put2 r
      (p.program.site k) (merging own k r (l.original k r x) ws) f.partials z (t.site_at i) (t.reduced_at i)) (sym y.0)
      (ap (λ z. get_or z i (pos 0)) (get_or-set_same st.partials r (cond own (amounts scalars (drop (total spans) ws) (row st.partials r)) (row st.partials r)) [] lp)
      ∙ (partial_here own k r x spans scalars ws i lr e len il y.1
      ∙ ap (λ g. g (t.reduced_at i)) (sym (ap (put2 r (p.program.site k) (merging own k r (l.original k r x) ws) f.partials r) y.1
      ∙ put2_same r (p.program.site k) (merging own k r (l.original k r x) ws) f.partials)))))
      (λ (ne : pair a (t.site_at i) r (p.program.site k) ≡ false).
      ⊎_elim
      (λ (y : a ≡ r).
      let other : t.site_at i ≡ p.program.site k → ⊥ =
      (λ s. false≢true (sym ne ∙ Rattle.std.proofs.lemmas.Bool.and_from (a == r) (t.site_at i == p.program.site k) (eq-eqb a r y)
      (eq-eqb (t.site_at i) (p.program.site k) s))) in
      ap (λ z. get_or (get_or (set st.partials r (cond own (amounts scalars (drop (total spans) ws) (row st.partials r)) (row st.partials r))) z []) i (pos 0)) y
      ∙ (ap (λ z. get_or z i (pos 0)) (get_or-set_same st.partials r (cond own (amounts scalars (drop (total spans) ws) (row st.partials r)) (row st.partials r)) [] lp)
      ∙ (partial_else own k r (total spans) scalars ws i e.are_scalars other ∙ ap (λ z. get_or (get_or st.partials z []) i (pos 0)) (sym y))))
      (λ (y : a ≡ r → ⊥). ap (λ z. get_or z i (pos 0)) (get_or-set_other st.partials r a (cond own (amounts scalars (drop (total spans) ws) (row st.partials r)) (row st.partials r)) [] y))
      (cases_eq a r)
      ∙ (h.partials a i al il ∙ ap (λ g. g (t.reduced_at i)) (sym (put2_other r (p.program.site k) (merging own k r (l.original k r x) ws) f.partials a (t.site_at i) ne))))
      (pair_cases a (t.site_at i) r (p.program.site k))

  -- a frame's windows go back
  windows_step : LookUp → (k r x : ℕ) (spans : List Span) (scalars : List Scalar) (ws : List ℤ) → AtPlace r x → AreWindows p l t k r x spans scalars → pane_at st.frames.panes r x ≡ Holds k ws
      → Shows p l t (ended (p.owner (p.program.set k) (l.original k r x) == r) r x spans scalars st) (close_pane p l k r x (l.original k r x) (flat.Windows ws) f)
  windows_step law k r x spans scalars ws at e i =
      let own = p.owner (p.program.set k) (l.original k r x) == r in
      let len : length ws ≡ length (l.cells k (l.original k r x)) = h.held r x k ws i in
      let all : length ws ≡ total spans + length scalars = len ∙ (ap length e.cells ∙ windows_length (l.cell_at r) spans l.variable_at scalars) in
      let room : total spans ≤ length ws = omega (arith, all) in
      record {
        sized = ended_sized (p.owner (p.program.set k) (l.original k r x) == r) r x spans scalars at e.within (subst (Rattle.rank_state.specs.Frames.Enough (total spans)) (sym i) room);
        memories = ap (λ z. set st.memories r (closed spans z (row st.memories r))) i
            ∙ (ap (set st.memories r) (copied_back (λ c. p.modifies k c.dat) (l.place r) (l.cell_at r) (l.width r)
            (λ j jl. q.place_at r j at.rank jl) law spans l.variable_at scalars (l.cells k (l.original k r x)) ws (row st.memories r)
            e.cells e.once (row_length r at.rank) e.within room e.writes)
            ∙ ap (λ ms. set ms r (looked_up (λ c. p.modifies k c.dat) (l.cell_at r) (l.cells k (l.original k r x)) ws (row ms r))) h.memories);
        variables = h.variables;
        partials = λ a j al jl.
            ap (λ z. get_or (get_or (set st.partials r (merged_pane (p.owner (p.program.set k) (l.original k r x) == r) (total spans) scalars z (row st.partials r))) a []) j (pos 0)) i
            ∙ partials_put (p.owner (p.program.set k) (l.original k r x) == r) k r x spans scalars ws at.rank e len a j al jl;
        mail = h.mail;
        whole = h.whole;
        panes = panes_put st.frames.panes f.panes k r x Shut flat.Shut_pane (in_ranks r x at) (in_row r x at) h.panes
            (λ j. sym (same_cond (j == k)))
            (λ j ne. sym (h.panes j r x) ∙ (ap (pane_in j) i ∙ cond-false (j == k) (flat.Windows ws) flat.Shut_pane
            (Rattle.std.proofs.lemmas.Bool.ne_eqb j k ne)));
        held = held_put k r x Shut at (λ j us y. cc);
        elements = h.elements;
        fault = h.fault;
        output = h.output;
        stop = h.stop;
      }
    where
      same_cond : (b : Bool) → cond b flat.Shut_pane flat.Shut_pane ≡ flat.Shut_pane
      same_cond true = refl
      same_cond false = refl

  pub end_step : LookUp → (k r x : ℕ) → IsStep (by_place p l) (End k r x) → (spans : List Span) (scalars : List Scalar)
      → AreWindows p l t k r x spans scalars → (pane_in k (pane_at st.frames.panes r x) ≡ flat.Shut_pane → ⊥)
      → Shows p l t (ended (p.owner (p.program.set k) (l.original k r x) == r) r x spans scalars st) (flat_step p l (End k r x) f)
  end_step law k r x plan spans scalars e stays =
      subst (λ z. Shows p l t (ended (p.owner (p.program.set k) (l.original k r x) == r) r x spans scalars st) (close_pane p l k r x (l.original k r x) z f)) (h.panes k r x)
      (by_pane (pane_at st.frames.panes r x) refl stays)
    where
      by_pane : (pane : Pane) → pane_at st.frames.panes r x ≡ pane → (pane_in k pane ≡ flat.Shut_pane → ⊥)
          → Shows p l t (ended (p.owner (p.program.set k) (l.original k r x) == r) r x spans scalars st) (close_pane p l k r x (l.original k r x) (pane_in k pane) f)
      by_pane Shut i n = absurd (n refl)
      by_pane (Broken j) i n = ⊎_elim
          (λ (y : (k == j) ≡ true).
          subst (λ z. Shows p l t (ended (p.owner (p.program.set k) (l.original k r x) == r) r x spans scalars st)
          (close_pane p l k r x (l.original k r x) z f)) (sym (cond-true (k == j) flat.Broken_pane flat.Shut_pane y))
          (broken_step (p.owner (p.program.set k) (l.original k r x) == r) k r x spans scalars (at_place k r x plan) e.within (i ∙ ap Broken (sym (eqb-true k j y)))))
          (λ (y : (k == j) ≡ false). absurd (n (cond-false (k == j) flat.Broken_pane flat.Shut_pane y)))
          (cases_Bool (k == j))
      by_pane (Holds j ws) i n = ⊎_elim
          (λ (y : (k == j) ≡ true).
          subst (λ z. Shows p l t (ended (p.owner (p.program.set k) (l.original k r x) == r) r x spans scalars st)
          (close_pane p l k r x (l.original k r x) z f)) (sym (cond-true (k == j) (flat.Windows ws) flat.Shut_pane y))
          (windows_step law k r x spans scalars ws (at_place k r x plan) e (i ∙ ap (λ z. Holds z ws) (sym (eqb-true k j y)))))
          (λ (y : (k == j) ≡ false). absurd (n (cond-false (k == j) (flat.Windows ws) flat.Shut_pane y)))
          (cases_Bool (k == j))
