-- Messages: a send and a receive of the lists are those of the machine on flat buffers.
use Rattle.std.proofs.Common.{◌≡◌, ℕ, ℤ, pos, ◌<◌, refl, sym, ap, ap₂, subst, ◌∙◌, arith, ⊎_elim, Option, Some, None, List, [], ◌∷◌, ◌++◌, map, length, get_or, set, get_or-set_same, get_or-set_other, length-set, append-nil}
use Rattle.std.proofs.lemmas.Bool.{cases_eq}
use Rattle.std.proofs.lemmas.List.{length-map}
use Rattle.schedule_steps.specs.declared.step.Step.TheVariants.{Send, Recv}
use Rattle.schedule_model.specs.Setup.{Setup}
use Rattle.schedule_model.specs.Machine.{put2, arrives}
use Rattle.schedule_model.specs.Layout.{Layout}
use Rattle.schedule_model.specs.Flat as flat
use Rattle.schedule_model.specs.Flat.{Flat, read, packed, take_post, flat_step}
use Rattle.schedule_model.specs.Scatter.{looked_up}
use Rattle.rank_state.specs.declared.spans.Span.{Span}
use Rattle.rank_state.specs.Spans.{Within, total, gathered, scattered}
use Rattle.rank_state.specs.Windows.{span_cells}
use Rattle.rank_state.specs.Mail.{Post, first_post, without_first, arrived, Carries, Carries_as}
use Rattle.rank_state.specs.Machine.{State, row, posted, taken}
use Rattle.rank_state.specs.Shows.{Tables, Indexed, AreExports, AreImports, Shows, post_of, queue}
use Rattle.rank_state.proofs.Gathers.{gather_cells}
use Rattle.rank_state.proofs.Posts.{queue_push, first_queue, queue_pop, whole_push, whole_pop}
use Rattle.rank_state.proofs.Scatters.{LookUp, scattered_length, copied_back}

abbrev message : ℕ → List ℤ → flat.Post
message k vs = record { about = k; values = vs }

-- one row changes and keeps its length
pub lengths_kept : (rows : List (List ℤ)) (r : ℕ) (new : List ℤ) → length new ≡ length (get_or rows r []) → r < length rows → (a : ℕ)
    → length (get_or (set rows r new) a []) ≡ length (get_or rows a [])
lengths_kept rows r new e lt a = ⊎_elim
    (λ (i : a ≡ r). subst (λ z. length (get_or (set rows r new) z []) ≡ length (get_or rows z [])) (sym i) (ap length (get_or-set_same rows r new [] lt) ∙ e))
    (λ (ne : a ≡ r → ⊥). ap length (get_or-set_other rows r a new [] ne))
    (cases_eq a r)

module _ {F : Type 0} (p : Setup F) (l : Layout F) (t : Tables) (q : Indexed p l t) (st : State F) (f : Flat F) (h : Shows p l t st f) where
  -- a rank's buffer
  row_is : (r : ℕ) → row st.memories r ≡ get_or f.memories r []
  row_is r = ap (λ z. get_or z r []) h.memories

  pub row_length : (r : ℕ) → r < p.ranks → length (row st.memories r) ≡ l.width r
  row_length r lt = h.sized.widths r lt

  -- the value of an index by its cell
  pub read_at : (r i : ℕ) → r < p.ranks → i < length (row st.memories r) → read p l f r (l.cell_at r i) ≡ get_or (row st.memories r) i (pos 0)
  read_at r i lt il =
      ap (λ z. get_or z (l.place r (l.cell_at r i)) (pos 0)) (sym (row_is r))
      ∙ ap (λ j. get_or (row st.memories r) j (pos 0)) (q.place_at r i lt (let w : length (row st.memories r) ≡ l.width r = row_length r lt in omega arith))

  packed_spans : (k s r : ℕ) → s < p.ranks → (spans : List Span) → AreExports p l t k s r s spans → gathered (row st.memories s) spans ≡ map (packed p l f s) (l.exports k s r)
  packed_spans k s r lt spans e =
      gather_cells (l.cell_at s) (packed p l f s) (row st.memories s) (λ i il. read_at s i lt il) spans (subst (λ n. Within n spans) (sym (row_length s lt)) e.within)
      ∙ ap (map (packed p l f s)) (sym e.cells)

  pub send_step : (k s r : ℕ) → s < p.ranks → (spans : List Span) → AreExports p l t k s r s spans → Shows p l t (posted k s r spans st) (flat_step p l (Send k s r) f)
  send_step k s r lt spans e = record {
    sized = record {
      ranks = h.sized.ranks;
      widths = h.sized.widths;
      count = h.sized.count;
      partials = h.sized.partials;
      slots = h.sized.slots;
      panes = h.sized.panes;
      places = h.sized.places;
      stride = h.sized.stride;
    };
    memories = h.memories;
    variables = h.variables;
    partials = h.partials;
    mail = λ a b.
        queue_push st.mail.posts f.mail h.mail (record { item = k; from = s; to = r; values = gathered (row st.memories s) spans }) a b
        ∙ ap (λ vs. put2 s r (f.mail s r ++ (message k vs ∷ [])) f.mail a b) (packed_spans k s r lt spans e);
    whole = whole_push p l t st.mail.posts (record { item = k; from = s; to = r; values = gathered (row st.memories s) spans }) h.whole
        (ap length (packed_spans k s r lt spans e) ∙ length-map (l.exports k s r) (packed p l f s));
    panes = h.panes;
    held = h.held;
    elements = h.elements;
    fault = h.fault;
    output = h.output;
    stop = h.stop;
  }

  -- ---- receive

  -- the buffer's lengths after a row of a rank was written
  pub memories_sized : (r : ℕ) (new : List ℤ) → length new ≡ length (row st.memories r) → r < p.ranks → (a : ℕ) → a < p.ranks → length (get_or (set st.memories r new) a []) ≡ l.width a
  memories_sized r new e lt a al = lengths_kept st.memories r new e (let w : length st.memories ≡ p.ranks = h.sized.ranks in omega arith) a ∙ h.sized.widths a al

  take_step : LookUp → (k r s : ℕ) → r < p.ranks → (spans : List Span) → AreImports p l t k s r spans → (y : Post) → first_post s r st.mail.posts ≡ Some y → y.item ≡ k → length y.values ≡ total spans
      → Shows p l t (taken r s spans st) (take_post p l r s (post_of y ∷ queue s r (without_first s r st.mail.posts)) f)
  take_step law k r s lt spans e y one about len =
      let ranks : length st.memories ≡ p.ranks = h.sized.ranks in
      let inside : Within (length (row st.memories r)) spans = subst (λ n. Within n spans) (sym (row_length r lt)) e.within in
      let new : arrived spans (first_post s r st.mail.posts) (row st.memories r) ≡ scattered 0 y.values spans (row st.memories r) = ap (λ o. arrived spans o (row st.memories r)) one in
      let same : length (arrived spans (first_post s r st.mail.posts) (row st.memories r)) ≡ length (row st.memories r) = ap length new
      ∙ scattered_length 0 y.values spans (row st.memories r) inside (omega arith) in
      let back : scattered 0 y.values spans (row st.memories r) ≡ looked_up (arrives p k r s) (l.cell_at r) (l.exports k s r) y.values (row st.memories r) =
      copied_back (arrives p k r s) (l.place r) (l.cell_at r) (l.width r) (λ i il. q.place_at r i lt il) law spans l.variable_at [] (l.exports k s r) y.values (row st.memories r)
      (e.cells ∙ sym (append-nil (span_cells (l.cell_at r) spans))) e.once (row_length r lt) e.within (omega arith) e.writes in
      let written : arrived spans (first_post s r st.mail.posts) (row st.memories r) ≡ looked_up (arrives p y.item r s) (l.cell_at r) (l.exports y.item s r) y.values (get_or f.memories r []) =
      new ∙ (back ∙ (ap (λ j. looked_up (arrives p j r s) (l.cell_at r) (l.exports j s r) y.values (row st.memories r)) (sym about)
      ∙ ap (looked_up (arrives p y.item r s) (l.cell_at r) (l.exports y.item s r) y.values) (row_is r))) in
      record {
        sized = record {
          ranks = length-set st.memories r (arrived spans (first_post s r st.mail.posts) (row st.memories r)) ∙ ranks;
          widths = memories_sized r (arrived spans (first_post s r st.mail.posts) (row st.memories r)) same lt;
          count = h.sized.count;
          partials = h.sized.partials;
          slots = h.sized.slots;
          panes = h.sized.panes;
          places = h.sized.places;
          stride = h.sized.stride;
        };
        memories = ap₂ (λ ms v. set ms r v) h.memories written;
        variables = h.variables;
        partials = h.partials;
        mail = queue_pop st.mail.posts f.mail h.mail s r (queue s r (without_first s r st.mail.posts)) refl;
        whole = whole_pop p l t s r st.mail.posts h.whole;
        panes = h.panes;
        held = h.held;
        elements = h.elements;
        fault = h.fault;
        output = h.output;
        stop = h.stop;
      }

  pub recv_step : LookUp → (k r s : ℕ) → r < p.ranks → (spans : List Span) → AreImports p l t k s r spans
      → Carries k s r (total spans) st.mail → Shows p l t (taken r s spans st) (flat_step p l (Recv k r s) f)
  recv_step law k r s lt spans e carries = by_post (first_post s r st.mail.posts) refl carries
    where
      by_post : (o : Option Post) → first_post s r st.mail.posts ≡ o → Carries_as k (total spans) o → Shows p l t (taken r s spans st) (flat_step p l (Recv k r s) f)
      by_post None i c = absurd c
      by_post (Some y) i c =
          subst (λ z. Shows p l t (taken r s spans st) (take_post p l r s z f)) (sym (first_queue s r st.mail.posts y i) ∙ h.mail s r)
          (take_step law k r s lt spans e y i c.0 c.1)
