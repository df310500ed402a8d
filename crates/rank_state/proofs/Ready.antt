-- What a step needs of the lists, from the state that they show.
use Rattle.std.proofs.Common.{◌≡◌, ℕ, true, false, refl, sym, ap, subst, ◌∙◌, Some, List, [], ◌∷◌, map, length}
use Rattle.std.specs.Prelude.{◌==◌}
use Rattle.std.proofs.lemmas.Bool.{false≢true, eq-eqb, cond-true}
use Rattle.schedule_steps.specs.declared.step.Step.{Step}
use Rattle.schedule_steps.specs.UnderWay.{is_open}
use Rattle.schedule_model.specs.Setup.{Setup}
use Rattle.schedule_model.specs.Layout.{Layout}
use Rattle.schedule_model.specs.Flat.{Flat}
use Rattle.schedule_model.specs.Flat as flat
use Rattle.rank_state.specs.declared.spans.Span.{Span}
use Rattle.rank_state.specs.Spans.{total}
use Rattle.rank_state.specs.Frames.{Pane, Shut, Broken, Holds, pane_at}
use Rattle.rank_state.specs.Mail.{Post, first_post, Carries, Carries_as}
use Rattle.rank_state.specs.Machine.{State}
use Rattle.rank_state.specs.Shows.{Tables, AreImports, Shows, pane_in}
use Rattle.schedule_model.specs.Followed.{is_shut, queue_of}
use Rattle.rank_state.specs.Groups.{AllShut}
use Rattle.rank_state.proofs.Groups.{Closed}
use Rattle.rank_state.proofs.Posts.{whole_first, first_of}
use Rattle.rank_state.proofs.Amounts.{cells_total}

module _ {F : Type 0} (p : Setup F) (l : Layout F) (t : Tables) (st : State F) (f : Flat F) (h : Shows p l t st f) where
  pub carries : (k r s : ℕ) (spans : List Span) → AreImports p l t k s r spans → (ks : List ℕ) → queue_of f s r ≡ k ∷ ks → Carries k s r (total spans) st.mail
  carries k r s spans e ks i =
      let y : (y : Post) × (first_post s r st.mail.posts ≡ Some y) × (y.item ≡ k) = first_of s r st.mail.posts k ks (ap (map (λ (z : flat.Post). z.about)) (h.mail s r) ∙ i) in
      subst (Carries_as k (total spans)) (sym y.1)
      (y.2, whole_first p l t s r st.mail.posts y.0 h.whole y.1 ∙ (ap (λ j. length (l.exports j s r)) y.2 ∙ (ap length e.cells ∙ cells_total (l.cell_at r) spans)))

  pub nothing_open : (r x : ℕ) → ((j : ℕ) → is_shut (f.panes j r x) ≡ true) → pane_at st.frames.panes r x ≡ Shut
  nothing_open r x none = by_pane (pane_at st.frames.panes r x) refl
    where
      by_pane : (pane : Pane) → pane_at st.frames.panes r x ≡ pane → pane ≡ Shut
      by_pane Shut i = refl
      by_pane (Broken j) i = absurd (false≢true (ap is_shut (sym (cond-true (j == j) flat.Broken_pane flat.Shut_pane (eq-eqb j j refl)) ∙ (sym (ap (pane_in j) i) ∙ h.panes j r x)) ∙ none j))
      by_pane (Holds j ws) i = absurd (false≢true (ap is_shut (sym (cond-true (j == j) (flat.Windows ws) flat.Shut_pane (eq-eqb j j refl)) ∙ (sym (ap (pane_in j) i) ∙ h.panes j r x)) ∙ none j))

  pub stays_open : (k r x : ℕ) → is_shut (f.panes k r x) ≡ false → pane_in k (pane_at st.frames.panes r x) ≡ flat.Shut_pane → ⊥
  stays_open k r x o i = false≢true (sym o ∙ ap is_shut (sym (h.panes k r x) ∙ i))

  -- a group's places
  pub all_shut : (front : List Step) (r : ℕ) → ((j x : ℕ) → is_open front j r x ≡ false → is_shut (f.panes j r x) ≡ true) → (xs : List ℕ) → Closed r front xs → AllShut st.frames.panes r xs
  all_shut front r shut [] c = tt
  all_shut front r shut (x ∷ xs) c = (nothing_open r x (λ j. shut j x (c.0 j)), all_shut front r shut xs c.1)
