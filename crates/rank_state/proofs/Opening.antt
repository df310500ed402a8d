-- What a begin does to the panes of the flat machine.
use Rattle.std.proofs.Common.{◌≡◌, ℕ, sym, ap, ◌∙◌, map}
use Rattle.std.proofs.lemmas.Bool.{false≢true, false_from_ne_true, cond-true, cond-false}
use Rattle.schedule_steps.specs.declared.step.Step.TheVariants.{Begin}
use Rattle.schedule_steps.specs.Steps.{same3}
use Rattle.schedule_steps.specs.Members.{same3_refl, same3_true}
use Rattle.schedule_model.specs.Setup.{Setup}
use Rattle.schedule_model.specs.Layout.{Layout, Core, Faults, Leaves}
use Rattle.schedule_model.specs.Flat.{Shut_pane, Broken_pane, Windows, Flat, variable, window, open_pane, flat_step}
use Rattle.schedule_model.specs.Followed.{is_shut}
use Rattle.rank_state.specs.Frames.{Shut, pane_at}
use Rattle.rank_state.specs.Machine.{State}
use Rattle.rank_state.specs.Shows.{Tables, Shows, pane_in}
use Rattle.rank_state.proofs.Ready.{nothing_open}

module _ {F : Type 0} (p : Setup F) (l : Layout F) where
  opens : (k r x : ℕ) (c : Core F) (f : Flat F) → (open_pane p l k r x c f).panes k r x ≡ Shut_pane → ⊥
  opens k r x (Faults n) f e = false≢true (ap is_shut (sym (cond-true (same3 k r x k r x) Broken_pane (f.panes k r x) (same3_refl k r x)) ∙ e))
  opens k r x (Leaves ws) f e = false≢true (ap is_shut (sym (cond-true (same3 k r x k r x) (Windows ws) (f.panes k r x) (same3_refl k r x)) ∙ e))

  -- a begin opens its pane
  pub begin_opens : (k r x : ℕ) (f : Flat F) → (flat_step p l (Begin k r x) f).panes k r x ≡ Shut_pane → ⊥
  begin_opens k r x f = opens k r x (l.core k (l.original k r x) (map (variable p l f) l.constants) (map (window p l f k r) (l.cells k (l.original k r x)))) f

  leaves : (k r x j y : ℕ) (c : Core F) (f : Flat F) → (y ≡ x → ⊥) → (open_pane p l k r x c f).panes j r y ≡ f.panes j r y
  leaves k r x j y (Faults n) f ne = cond-false (same3 j r y k r x) Broken_pane (f.panes j r y) (false_from_ne_true (same3 j r y k r x) (λ e. ne (same3_true j r y k r x e).2))
  leaves k r x j y (Leaves ws) f ne = cond-false (same3 j r y k r x) (Windows ws) (f.panes j r y) (false_from_ne_true (same3 j r y k r x) (λ e. ne (same3_true j r y k r x e).2))

  -- and leaves the others of its rank shut
  pub others_shut : (t : Tables) (old new : State F) (f : Flat F) (k r x y : ℕ) → Shows p l t old f → Shows p l t new (flat_step p l (Begin k r x) f)
      → (y ≡ x → ⊥) → pane_at old.frames.panes r y ≡ Shut → pane_at new.frames.panes r y ≡ Shut
  others_shut t old new f k r x y h g ne shut =
      nothing_open p l t new (flat_step p l (Begin k r x) f) g r y
      (λ j. ap is_shut (leaves k r x j y
      (l.core k (l.original k r x) (map (variable p l f) l.constants) (map (window p l f k r) (l.cells k (l.original k r x)))) f ne
      ∙ (sym (h.panes j r y) ∙ ap (pane_in j) shut)))
