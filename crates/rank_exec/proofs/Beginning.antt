-- Steps among which each element that begins can begin.
use Rattle.std.proofs.Common.{◌≡◌, ℕ, zero, suc, ◌<◌, arith, List, [], ◌∷◌, ◌++◌, length, get_or}
use Rattle.schedule_steps.specs.declared.step.Step.{Step}
use Rattle.schedule_steps.specs.declared.step.Step.TheVariants.{Send, Recv, Begin, End, Join}
use Rattle.schedule_steps.specs.Steps.{IsStep}
use Rattle.step_orders.specs.Alone.{alone}
use Rattle.schedule_model.specs.Setup.{Setup}
use Rattle.schedule_model.specs.Layout.{Layout, by_place}
use Rattle.rank_state.specs.Frames.{Panes, Shut, pane_at}
use Rattle.rank_exec.specs.Rounds.{CanBegin}

module _ {F : Type 0} (p : Setup F) (l : Layout F) (fs : Panes) where
  -- the element at the place can begin
  abbrev pub BeginsAt : ℕ → ℕ → ℕ → Type 0
  BeginsAt k r x = IsStep (by_place p l) (Begin k r x) × (pane_at fs.panes r x ≡ Shut) × (0 < fs.left)

  pub can_both : (ss ts : List Step) → CanBegin p l fs ss → CanBegin p l fs ts → CanBegin p l fs (ss ++ ts)
  can_both [] ts g h = h
  can_both (Send k a b ∷ ss) ts g h = can_both ss ts g h
  can_both (Recv k a b ∷ ss) ts g h = can_both ss ts g h
  can_both (Begin k r x ∷ ss) ts g h = (g.0, g.1, g.2, can_both ss ts g.3 h)
  can_both (End k r x ∷ ss) ts g h = can_both ss ts g h
  can_both (Join k ∷ ss) ts g h = can_both ss ts g h

  pub can_front : (ss ts : List Step) → CanBegin p l fs (ss ++ ts) → CanBegin p l fs ss
  can_front [] ts h = tt
  can_front (Send k a b ∷ ss) ts h = can_front ss ts h
  can_front (Recv k a b ∷ ss) ts h = can_front ss ts h
  can_front (Begin k r x ∷ ss) ts h = (h.0, h.1, h.2, can_front ss ts h.3)
  can_front (End k r x ∷ ss) ts h = can_front ss ts h
  can_front (Join k ∷ ss) ts h = can_front ss ts h

  pub can_back : (ss ts : List Step) → CanBegin p l fs (ss ++ ts) → CanBegin p l fs ts
  can_back [] ts h = h
  can_back (Send k a b ∷ ss) ts h = can_back ss ts h
  can_back (Recv k a b ∷ ss) ts h = can_back ss ts h
  can_back (Begin k r x ∷ ss) ts h = can_back ss ts h.3
  can_back (End k r x ∷ ss) ts h = can_back ss ts h
  can_back (Join k ∷ ss) ts h = can_back ss ts h

  -- elements one after another
  pub can_alone : (k r : ℕ) (xs : List ℕ) → ((i : ℕ) → i < length xs → BeginsAt k r (get_or xs i 0)) → CanBegin p l fs (alone k r xs)
  can_alone k r [] h = tt
  can_alone k r (x ∷ xs) h =
      let first = h 0 (omega arith) in
      (first.0, first.1, first.2, can_alone k r xs (λ i lt. h (suc i) (omega (arith, lt))))

  pub can_at : (k r : ℕ) (xs : List ℕ) → CanBegin p l fs (alone k r xs) → (i : ℕ) → i < length xs → BeginsAt k r (get_or xs i 0)
  can_at k r [] h i lt = absurd (omega (arith, lt))
  can_at k r (x ∷ xs) h zero lt = (h.0, h.1, h.2)
  can_at k r (x ∷ xs) h (suc i) lt = can_at k r xs h.3 i (omega (arith, lt))
