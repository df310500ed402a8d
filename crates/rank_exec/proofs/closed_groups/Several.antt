-- Closed groups one behind another, on any ranks.
use Rattle.std.proofs.Common.{◌≡◌, ℕ, sym, ap, subst, ◌∙◌, None, List, [], ◌∷◌, ◌++◌, append_assoc}
use Rattle.schedule_steps.specs.declared.step.Step.{Step}
use Rattle.schedule_steps.specs.declared.step.Step.TheVariants.{Begin, End}
use Rattle.step_orders.specs.Alone.{alone}
use Rattle.step_orders.specs.Left.{begins, ends}
use Rattle.schedule_model.specs.Setup.{Setup}
use Rattle.schedule_model.specs.Layout.{Layout}
use Rattle.schedule_model.specs.Flat.{Flat, flat_step, flat_from}
use Rattle.rank_exec.specs.Closed.{AreAlike, closed, GroupsAreAlone, RankGroup, all_closed, all_alone, SeveralAreAlone}
use Rattle.rank_exec.proofs.closed_groups.Alike.{alike_refl, alike_trans, begin_alike, end_alike}
use Rattle.rank_exec.proofs.closed_groups.Groups.{go, AllGo, from_go, all_go, begins_go, ends_go, alone_go, go_append}

module _ {F : Type 0} (p : Setup F) (l : Layout F) where
  alone_alike : (k r : ℕ) (xs : List ℕ) (f g : Flat F) → AreAlike f g → AreAlike (go p l (alone k r xs) f) (go p l (alone k r xs) g)
  alone_alike k r [] f g h = h
  alone_alike k r (x ∷ xs) f g h =
      alone_alike k r xs (flat_step p l (End k r x) (flat_step p l (Begin k r x) f)) (flat_step p l (End k r x) (flat_step p l (Begin k r x) g))
      (end_alike p l k r x (flat_step p l (Begin k r x) f) (flat_step p l (Begin k r x) g) (begin_alike p l k r x f g h))

  all_alike : (k : ℕ) (gs : List RankGroup) (f g : Flat F) → AreAlike f g → AreAlike (go p l (all_alone k gs) f) (go p l (all_alone k gs) g)
  all_alike k [] f g h = h
  all_alike k (x ∷ gs) f g h =
      let first : List Step = alone k x.rank x.places in
      subst (λ z. AreAlike z (go p l (first ++ all_alone k gs) g)) (sym (go_append p l first (all_alone k gs) f))
      (subst (λ z. AreAlike (go p l (all_alone k gs) (go p l first f)) z) (sym (go_append p l first (all_alone k gs) g))
      (all_alike k gs (go p l first f) (go p l first g) (alone_alike k x.rank x.places f g h)))

  closed_go : (k r : ℕ) (xs : List ℕ) → AllGo p l (closed k r xs)
  closed_go k r xs = all_go p l (begins k r xs) (ends k r xs) (begins_go p l k r xs) (ends_go p l k r xs)

  all_closed_go : (k : ℕ) (gs : List RankGroup) → AllGo p l (all_closed k gs)
  all_closed_go k [] = tt
  all_closed_go k (x ∷ gs) = all_go p l (closed k x.rank x.places) (all_closed k gs) (closed_go k x.rank x.places) (all_closed_go k gs)

  all_alone_go : (k : ℕ) (gs : List RankGroup) → AllGo p l (all_alone k gs)
  all_alone_go k [] = tt
  all_alone_go k (x ∷ gs) = all_go p l (alone k x.rank x.places) (all_alone k gs) (alone_go p l k x.rank x.places) (all_alone_go k gs)

  go_stops : (ss : List Step) → AllGo p l ss → (f : Flat F) → f.stop ≡ None → (go p l ss f).stop ≡ None
  go_stops [] h f e = e
  go_stops (s ∷ ss) h f e = go_stops ss h.1 (flat_step p l s f) (h.0 f ∙ e)

  by_groups : (steps : List Step) → GroupsAreAlone p l steps → (front : List Step) (k : ℕ) (gs : List RankGroup) (rest : List Step)
      → steps ≡ front ++ (all_closed k gs ++ rest) → (f : Flat F) → f.stop ≡ None
      → AreAlike (go p l (all_closed k gs) f) (go p l (all_alone k gs) f)
  by_groups steps law front k [] rest is f e = alike_refl f
  by_groups steps law front k (x ∷ gs) rest is f e =
      subst (λ z. AreAlike z (go p l (here ++ all_alone k gs) f)) (sym (go_append p l (closed k x.rank x.places) (all_closed k gs) f))
      (subst (λ z. AreAlike (go p l (all_closed k gs) (go p l (closed k x.rank x.places) f)) z) (sym (go_append p l here (all_alone k gs) f))
      (alike_trans (go p l (all_closed k gs) (go p l (closed k x.rank x.places) f)) (go p l (all_alone k gs) (go p l (closed k x.rank x.places) f)) (go p l (all_alone k gs) (go p l here f))
      (by_groups steps law (front ++ closed k x.rank x.places) k gs rest (there ∙ sym (append_assoc front (closed k x.rank x.places) (all_closed k gs ++ rest))) (go p l (closed k x.rank x.places) f)
      (go_stops (closed k x.rank x.places) (closed_go k x.rank x.places) f e))
      (all_alike k gs (go p l (closed k x.rank x.places) f) (go p l here f) one)))
    where
      here : List Step
      here = alone k x.rank x.places

      there : steps ≡ front ++ (closed k x.rank x.places ++ (all_closed k gs ++ rest))
      there = is ∙ ap (λ z. front ++ z) (append_assoc (closed k x.rank x.places) (all_closed k gs) rest)

      one : AreAlike (go p l (closed k x.rank x.places) f) (go p l here f)
      one =
          subst (λ z. AreAlike z (go p l here f)) (from_go p l (closed k x.rank x.places) (closed_go k x.rank x.places) f e)
          (subst (λ z. AreAlike (flat_from p l (closed k x.rank x.places) f) z) (from_go p l here (alone_go p l k x.rank x.places) f e)
          (law front k x.rank x.places (all_closed k gs ++ rest) there f e))

-- several groups
pub several : {F : Type 0} (p : Setup F) (l : Layout F) (steps : List Step) → GroupsAreAlone p l steps → SeveralAreAlone p l steps
several p l steps law front k gs rest is f e =
    subst (λ z. AreAlike z (flat_from p l (all_alone k gs) f)) (sym (from_go p l (all_closed k gs) (all_closed_go p l k gs) f e))
    (subst (λ z. AreAlike (go p l (all_closed k gs) f) z) (sym (from_go p l (all_alone k gs) (all_alone_go p l k gs) f e))
    (by_groups p l steps law front k gs rest is f e))
