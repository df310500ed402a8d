-- A closed group leaves what its elements leave one after another.
use Rattle.std.proofs.Common.{◌≡◌, ℕ, Bool, true, false, cond, refl, sym, ap, subst, ◌∙◌, None, List, [], ◌∷◌, ◌++◌}
use Rattle.std.specs.Prelude.{is_some}
use Rattle.std.proofs.lemmas.Bool.{cond-false}
use Rattle.schedule_steps.specs.declared.step.Step.{Step}
use Rattle.schedule_steps.specs.declared.step.Step.TheVariants.{Begin, End}
use Rattle.schedule_steps.specs.Steps.{same3, Accepted}
use Rattle.step_orders.specs.Alone.{alone}
use Rattle.step_orders.specs.Left.{begins, ends}
use Rattle.schedule_model.specs.Setup.{Setup}
use Rattle.schedule_model.specs.Laws.{Coloured}
use Rattle.schedule_model.specs.Machine.{put3}
use Rattle.schedule_model.specs.Layout.{Core, Faults, Leaves, Layout, IsLayout, by_place}
use Rattle.schedule_model.specs.Flat.{Pane, Shut_pane, Broken_pane, Windows, Flat, open_pane, close_pane, flat_step, flat_from}
use Rattle.rank_exec.specs.Closed.{AreAlike, closed, GroupsAreAlone}
use Rattle.rank_exec.proofs.closed_groups.Alike.{alike_refl, alike_trans, core_at, begin_alike, end_alike}
use Rattle.rank_exec.proofs.closed_groups.Apart.{IsApart, AreApart, are_apart}
use Rattle.rank_exec.proofs.closed_groups.Swaps.{end_first}

module _ {F : Type 0} (p : Setup F) (l : Layout F) where
  -- steps none of which stops
  abbrev pub go : List Step → Flat F → Flat F
  go [] f = f
  go (s ∷ ss) f = go ss (flat_step p l s f)

  abbrev pub Goes : Step → Type 0
  Goes s = (f : Flat F) → (flat_step p l s f).stop ≡ f.stop

  abbrev pub AllGo : List Step → Type 0
  AllGo [] = Unit {0}
  AllGo (s ∷ ss) = Goes s × AllGo ss

  pub from_go : (ss : List Step) → AllGo ss → (f : Flat F) → f.stop ≡ None → flat_from p l ss f ≡ go ss f
  from_go [] h f e = refl
  from_go (s ∷ ss) h f e =
      cond-false (is_some f.stop) f (flat_from p l ss (flat_step p l s f)) (ap is_some e)
      ∙ from_go ss h.1 (flat_step p l s f) (h.0 f ∙ e)

  opened_goes : (k r x : ℕ) (c : Core F) (f : Flat F) → (open_pane p l k r x c f).stop ≡ f.stop
  opened_goes k r x (Faults n) f = refl
  opened_goes k r x (Leaves ws) f = refl

  begin_goes : (k r x : ℕ) → Goes (Begin k r x)
  begin_goes k r x f = opened_goes k r x (core_at p l k r x f) f

  closed_goes : (k r x e : ℕ) (b : Pane) (f : Flat F) → (close_pane p l k r x e b f).stop ≡ f.stop
  closed_goes k r x e Shut_pane f = refl
  closed_goes k r x e Broken_pane f = refl
  closed_goes k r x e (Windows ws) f = refl

  end_goes : (k r x : ℕ) → Goes (End k r x)
  end_goes k r x f = closed_goes k r x (l.original k r x) (f.panes k r x) f

  pub all_go : (ss ts : List Step) → AllGo ss → AllGo ts → AllGo (ss ++ ts)
  all_go [] ts g h = h
  all_go (s ∷ ss) ts g h = (g.0, all_go ss ts g.1 h)

  pub begins_go : (k r : ℕ) (xs : List ℕ) → AllGo (begins k r xs)
  begins_go k r [] = tt
  begins_go k r (x ∷ xs) = (begin_goes k r x, begins_go k r xs)

  pub ends_go : (k r : ℕ) (xs : List ℕ) → AllGo (ends k r xs)
  ends_go k r [] = tt
  ends_go k r (x ∷ xs) = (end_goes k r x, ends_go k r xs)

  pub alone_go : (k r : ℕ) (xs : List ℕ) → AllGo (alone k r xs)
  alone_go k r [] = tt
  alone_go k r (x ∷ xs) = (begin_goes k r x, (end_goes k r x, alone_go k r xs))

  pub go_append : (ss ts : List Step) (f : Flat F) → go (ss ++ ts) f ≡ go ts (go ss f)
  go_append [] ts f = refl
  go_append (s ∷ ss) ts f = go_append ss ts (flat_step p l s f)

  begins_alike : (k r : ℕ) (xs : List ℕ) (f g : Flat F) → AreAlike f g → AreAlike (go (begins k r xs) f) (go (begins k r xs) g)
  begins_alike k r [] f g h = h
  begins_alike k r (x ∷ xs) f g h = begins_alike k r xs (flat_step p l (Begin k r x) f) (flat_step p l (Begin k r x) g) (begin_alike p l k r x f g h)

  ends_alike : (k r : ℕ) (xs : List ℕ) (f g : Flat F) → AreAlike f g → AreAlike (go (ends k r xs) f) (go (ends k r xs) g)
  ends_alike k r [] f g h = h
  ends_alike k r (x ∷ xs) f g h = ends_alike k r xs (flat_step p l (End k r x) f) (flat_step p l (End k r x) g) (end_alike p l k r x f g h)

  module _ (q : IsLayout p l) (k r : ℕ) where
    -- an end before the begins of others
    ends_first : (x : ℕ) (ys : List ℕ) → IsApart p l k r x ys → AreApart p l k r ys → (f : Flat F)
        → AreAlike (flat_step p l (End k r x) (go (begins k r ys) f)) (go (begins k r ys) (flat_step p l (End k r x) f))
    ends_first x [] h g f = alike_refl (flat_step p l (End k r x) f)
    ends_first x (y ∷ ys) h g f =
        let b : Flat F = flat_step p l (Begin k r y) f in
        alike_trans (flat_step p l (End k r x) (go (begins k r ys) b)) (go (begins k r ys) (flat_step p l (End k r x) b))
        (go (begins k r ys) (flat_step p l (Begin k r y) (flat_step p l (End k r x) f)))
        (ends_first x ys h.2 g.2 b)
        (begins_alike k r ys (flat_step p l (End k r x) b) (flat_step p l (Begin k r y) (flat_step p l (End k r x) f)) (end_first p l q k r x y h.0 h.1 g.0 f))

    -- the ends behind all begins
    one_by_one : (xs : List ℕ) → AreApart p l k r xs → (f : Flat F) → AreAlike (go (ends k r xs) (go (begins k r xs) f)) (go (alone k r xs) f)
    one_by_one [] h f = alike_refl f
    one_by_one (x ∷ xs) h f =
        let b : Flat F = flat_step p l (Begin k r x) f in
        alike_trans (go (ends k r xs) (flat_step p l (End k r x) (go (begins k r xs) b)))
        (go (ends k r xs) (go (begins k r xs) (flat_step p l (End k r x) b))) (go (alone k r xs) (flat_step p l (End k r x) b))
        (ends_alike k r xs (flat_step p l (End k r x) (go (begins k r xs) b)) (go (begins k r xs) (flat_step p l (End k r x) b)) (ends_first x xs h.1 h.2 b))
        (one_by_one xs h.2 (flat_step p l (End k r x) b))

    group_alone : (xs : List ℕ) → AreApart p l k r xs → (f : Flat F) → f.stop ≡ None → AreAlike (flat_from p l (closed k r xs) f) (flat_from p l (alone k r xs) f)
    group_alone xs h f e =
        subst (λ z. AreAlike z (flat_from p l (alone k r xs) f))
        (sym (from_go (closed k r xs) (all_go (begins k r xs) (ends k r xs) (begins_go k r xs) (ends_go k r xs)) f e ∙ go_append (begins k r xs) (ends k r xs) f))
        (subst (λ z. AreAlike (go (ends k r xs) (go (begins k r xs) f)) z) (sym (from_go (alone k r xs) (alone_go k r xs) f e)) (one_by_one xs h f))

-- in an accepted list
pub groups_alone : {F : Type 0} (p : Setup F) → Coloured p → (l : Layout F) → IsLayout p l → (steps : List Step) → Accepted (by_place p l) steps → GroupsAreAlone p l steps
groups_alone p col l q steps acc front k r xs rest is f e = group_alone p l q k r xs (are_apart p col l q steps front rest k r xs acc is [] xs refl) f e

module _ {F : Type 0} (p : Setup F) (l : Layout F) (k r : ℕ) where
  opened_pane : (x : ℕ) (c : Core F) (f : Flat F) (a b d : ℕ) → same3 a b d k r x ≡ false → (open_pane p l k r x c f).panes a b d ≡ f.panes a b d
  opened_pane x (Faults n) f a b d e = ap (λ z. cond z Broken_pane (f.panes a b d)) e
  opened_pane x (Leaves ws) f a b d e = ap (λ z. cond z (Windows ws) (f.panes a b d)) e

  closed_pane : (x e : ℕ) (u : Pane) (f : Flat F) (a b d : ℕ) → (close_pane p l k r x e u f).panes a b d ≡ put3 k r x Shut_pane f.panes a b d
  closed_pane x e Shut_pane f a b d = refl
  closed_pane x e Broken_pane f a b d = refl
  closed_pane x e (Windows ws) f a b d = refl

  -- after one element
  shut_by_one : (x : ℕ) (f : Flat F) (a b d : ℕ) → f.panes a b d ≡ Shut_pane → (flat_step p l (End k r x) (flat_step p l (Begin k r x) f)).panes a b d ≡ Shut_pane
  shut_by_one x f a b d shut =
      closed_pane x (l.original k r x) ((flat_step p l (Begin k r x) f).panes k r x) (flat_step p l (Begin k r x) f) a b d
      ∙ by (same3 a b d k r x) refl
    where
      by : (z : Bool) → same3 a b d k r x ≡ z → cond z Shut_pane ((flat_step p l (Begin k r x) f).panes a b d) ≡ Shut_pane
      by true e = refl
      by false e = opened_pane x (core_at p l k r x f) f a b d e ∙ shut

  shut_by_all : (xs : List ℕ) (f : Flat F) (a b d : ℕ) → f.panes a b d ≡ Shut_pane → (go p l (alone k r xs) f).panes a b d ≡ Shut_pane
  shut_by_all [] f a b d shut = shut
  shut_by_all (x ∷ xs) f a b d shut = shut_by_all xs (flat_step p l (End k r x) (flat_step p l (Begin k r x) f)) a b d (shut_by_one x f a b d shut)

-- a place that has no frame
pub stay_shut : {F : Type 0} (p : Setup F) (l : Layout F) (k r : ℕ) (xs : List ℕ) (f : Flat F) → f.stop ≡ None → (j x : ℕ) → f.panes j r x ≡ Shut_pane
    → (flat_from p l (alone k r xs) f).panes j r x ≡ Shut_pane
stay_shut p l k r xs f e j x shut =
    subst (λ (g : Flat _). g.panes j r x ≡ Shut_pane) (sym (from_go p l (alone k r xs) (alone_go p l k r xs) f e)) (shut_by_all p l k r xs f j r x shut)
