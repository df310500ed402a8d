-- A closed group is done once its elements were begun and ended one after another.
use Rattle.std.proofs.Common.{◌≡◌, ◌⊎◌, inl, inr, ℕ, suc, ◌+◌, ◌-◌, ◌<◌, ◌≤◌, refl, sym, ap, subst, ◌∙◌, arith, ⊎_elim, None, List, [], ◌∷◌, ◌++◌, length, append_assoc, append-nil}
use Rattle.std.specs.Prelude.{◌==◌}
use Rattle.std.proofs.lemmas.Bool.{eq-eqb, cond-true}
use Rattle.schedule_steps.specs.Outline.{Outline}
use Rattle.schedule_steps.specs.declared.step.Step.{Step}
use Rattle.schedule_steps.specs.declared.step.Step.TheVariants.{Begin, End}
use Rattle.schedule_steps.specs.Steps.{IsStep}
use Rattle.schedule_steps.specs.Peaks.{open_step, mail_step, count_after}
use Rattle.step_orders.specs.Alone.{alone}
use Rattle.step_orders.specs.Left as left
use Rattle.step_orders.specs.Left.{ends}
use Rattle.schedule_model.specs.Setup.{Setup}
use Rattle.schedule_model.specs.Kept.{kept_of, OfElements}
use Rattle.schedule_model.specs.Layout.{Layout, by_place, message_cells}
use Rattle.schedule_model.specs.Flat.{Flat, Shut_pane, flat_from}
use Rattle.schedule_model.specs.Flat as flat
use Rattle.rank_exec.specs.Closed.{AreAlike, closed, GroupsAreAlone}
use Rattle.rank_state.specs.Frames.{Pane, Shut, Broken, Holds, pane_at}
use Rattle.rank_state.specs.Groups.{begins, Planned, AllShut, Distinct}
use Rattle.rank_state.specs.Machine.{State}
use Rattle.rank_state.specs.Shows.{Tables, Shows, pane_in}
use Rattle.rank_exec.specs.Driving.{Done, ComeReady}
use Rattle.rank_exec.proofs.Driving.{count_append, done_none}

-- ---- counts

open_begins : (k r n : ℕ) (xs : List ℕ) → count_after open_step n (left.begins k r xs) ≡ n + length xs
open_begins k r n [] = omega arith
open_begins k r n (x ∷ xs) = let e = open_begins k r (suc n) xs in omega (arith, e)

open_ends : (k r n : ℕ) (xs : List ℕ) → count_after open_step (n + length xs) (ends k r xs) ≡ n
open_ends k r n [] = omega arith
open_ends k r n (x ∷ xs) =
    (let e : (n + suc (length xs)) - 1 ≡ n + length xs = omega arith in ap (λ m. count_after open_step m (ends k r xs)) e) ∙ open_ends k r n xs

pub open_closed : (k r n : ℕ) (xs : List ℕ) → count_after open_step n (closed k r xs) ≡ n
open_closed k r n xs =
    count_append open_step n (left.begins k r xs) (ends k r xs)
    ∙ (ap (λ m. count_after open_step m (ends k r xs)) (open_begins k r n xs) ∙ open_ends k r n xs)

pub open_alone : (k r n : ℕ) (xs : List ℕ) → count_after open_step n (alone k r xs) ≡ n
open_alone k r n [] = refl
open_alone k r n (x ∷ xs) =
    (let e : suc n - 1 ≡ n = omega arith in ap (λ m. count_after open_step m (alone k r xs)) e) ∙ open_alone k r n xs

mail_begins : (cells : ℕ → ℕ → ℕ → ℕ) (k r n : ℕ) (xs : List ℕ) → count_after (mail_step cells) n (left.begins k r xs) ≡ n
mail_begins cells k r n [] = refl
mail_begins cells k r n (x ∷ xs) = mail_begins cells k r n xs

mail_ends : (cells : ℕ → ℕ → ℕ → ℕ) (k r n : ℕ) (xs : List ℕ) → count_after (mail_step cells) n (ends k r xs) ≡ n
mail_ends cells k r n [] = refl
mail_ends cells k r n (x ∷ xs) = mail_ends cells k r n xs

pub mail_closed : (cells : ℕ → ℕ → ℕ → ℕ) (k r n : ℕ) (xs : List ℕ) → count_after (mail_step cells) n (closed k r xs) ≡ n
mail_closed cells k r n xs =
    count_append (mail_step cells) n (left.begins k r xs) (ends k r xs)
    ∙ (ap (λ m. count_after (mail_step cells) m (ends k r xs)) (mail_begins cells k r n xs) ∙ mail_ends cells k r n xs)

pub mail_alone : (cells : ℕ → ℕ → ℕ → ℕ) (k r n : ℕ) (xs : List ℕ) → count_after (mail_step cells) n (alone k r xs) ≡ n
mail_alone cells k r n [] = refl
mail_alone cells k r n (x ∷ xs) = mail_alone cells k r n xs

-- ---- the law at parts of a list

module _ {F : Type 0} (p : Setup F) (l : Layout F) where
  pub groups_after : (steps front some : List Step) → GroupsAreAlone p l steps → steps ≡ front ++ some → GroupsAreAlone p l some
  groups_after steps front some h e a k r xs b is f stop =
      h (front ++ a) k r xs b (e ∙ (ap (λ z. front ++ z) is ∙ sym (append_assoc front a (closed k r xs ++ b)))) f stop

  pub groups_front : (steps some rest : List Step) → GroupsAreAlone p l steps → steps ≡ some ++ rest → GroupsAreAlone p l some
  groups_front steps some rest h e a k r xs b is f stop =
      h a k r xs (b ++ rest)
      (e ∙ (ap (λ z. z ++ rest) is ∙ (append_assoc a (closed k r xs ++ b) rest ∙ ap (λ z. a ++ z) (append_assoc (closed k r xs) b rest)))) f stop

-- ---- what is done

pub begins_same : (k r : ℕ) (xs : List ℕ) → begins k r xs ≡ left.begins k r xs
begins_same k r [] = refl
begins_same k r (x ∷ xs) = ap (λ z. Begin k r x ∷ z) (begins_same k r xs)

-- a begin among elements that begin and end one after another
abbrev IsOne : ℕ → ℕ → List ℕ → List Step → ℕ → ℕ → List ℕ → Type 0
IsOne k r xs done j s places =
    (x : ℕ) × (before : List ℕ) × (behind : List ℕ) × (xs ≡ before ++ (x ∷ behind)) × (done ≡ alone k r before) × (j ≡ k) × (s ≡ r) × (places ≡ x ∷ [])

one_of : (k r : ℕ) (xs : List ℕ) (done : List Step) (j s : ℕ) (places : List ℕ) (rest : List Step) → alone k r xs ≡ done ++ (begins j s places ++ rest)
    → (places ≡ []) ⊎ IsOne k r xs done j s places
one_of k r xs done j s [] rest e = inl refl
one_of k r [] [] j s (y ∷ ys) rest e = cc
one_of k r [] (d ∷ done) j s (y ∷ ys) rest e = cc
one_of k r (x ∷ xs) [] j s (y ∷ []) rest e =
    let a : k ≡ j = cc in
    let b : r ≡ s = cc in
    let c : x ≡ y = cc in
    inr (x, [], xs, refl, refl, sym a, sym b, ap (λ z. z ∷ []) (sym c))
one_of k r (x ∷ xs) [] j s (y ∷ z ∷ ys) rest e = cc
one_of k r (x ∷ xs) (d ∷ []) j s (y ∷ ys) rest e = cc
one_of k r (x ∷ xs) (d ∷ g ∷ done) j s (y ∷ ys) rest e =
    let a : Begin k r x ≡ d = cc in
    let b : End k r x ≡ g = cc in
    let c : alone k r xs ≡ done ++ (begins j s (y ∷ ys) ++ rest) = cc in
    ⊎_elim
    (λ i. inl i)
    (λ (i : IsOne k r xs done j s (y ∷ ys)).
    inr (i.0, x ∷ i.1, i.2, ap (λ z. x ∷ z) i.3, ap (λ z. z ∷ g ∷ done) (sym a) ∙ (ap (λ z. Begin k r x ∷ z ∷ done) (sym b) ∙ ap (λ z. Begin k r x ∷ End k r x ∷ z) i.4), i.5, i.6, i.7))
    (one_of k r xs done j s (y ∷ ys) rest c)

planned_at : (o : Outline) (k r : ℕ) (a : List ℕ) (x : ℕ) (b : List ℕ) → Planned o k r (a ++ (x ∷ b)) → IsStep o (Begin k r x)
planned_at o k r [] x b h = h.0
planned_at o k r (y ∷ a) x b h = planned_at o k r a x b h.1

shut_at : (ps : List (List Pane)) (r : ℕ) (a : List ℕ) (x : ℕ) (b : List ℕ) → AllShut ps r (a ++ (x ∷ b)) → pane_at ps r x ≡ Shut
shut_at ps r [] x b h = h.0
shut_at ps r (y ∷ a) x b h = shut_at ps r a x b h.1

some_at : (a : List ℕ) (x : ℕ) (b : List ℕ) → 0 < length (a ++ (x ∷ b))
some_at [] x b = omega arith
some_at (y ∷ a) x b = omega arith

no_pane : (pane : Pane) → ((j : ℕ) → pane_in j pane ≡ Shut_pane) → pane ≡ Shut
no_pane Shut h = refl
no_pane (Broken j) h = absurd (differ (sym (cond-true (j == j) flat.Broken_pane Shut_pane (eq-eqb j j refl)) ∙ h j))
  where
    differ : flat.Broken_pane ≡ Shut_pane → ⊥
    differ e = cc
no_pane (Holds j ws) h = absurd (differ (sym (cond-true (j == j) (flat.Windows ws) Shut_pane (eq-eqb j j refl)) ∙ h j))
  where
    differ : flat.Windows ws ≡ Shut_pane → ⊥
    differ e = cc

module _ {F : Type 0} (p : Setup F) (l : Layout F) (t : Tables) where
  pub shows_alike : (st : State F) (f g : Flat F) → Shows p l t st f → AreAlike g f → Shows p l t st g
  shows_alike st f g h a = record {
    sized = h.sized;
    memories = h.memories ∙ sym a.memories;
    variables = h.variables ∙ sym a.variables;
    partials = λ r i lr li. h.partials r i lr li ∙ sym (a.partials r (t.site_at i) (t.reduced_at i));
    mail = λ s r. h.mail s r ∙ sym (a.mail s r);
    whole = h.whole;
    panes = λ k r x. h.panes k r x ∙ sym (a.panes k r x);
    held = h.held;
    elements = subst OfElements (sym a.faults) h.elements;
    fault = h.fault ∙ ap (kept_of None) (sym a.faults);
    output = h.output ∙ sym a.output;
    stop = a.stop ∙ h.stop;
  }

  -- the group is done by its elements
  pub closed_done : (k r : ℕ) (xs : List ℕ) (old new : State F) → GroupsAreAlone p l (closed k r xs) → Done p l t (alone k r xs) old new → Done p l t (closed k r xs) old new
  closed_done k r xs old new law d = record {
    shows = λ f h. shows_alike new (flat_from p l (alone k r xs) f) (flat_from p l (closed k r xs) f) (d.shows f h)
        (law [] k r xs [] (sym (append-nil (closed k r xs))) f h.stop);
    mail = λ n. ap (λ m. new.mail.left + m) (mail_closed (message_cells l) k r n xs ∙ sym (mail_alone (message_cells l) k r n xs)) ∙ d.mail n;
    frames = λ n. ap (λ m. new.frames.left + m) (open_closed k r n xs ∙ sym (open_alone k r n xs)) ∙ d.frames n;
  }

  -- places that have no frame have none after elements one after another
  abbrev pub StayShut : Type 0
  StayShut =
      (k r : ℕ) (xs : List ℕ) (f : Flat F) → f.stop ≡ None → (j x : ℕ) → f.panes j r x ≡ Shut_pane → (flat_from p l (alone k r xs) f).panes j r x ≡ Shut_pane

  -- so each of them can begin once those before it have ended
  pub closed_ready : StayShut → (k r : ℕ) (xs : List ℕ) (old : State F) (f : Flat F) → Shows p l t old f
      → ComeReady p l t (closed k r xs) old → ComeReady p l t (alone k r xs) old
  closed_ready stay k r xs old f h ready done j s places rest e at d =
      ⊎_elim
      (λ (i : places ≡ []).
      subst (λ z. Planned (by_place p l) j s z × AllShut at.frames.panes s z × Distinct z × (length z ≤ at.frames.left)) (sym i) (tt, tt, tt, omega arith))
      (λ (i : IsOne k r xs done j s places).
      subst (λ z. Planned (by_place p l) z s places × AllShut at.frames.panes s places × Distinct places × (length places ≤ at.frames.left)) (sym i.5)
      (subst (λ z. Planned (by_place p l) k z places × AllShut at.frames.panes z places × Distinct places × (length places ≤ at.frames.left)) (sym i.6)
      (subst (λ z. Planned (by_place p l) k r z × AllShut at.frames.panes r z × Distinct z × (length z ≤ at.frames.left)) (sym i.7)
      (one i.0 i.1 i.2 i.3 (subst (λ z. Done p l t z old at) i.4 d)))))
      (one_of k r xs done j s places rest e)
    where
      all : Planned (by_place p l) k r xs × AllShut old.frames.panes r xs × Distinct xs × (length xs ≤ old.frames.left)
      all = ready [] k r xs (ends k r xs) (ap (λ z. z ++ ends k r xs) (sym (begins_same k r xs))) old (done_none p l t old)

      one : (x : ℕ) (a b : List ℕ) → xs ≡ a ++ (x ∷ b) → Done p l t (alone k r a) old at
          → Planned (by_place p l) k r (x ∷ []) × AllShut at.frames.panes r (x ∷ []) × Distinct (x ∷ []) × (1 ≤ at.frames.left)
      one x a b is before =
          let shut : pane_at old.frames.panes r x ≡ Shut = shut_at old.frames.panes r a x b (subst (AllShut old.frames.panes r) is all.1) in
          let first : (i : ℕ) → f.panes i r x ≡ Shut_pane = λ i. sym (h.panes i r x) ∙ ap (pane_in i) shut in
          let then : Shows p l t at (flat_from p l (alone k r a) f) = before.shows f h in
          let none : pane_at at.frames.panes r x ≡ Shut = no_pane (pane_at at.frames.panes r x) (λ i. then.panes i r x ∙ stay k r a f h.stop i x (first i)) in
          let some = some_at a x b in
          let same = ap (λ (z : List ℕ). length z) is in
          let frames = before.frames 0 in
          let count = open_alone k r 0 a in
          let room = all.3 in
          ((planned_at (by_place p l) k r a x b (subst (Planned (by_place p l) k r) is all.0), tt), (none, tt), (refl, tt), omega (arith, some, same, frames, count, room))
