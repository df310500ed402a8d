-- The one fault that is kept decides as all that are recorded.
use Rattle.std.proofs.Common.{◌≡◌, ℕ, ◌<◌, ◌≤◌, true, cond, refl, sym, ap, ◌∙◌, arith, ⊎_elim, Option, Some, None, List, [], ◌∷◌, ◌++◌}
use Rattle.std.specs.Prelude.{◌&&◌, ◌==◌, nat_lt, is_some}
use Rattle.std.proofs.lemmas.Bool.{cases_lt, false_from_ne_true, or_cases, or_left, and_parts, cond-true, cond-false, cond_both, eqb-true, ltb-true, lt-ltb, le-ltb}
use Rattle.schedule_steps.specs.declared.step.Step.{Step}
use Rattle.schedule_steps.specs.declared.step.Step.TheVariants.{Send, Recv, Begin, End, Join}
use Rattle.schedule_model.specs.Effects.{Ran, Faulted, Finished}
use Rattle.schedule_model.specs.Program.{Kind, Free, Reduce, Ordered, Host, Hosted, Halts, Goes, elements}
use Rattle.schedule_model.specs.Setup.{Setup}
use Rattle.schedule_model.specs.Sequential.{Stop, Loop, Broke, Ran_through, loop}
use Rattle.schedule_model.specs.Machine.{Frame, Shut, Broken, Holds, Message, State, view, taken, opened, closed, is_less_element, is_less, lesser, least, gathered, looped, hosted, done, joined, step, start_state, steps_from, machine}
use Rattle.schedule_model.specs.Kept.{kept_of, if_before, OfElements}
use Rattle.schedule_model.proofs.LeastOfThree.{At, least_of_three}

-- the least of a list, from its end
best : {F : Type 0} → List (Stop F) → Option (Stop F)
best [] = None
best (x ∷ xs) = Some (lesser x (best xs))

AtSome : {F : Type 0} → Option (Stop F) → Type 0
AtSome None = Unit {0}
AtSome (Some x) = At x

at_of : {F : Type 0} (x : Stop F) → (e : ℕ) × (x.element ≡ Some e) → At x
at_of x h = record { element = h.0; is = h.1 }

lesser_at : {F : Type 0} (x : Stop F) (o : Option (Stop F)) → At x → AtSome o → At (lesser x o)
unfolding AtSome
lesser_at x None a h = a
lesser_at x (Some y) a h = cond_both (is_less y x) y x At (λ t. h) (λ t. a)

best_at : {F : Type 0} (xs : List (Stop F)) → OfElements xs → AtSome (best xs)
unfolding best AtSome
best_at [] h = tt
best_at (x ∷ xs) h = lesser_at x (best xs) (at_of x h.0) (best_at xs h.1)

later : {F : Type 0} (x y : Stop F) (o : Option (Stop F)) → At x → At y → AtSome o → lesser (cond (is_less x y) x y) o ≡ lesser y (Some (lesser x o))
unfolding AtSome
later x y None a b h = refl
later x y (Some w) a b h = least_of_three w x y h a b

kept_best : {F : Type 0} (xs : List (Stop F)) (y : Stop F) → At y → OfElements xs → kept_of (Some y) xs ≡ Some (lesser y (best xs))
unfolding best
kept_best [] y b h = refl
kept_best (x ∷ xs) y b h =
    kept_best xs (cond (is_less x y) x y) (cond_both (is_less x y) x y At (λ t. at_of x h.0) (λ t. b)) h.1
    ∙ ap Some (later x y (best xs) (at_of x h.0) b (best_at xs h.1))

kept_all : {F : Type 0} (xs : List (Stop F)) → OfElements xs → kept_of None xs ≡ best xs
unfolding best
kept_all [] h = refl
kept_all (x ∷ xs) h = kept_best xs x (at_of x h.0) h.1

less_item : {F : Type 0} (w x : Stop F) → is_less w x ≡ true → w.item ≤ x.item
less_item w x h = ⊎_elim
    (λ t. let l : w.item < x.item = ltb-true w.item x.item t in omega arith)
    (λ t. let e : w.item ≡ x.item = eqb-true w.item x.item (and_parts (w.item == x.item) (is_less_element w.element x.element) t).0 in omega arith)
    (or_cases (nat_lt w.item x.item) ((w.item == x.item) && is_less_element w.element x.element) h)

-- one more fault in front
least_more : {F : Type 0} (k : ℕ) (x : Stop F) (o : Option (Stop F)) → cond (nat_lt x.item k) (Some (lesser x (if_before k o))) (if_before k o) ≡ if_before k (Some (lesser x o))
least_more k x None = refl
least_more k x (Some w) = ⊎_elim
    (λ (a : x.item < k).
    cond-true (nat_lt x.item k) (Some (lesser x (if_before k (Some w)))) (if_before k (Some w)) (lt-ltb x.item k a)
    ∙ ⊎_elim
    (λ (b : w.item < k).
    ap (λ z. Some (lesser x z)) (cond-true (nat_lt w.item k) (Some w) None (lt-ltb w.item k b))
    ∙ sym (cond-true (nat_lt (lesser x (Some w)).item k) (Some (lesser x (Some w))) None (lt-ltb (lesser x (Some w)).item k (cond_both (is_less w x) w x (λ z. z.item < k) (λ t. b) (λ t. a)))))
    (λ (b : k ≤ w.item).
    ap (λ z. Some (lesser x z)) (cond-false (nat_lt w.item k) (Some w) None (le-ltb w.item k b))
    ∙ (sym (cond-true (nat_lt x.item k) (Some x) None (lt-ltb x.item k a))
    ∙ ap (λ z. if_before k (Some z)) (sym (cond-false (is_less w x) w x (false_from_ne_true (is_less w x) (λ t. let l : w.item ≤ x.item = less_item w x t in omega arith))))))
    (cases_lt w.item k))
    (λ (a : k ≤ x.item).
    cond-false (nat_lt x.item k) (Some (lesser x (if_before k (Some w)))) (if_before k (Some w)) (le-ltb x.item k a)
    ∙ ⊎_elim
    (λ (b : w.item < k).
    ap (λ z. if_before k (Some z)) (sym
    (cond-true (is_less w x) w x (or_left (nat_lt w.item x.item) ((w.item == x.item) && is_less_element w.element x.element)
    (lt-ltb w.item x.item (omega arith))))))
    (λ (b : k ≤ w.item).
    cond-false (nat_lt w.item k) (Some w) None (le-ltb w.item k b)
    ∙ sym (cond-false (nat_lt (lesser x (Some w)).item k) (Some (lesser x (Some w))) None (le-ltb (lesser x (Some w)).item k (cond_both (is_less w x) w x (λ z. k ≤ z.item) (λ t. b) (λ t. a)))))
    (cases_lt w.item k))
    (cases_lt x.item k)

least_best : {F : Type 0} (k : ℕ) (xs : List (Stop F)) → least k xs ≡ if_before k (best xs)
unfolding best
least_best k [] = refl
least_best k (x ∷ xs) = ap (λ z. cond (nat_lt x.item k) (Some (lesser x z)) z) (least_best k xs) ∙ least_more k x (best xs)

pub one_is_enough : {F : Type 0} (k : ℕ) (xs : List (Stop F)) → OfElements xs → least k xs ≡ if_before k (kept_of None xs)
one_is_enough k xs h = least_best k xs ∙ ap (if_before k) (sym (kept_all xs h))

-- ---- all faults that the machine records are of elements
of_push : {F : Type 0} (xs : List (Stop F)) (x : Stop F) → OfElements xs → (e : ℕ) × (x.element ≡ Some e) → OfElements (xs ++ (x ∷ []))
of_push [] x h g = (g, tt)
of_push (y ∷ xs) x h g = (h.0, of_push xs x h.1 g)

module _ {F : Type 0} (p : Setup F) where
  of_opened : (k r e : ℕ) (x : Ran F) (st : State F) → OfElements st.faults → OfElements (opened k r e x st).faults
  of_opened k r e (Faulted f) st h = of_push st.faults (record { item = k; element = Some e; fault = f }) h (e, refl)
  of_opened k r e (Finished t) st h = h

  of_taken : (r s : ℕ) (xs : List Message) (st : State F) → OfElements st.faults → OfElements (taken p r s xs st).faults
  of_taken r s [] st h = h
  of_taken r s (x ∷ xs) st h = h

  of_closed : (k r e : ℕ) (x : Frame) (st : State F) → OfElements st.faults → OfElements (closed p k r e x st).faults
  of_closed k r e Shut st h = h
  of_closed k r e Broken st h = h
  of_closed k r e (Holds t) st h = h

  of_looped : (k : ℕ) (x : Loop F) (st : State F) → OfElements st.faults → OfElements (looped p k x st).faults
  of_looped k (Broke e f t) st h = h
  of_looped k (Ran_through t) st h = h

  of_hosted : (k : ℕ) (x : Hosted F) (st : State F) → OfElements st.faults → OfElements (hosted k x st).faults
  of_hosted k (Halts f) st h = h
  of_hosted k (Goes v w) st h = h

  of_done : (k : ℕ) (x : Kind) (st : State F) → OfElements st.faults → OfElements (done p k x st).faults
  of_done k Free st h = h
  of_done k Reduce st h = h
  of_done k Ordered st h = of_looped k (loop p.program k (elements p.program k) (gathered p st)) st h
  of_done k Host st h = of_hosted k (p.program.host k (gathered p st)) st h

  of_joined : (k : ℕ) (x : Option (Stop F)) (st : State F) → OfElements st.faults → OfElements (joined p k x st).faults
  of_joined k (Some x) st h = h
  of_joined k None st h = of_done k (p.program.kind k) st h

  of_step : (s : Step) (st : State F) → OfElements st.faults → OfElements (step p s st).faults
  of_step (Send k s r) st h = h
  of_step (Recv k r s) st h = of_taken r s (st.mail s r) st h
  of_step (Begin k r e) st h = of_opened k r e (p.program.run k e (view p k r st)) st h
  of_step (End k r e) st h = of_closed k r e (st.frames k r e) st h
  of_step (Join k) st h = of_joined k (least k st.faults) st h

  of_steps : (l : List Step) (st : State F) → OfElements st.faults → OfElements (steps_from p l st).faults
  of_steps [] st h = h
  of_steps (s ∷ l) st h = cond_both (is_some st.stop) st (steps_from p l (step p s st)) (λ z. OfElements z.faults) (λ t. h) (λ t. of_steps l (step p s st) (of_step s st h))

  pub of_machine : (l : List Step) → OfElements (machine p l).faults
  of_machine l = of_steps l (start_state p) tt
