-- A list of steps, at one of its steps.
use Rattle.std.proofs.Common.{◌≡◌, ℕ, suc, ◌+◌, ◌-◌, ◌≤◌, true, false, refl, sym, ap, ⊎_elim, map, ◌∙◌, arith, Option, Some, None, List, [], ◌∷◌, ◌++◌, append_assoc, append-nil, length, subst}
use Rattle.std.specs.Prelude.{is_some}
use Rattle.std.proofs.lemmas.Bool.{cases_Bool, false≢true, cond-true, cond-false}
use Rattle.schedule_steps.specs.declared.step.Step.{Step}
use Rattle.schedule_steps.specs.declared.step.Step.TheVariants.{Send, Recv, Begin, End, Join}
use Rattle.schedule_steps.specs.Peaks.{open_step, mail_step, count_after, greatest}
use Rattle.schedule_model.specs.Setup.{Setup}
use Rattle.schedule_model.specs.Sequential as model
use Rattle.schedule_model.specs.Layout.{Layout, Core, Faults, Leaves, by_place, message_cells}
use Rattle.schedule_model.specs.Flat.{Flat, variable, window, open_pane, flat_step, flat_from, StartsFlat, AgreesFlat}
use Rattle.schedule_model.specs.Sequential.{Seq, Going, Stopped}
use Rattle.rank_state.specs.Machine.{State}
use Rattle.rank_state.specs.Shows.{Tables, Shows}
use Rattle.rank_state.specs.Groups.{begins, Planned, AllShut, Distinct}
use Rattle.rank_exec.specs.Driving.{Done, ComeReady, Reached, to_come, After, AsSequential, posts, takes, opens, shuts}

pub count_push : (g : Step → ℕ → ℕ) (n : ℕ) (l : List Step) (s : Step) → count_after g n (l ++ (s ∷ [])) ≡ g s (count_after g n l)
count_push g n [] s = refl
count_push g n (x ∷ l) s = count_push g (g x n) l s

pub count_append : (g : Step → ℕ → ℕ) (n : ℕ) (l m : List Step) → count_after g n (l ++ m) ≡ count_after g (count_after g n l) m
count_append g n [] m = refl
count_append g n (x ∷ l) m = count_append g (g x n) l m

-- no count is above the greatest
pub count_below : (g : Step → ℕ → ℕ) (n : ℕ) (l m : List Step) → count_after g n l ≤ greatest g n (l ++ m)
count_below g n [] [] = omega arith
count_below g n [] (x ∷ m) = omega arith
count_below g n (x ∷ l) m = let h = count_below g (g x n) l m in omega (arith, h)

-- the open elements, with those that are shut
pub open_balance : (s : Step) (n : ℕ) → shuts s ≤ n → open_step s n + shuts s ≡ n + opens s
open_balance (Send k a b) n h = refl
open_balance (Recv k a b) n h = refl
open_balance (Begin k a b) n h = omega arith
open_balance (End k a b) n h = omega (arith, h)
open_balance (Join k) n h = refl

-- the cells under way, with those that are taken
pub mail_balance : {F : Type 0} (l : Layout F) (s : Step) (n : ℕ) → takes l s ≤ n → mail_step (message_cells l) s n + takes l s ≡ n + posts
    l s
mail_balance l (Send k a b) n h = omega arith
mail_balance l (Recv k a b) n h = omega (arith, h)
mail_balance l (Begin k a b) n h = refl
mail_balance l (End k a b) n h = refl
mail_balance l (Join k) n h = refl

module _ {F : Type 0} (p : Setup F) (l : Layout F) where
  stopped : (left : List Step) (f : Flat F) (x : model.Stop F) → f.stop ≡ Some x → flat_from p l left f ≡ f
  stopped [] f x e = refl
  stopped (s ∷ left) f x e = cond-true (is_some f.stop) f (flat_from p l left (flat_step p l s f)) (ap is_some e)

  stopped_there : (b : Option (model.Stop F)) (left : List Step) (f : Flat F) → f.stop ≡ b → is_some b ≡ true → f ≡ flat_from p l left f
  stopped_there None left f e h = absurd (false≢true h)
  stopped_there (Some x) left f e h = sym (stopped left f x e)

  -- one part of a list after another
  pub from_append : (front left : List Step) (f : Flat F) → flat_from p l (front ++ left) f ≡ flat_from p l left (flat_from p l front f)
  from_append [] left f = refl
  from_append (s ∷ front) left f = ⊎_elim
      (λ (y : is_some f.stop ≡ true).
      cond-true (is_some f.stop) f (flat_from p l (front ++ left) (flat_step p l s f)) y
      ∙ (stopped_there f.stop left f refl y ∙ ap (flat_from p l left)
      (sym (cond-true (is_some f.stop) f (flat_from p l front (flat_step p l s f)) y))))
      (λ (y : is_some f.stop ≡ false).
      cond-false (is_some f.stop) f (flat_from p l (front ++ left) (flat_step p l s f)) y
      ∙ (from_append front left (flat_step p l s f) ∙ ap (flat_from p l left)
      (sym (cond-false (is_some f.stop) f (flat_from p l front (flat_step p l s f)) y))))
      (cases_Bool (is_some f.stop))

  -- one step more
  pub from_push : (front : List Step) (s : Step) (f : Flat F) → (flat_from p l front f).stop ≡ None → flat_from p l (front ++ (s ∷ [])) f ≡
      flat_step p l s (flat_from p l front f)
  from_push front s f none = from_append front (s ∷ []) f ∙ cond-false (is_some (flat_from p l front f).stop) (flat_from p l front f)
      (flat_step p l s (flat_from p l front f)) (ap is_some none)

  -- a step that stops is the last
  at_stop : (steps front left : List Step) (s : Step) (f : Flat F) → steps ≡ front ++ (s ∷ left) → (flat_from p l front f).stop ≡ None →
      (x : model.Stop F) → (flat_step p l s (flat_from p l front f)).stop ≡ Some x
      → flat_from p l steps f ≡ flat_step p l s (flat_from p l front f)
  at_stop steps front left s f e none x stop =
      ap (λ z. flat_from p l z f) e
      ∙ (from_append front (s ∷ left) f
      ∙ (cond-false (is_some (flat_from p l front f).stop) (flat_from p l front f)
      (flat_from p l left (flat_step p l s (flat_from p l front f))) (ap is_some none) ∙ stopped left
      (flat_step p l s (flat_from p l front f)) x stop))

  goes_opened : (k r x : ℕ) (c : Core F) (f : Flat F) → (open_pane p l k r x c f).stop ≡ f.stop
  goes_opened k r x (Faults n) f = refl
  goes_opened k r x (Leaves ws) f = refl

  -- no begin stops
  pub begin_goes : (k r x : ℕ) (f : Flat F) → (flat_step p l (Begin k r x) f).stop ≡ f.stop
  begin_goes k r x f = goes_opened k r x
      (l.core k (l.original k r x) (map (variable p l f) l.constants) (map (window p l f k r) (l.cells k (l.original k r x)))) f

  -- a begin and its end
  pub from_pair : (k r x : ℕ) (f : Flat F) → f.stop ≡ None → flat_from p l (Begin k r x ∷ End k r x ∷ []) f ≡ flat_step p l (End k r x)
      (flat_step p l (Begin k r x) f)
  from_pair k r x f none =
      cond-false (is_some f.stop) f (flat_from p l (End k r x ∷ []) (flat_step p l (Begin k r x) f)) (ap is_some none)
      ∙ cond-false (is_some (flat_step p l (Begin k r x) f).stop) (flat_step p l (Begin k r x) f)
      (flat_step p l (End k r x) (flat_step p l (Begin k r x) f)) (ap is_some (begin_goes k r x f ∙ none))

module _ {F : Type 0} (p : Setup F) (l : Layout F) (t : Tables) where
  -- no step was taken
  pub done_none : (st : State F) → Done p l t [] st st
  done_none st = record {
    shows = λ f h. h;
    mail = λ n. refl;
    frames = λ n. refl;
  }

  -- some steps, and then others
  pub done_more : (some others : List Step) (old st new : State F) → Done p l t some old st → Done p l t others st new → Done p l t
      (some ++ others) old new
  done_more some others old st new d e = record {
    shows = λ f h. subst (Shows p l t new) (sym (from_append p l some others f)) (e.shows (flat_from p l some f) (d.shows f h));
    mail = λ n. ap (λ m. new.mail.left + m) (count_append (mail_step (message_cells l)) n some others) ∙
        (e.mail (count_after (mail_step (message_cells l)) n some) ∙ d.mail n);
    frames = λ n. ap (λ m. new.frames.left + m) (count_append open_step n some others) ∙
        (e.frames (count_after open_step n some) ∙ d.frames n);
  }

  -- a begin and its end
  pub done_pair : (k r x : ℕ) (old new : State F)
      → ((f : Flat F) → Shows p l t old f → Shows p l t new (flat_step p l (End k r x) (flat_step p l (Begin k r x) f)))
      → new.mail.left ≡ old.mail.left → new.frames.left ≡ old.frames.left → Done p l t (Begin k r x ∷ End k r x ∷ []) old new
  done_pair k r x old new h mail frames = record {
    shows = λ f s. subst (Shows p l t new) (sym (from_pair p l k r x f s.stop)) (h f s);
    mail = λ n. ap (λ m. m + n) mail;
    frames = λ n. (let e : suc n - 1 ≡ n = omega arith in omega (arith, frames));
  }

  -- after some steps, the others are ready
  pub ready_after : (come done rest : List Step) (st now : State F) → ComeReady p l t come st → come ≡ done ++ rest → Done p l t done st now
      → ComeReady p l t rest now
  ready_after come done rest st now h e d more k r places left is at m =
      h (done ++ more) k r places left (e ∙ (ap (λ z. done ++ z) is ∙ sym (append_assoc done more (begins k r places ++ left)))) at
      (done_more done more st now at d m)

  -- the first of them are ready
  pub ready_front : (come front rest : List Step) (st : State F) → ComeReady p l t come st → come ≡ front ++ rest → ComeReady p l t front st
  ready_front come front rest st h e done k r places left is at d =
      h done k r places (left ++ rest)
      (e ∙ (ap (λ z. z ++ rest) is ∙ (append_assoc done (begins k r places ++ left) rest ∙ ap (λ z. done ++ z)
      (append_assoc (begins k r places) left rest)))) at d

  -- begins that come next can be taken
  pub begins_ready : (come rest : List Step) (st : State F) → ComeReady p l t come st → (k r : ℕ) (xs : List ℕ) → begins k r xs ++ rest ≡
      come
      → Planned (by_place p l) k r xs × AllShut st.frames.panes r xs × Distinct xs × (length xs ≤ st.frames.left)
  begins_ready come rest st h k r xs e = h [] k r xs rest (sym e) st (done_none st)

  pub reached_none : (all come : List Step) (st : State F) → all ≡ come → Reached p l t all come st st
  reached_none all come st e = record {
    front = [];
    split = e;
    shows = λ start starts h. h;
    mail = omega arith;
    frames = omega arith;
  }

  pub reached_at : (all left : List Step) (old st : State F) (o : Option Step) (s : Step) → o ≡ Some s → Reached p l t all (to_come o left)
      old st → Reached p l t all (s ∷ left) old st
  reached_at all left old st o s e r = subst (λ z. Reached p l t all (to_come z left) old st) e r

  -- the step that is to be taken ends the front of those that aren't to come
  pub front_taken : (all left : List Step) (s : Step) (old st : State F) → Reached p l t all (s ∷ left) old st → (front : List Step) ×
      (all ≡ front ++ left)
  front_taken all left s old st r = (r.front ++ (s ∷ []), r.split ∙ sym (append_assoc r.front (s ∷ []) left))

  -- where nothing is to come, all steps were taken
  pub at_end : (all left : List Step) (old st : State F) (o : Option Step) → o ≡ None → left ≡ [] → Reached p l t all (to_come o left) old
      st
      → (start : Flat F) → StartsFlat p l start → Shows p l t old start → Shows p l t st (flat_from p l all start)
  at_end all left old st o none over r start starts h =
      subst (λ z. Shows p l t st (flat_from p l z start))
      (sym (r.split ∙ (ap (λ z. r.front ++ to_come z left) none ∙ (ap (λ z. r.front ++ z) over ∙ append-nil r.front))))
      (r.shows start starts h)

  -- where the step stops, so does the list
  pub stops_at : (all left : List Step) (s : Step) (old st new : State F) → Reached p l t all (s ∷ left) old st → (x : model.Stop F)
      → ((f : Flat F) → Shows p l t st f → After p l t (Some x) new (flat_step p l s f))
      → (start : Flat F) → StartsFlat p l start → Shows p l t old start → After p l t (Some x) new (flat_from p l all start)
  stops_at all left s old st new r x after start starts h =
      let at = r.shows start starts h in
      let there = after (flat_from p l r.front start) at in
      let whole = at_stop p l all r.front left s start r.split at.stop x there.0 in
      (ap (λ (z : Flat F). z.stop) whole ∙ there.0, ap (λ (z : Flat F). z.output) whole ∙ there.1)

  -- several steps more
  pub reached_more : (all come rest done : List Step) (old st new : State F) → Reached p l t all come old st → come ≡ done ++ rest → Done p
      l t done st new → Reached p l t all rest old new
  reached_more all come rest done old st new r e d = record {
    front = r.front ++ done;
    split = r.split ∙ (ap (λ z. r.front ++ z) e ∙ sym (append_assoc r.front done rest));
    shows = λ start starts h. subst (Shows p l t new) (sym (from_append p l r.front done start))
        (d.shows (flat_from p l r.front start) (r.shows start starts h));
    mail = ap (λ m. new.mail.left + m) (count_append (mail_step (message_cells l)) 0 r.front done) ∙
        (d.mail (count_after (mail_step (message_cells l)) 0 r.front) ∙ r.mail);
    frames = ap (λ m. new.frames.left + m) (count_append open_step 0 r.front done) ∙
        (d.frames (count_after open_step 0 r.front) ∙ r.frames);
  }

  -- one step more
  pub reached_step : (all left rest : List Step) (s : Step) (old st new : State F) (r : Reached p l t all (s ∷ left) old st) → left ≡ rest
      → ((f : Flat F) → Shows p l t st f → Shows p l t new (flat_step p l s f))
      → new.mail.left + posts l s ≡ st.mail.left + takes l s → new.frames.left + opens s ≡ st.frames.left + shuts s
      → takes l s ≤ count_after (mail_step (message_cells l)) 0 r.front → shuts s ≤ count_after open_step 0 r.front → Reached p l t all rest
      old new
  reached_step all left rest s old st new r e step mails frames some_mail some_open = record {
    front = r.front ++ (s ∷ []);
    split = r.split ∙ (ap (λ z. r.front ++ (s ∷ z)) e ∙ sym (append_assoc r.front (s ∷ []) rest));
    shows = λ start starts h.
        let at = r.shows start starts h in
        subst (Shows p l t new) (sym (from_push p l r.front s start at.stop)) (step (flat_from p l r.front start) at);
    mail = (let a = count_push (mail_step (message_cells l)) 0 r.front s in let b = mail_balance l s
        (count_after (mail_step (message_cells l)) 0 r.front) some_mail in let d = r.mail in omega (arith, a, b, d, mails));
    frames = (let a = count_push open_step 0 r.front s in let b = open_balance s (count_after open_step 0 r.front) some_open in let d =
        r.frames in omega (arith, a, b, d, frames));
  }

-- the flat machine's agreement is the program's
pub as_sequential : {F : Type 0} (p : Setup F) (l : Layout F) (t : Tables) (s : Seq F) (x : Option (model.Stop F)) (st : State F)
    (f : Flat F) → AgreesFlat p l s f → After p l t x st f → AsSequential s x st.output
as_sequential p l t (Going s o) None st f a h = (refl, h.output ∙ a.1)
as_sequential p l t (Going s o) (Some x) st f a h = (sym h.0 ∙ a.0, sym h.1 ∙ a.1)
as_sequential p l t (Stopped x s o) None st f a h = (sym h.stop ∙ a.0, h.output ∙ a.1)
as_sequential p l t (Stopped x s o) (Some y) st f a h = (sym h.0 ∙ a.0, sym h.1 ∙ a.1)
