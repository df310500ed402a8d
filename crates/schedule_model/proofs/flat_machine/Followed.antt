-- The flat machine has under way and open what its steps leave so.
use Rattle.std.proofs.Common.{◌≡◌, ℕ, zero, suc, Bool, true, false, cond, refl, sym, ap, subst, ◌∙◌, ⊎_elim, Option, Some, None, List, [], ◌∷◌, ◌++◌, map, append_assoc, append-nil}
use Rattle.std.specs.Prelude.{◌&&◌, ◌||◌, ◌==◌, not, is_some}
use Rattle.std.proofs.lemmas.Bool.{cases_Bool, false≢true, false_from_ne_true, and_parts, and_from, and_right, cond_both, cond-true, cond-false, eqb-true, eq-eqb}
use Rattle.schedule_steps.specs.declared.step.Step.{Step}
use Rattle.schedule_steps.specs.declared.step.Step.TheVariants.{Send, Recv, Begin, End, Join}
use Rattle.schedule_steps.specs.Steps.{begun, same3, same, has, Accepted}
use Rattle.schedule_steps.specs.Members.{same_true, same_refl, has_left, has_at, has_push, split_at}
use Rattle.schedule_steps.specs.UnderWay.{is_open, without_oldest, queue_step, queue_after}
use Rattle.schedule_model.specs.Program.{Kind, Free, Reduce, Ordered, Host, Hosted, Halts, Goes, elements}
use Rattle.schedule_model.specs.Setup.{Setup}
use Rattle.schedule_model.specs.Sequential.{Stop}
use Rattle.schedule_model.specs.Machine.{least, put2, put3}
use Rattle.schedule_model.specs.Layout.{Core, Faults, Leaves, Layout, by_place}
use Rattle.schedule_model.specs.Flat.{Pane, Shut_pane, Broken_pane, Windows, Post, Flat, window, variable, owned, packed, take_post, open_pane, close_pane, element_flat, loop_flat, host_flat, done_flat, join_flat, flat_step, flat_from, StartsFlat}
use Rattle.schedule_model.specs.Followed.{is_shut, queue_of}

module _ {F : Type 0} (p : Setup F) (l : Layout F) where
  -- mail and frames are those of f
  abbrev Keeps : Flat F → Flat F → Type 0
  Keeps f g = (g.mail ≡ f.mail) × (g.panes ≡ f.panes)

  keeps_element : (k e : ℕ) (b : Core F) (f g : Flat F) → Keeps f g → Keeps f (element_flat p l k e b g)
  keeps_element k e (Faults n) f g h = h
  keeps_element k e (Leaves ws) f g h = h

  keeps_loop : (k n : ℕ) (f : Flat F) → Keeps f (loop_flat p l k n f)
  keeps_loop k zero f = (refl, refl)
  keeps_loop k (suc n) f =
      let g : Flat F = loop_flat p l k n f in
      let h : Keeps f g = keeps_loop k n f in
      let b : Core F = l.core k n (map (variable p l g) l.constants) (map (owned p l g) (l.cells k n)) in
      cond_both (is_some g.stop) g (element_flat p l k n b g) (Keeps f) (λ t. h) (λ t. keeps_element k n b f g h)

  keeps_hosted : (k : ℕ) (b : Hosted F) (f : Flat F) → Keeps f (host_flat p l k b f)
  keeps_hosted k (Halts n) f = (refl, refl)
  keeps_hosted k (Goes v w) f = (refl, refl)

  keeps_done : (k : ℕ) (x : Kind) (f : Flat F) → Keeps f (done_flat p l k x f)
  keeps_done k Free f = (refl, refl)
  keeps_done k Reduce f = (refl, refl)
  keeps_done k Ordered f = keeps_loop k (elements p.program k) f
  keeps_done k Host f = keeps_hosted k (p.program.host k (owned p l f)) f

  keeps_joined : (k : ℕ) (x : Option (Stop F)) (f : Flat F) → Keeps f (join_flat p l k x f)
  keeps_joined k (Some x) f = (refl, refl)
  keeps_joined k None f = keeps_done k (p.program.kind k) f

  -- ---- messages
  mail_opened : (k r x : ℕ) (b : Core F) (f : Flat F) → (open_pane p l k r x b f).mail ≡ f.mail
  mail_opened k r x (Faults n) f = refl
  mail_opened k r x (Leaves ws) f = refl

  mail_closed : (k r x e : ℕ) (b : Pane) (f : Flat F) → (close_pane p l k r x e b f).mail ≡ f.mail
  mail_closed k r x e Shut_pane f = refl
  mail_closed k r x e Broken_pane f = refl
  mail_closed k r x e (Windows ws) f = refl

  -- both tests are of the same pair
  turned : (a b s r : ℕ) → ((a == s) && (b == r)) ≡ ((s == a) && (r == b))
  turned a b s r = by_test ((a == s) && (b == r)) ((s == a) && (r == b)) refl refl
    where
      to : (a b s r : ℕ) → ((a == s) && (b == r)) ≡ true → ((s == a) && (r == b)) ≡ true
      to a b s r h =
          let i : ((a == s) ≡ true) × ((b == r) ≡ true) = and_parts (a == s) (b == r) h in
          and_from (s == a) (r == b) (eq-eqb s a (sym (eqb-true a s i.0))) (eq-eqb r b (sym (eqb-true b r i.1)))

      by_test : (x y : Bool) → ((a == s) && (b == r)) ≡ x → ((s == a) && (r == b)) ≡ y → ((a == s) && (b == r)) ≡ ((s == a) && (r == b))
      by_test true y h g = h ∙ sym (to a b s r h)
      by_test false true h g = to s r a b g ∙ sym g
      by_test false false h g = h ∙ sym g

  pushed : (xs : List Post) (x : Post) → map (λ (y : Post). y.about) (xs ++ (x ∷ [])) ≡ map (λ (y : Post). y.about) xs ++ (x.about ∷ [])
  pushed [] x = refl
  pushed (y ∷ xs) x = ap (λ z. y.about ∷ z) (pushed xs x)

  -- where the pair of the step is this one, its queue changes; else this queue stays
  put_queue : (a b s r : ℕ) (f : Flat F) (new : List Post) (q : List ℕ) → (a ≡ s → b ≡ r → map (λ (y : Post). y.about) new ≡ q)
      → map (λ (y : Post). y.about) (put2 a b new f.mail s r) ≡ cond ((a == s) && (b == r)) q (queue_of f s r)
  put_queue a b s r f new q h = ⊎_elim
      (λ (y : ((a == s) && (b == r)) ≡ true).
      let i : ((a == s) ≡ true) × ((b == r) ≡ true) = and_parts (a == s) (b == r) y in
      ap (map (λ (y : Post). y.about)) (cond-true ((s == a) && (r == b)) new (f.mail s r) (sym (turned a b s r) ∙ y))
      ∙ (h (eqb-true a s i.0) (eqb-true b r i.1) ∙ sym (cond-true ((a == s) && (b == r)) q (queue_of f s r) y)))
      (λ (y : ((a == s) && (b == r)) ≡ false).
      ap (map (λ (y : Post). y.about)) (cond-false ((s == a) && (r == b)) new (f.mail s r) (sym (turned a b s r) ∙ y)) ∙ sym (cond-false ((a == s) && (b == r)) q (queue_of f s r) y))
      (cases_Bool ((a == s) && (b == r)))

  taken : (k r2 s2 s r : ℕ) (f : Flat F) (xs : List Post) → f.mail s2 r2 ≡ xs → queue_of (take_post p l r2 s2 xs f) s r ≡ queue_step s r (Recv k r2 s2) (queue_of f s r)
  taken k r2 s2 s r f [] e = by_test ((s2 == s) && (r2 == r)) refl
    where
      by_test : (b : Bool) → ((s2 == s) && (r2 == r)) ≡ b → queue_of f s r ≡ cond b (without_oldest (queue_of f s r)) (queue_of f s r)
      by_test true y =
          let i : ((s2 == s) ≡ true) × ((r2 == r) ≡ true) = and_parts (s2 == s) (r2 == r) y in
          let none : f.mail s r ≡ [] = ap (λ z. f.mail z r) (sym (eqb-true s2 s i.0)) ∙ (ap (f.mail s2) (sym (eqb-true r2 r i.1)) ∙ e) in
          ap (map (λ (y : Post). y.about)) none ∙ sym (ap (λ z. without_oldest (map (λ (y : Post). y.about) z)) none)
      by_test false y = refl
  taken k r2 s2 s r f (x ∷ xs) e = put_queue s2 r2 s r f xs (without_oldest (queue_of f s r))
      (λ i j. ap (λ z. without_oldest (map (λ (y : Post). y.about) z)) (sym e ∙ (ap (λ z. f.mail z r2) i ∙ ap (f.mail s) j)))

  mail_step : (t : Step) (f : Flat F) (s r : ℕ) → queue_of (flat_step p l t f) s r ≡ queue_step s r t (queue_of f s r)
  mail_step (Send k a b) f s r = put_queue a b s r f (f.mail a b ++ (record { about = k; values = map (packed p l f a) (l.exports k a b) } ∷ [])) (queue_of f s r ++ (k ∷ []))
      (λ i j. pushed (f.mail a b) (record { about = k; values = map (packed p l f a) (l.exports k a b) })
      ∙ ap (λ z. map (λ (y : Post). y.about) z ++ (k ∷ [])) (ap (λ z. f.mail z b) i ∙ ap (f.mail s) j))
  mail_step (Recv k b a) f s r = taken k b a s r f (f.mail a b) refl
  mail_step (Begin k b x) f s r = ap (λ m. map (λ (y : Post). y.about) (m s r))
      (mail_opened k b x (l.core k (l.original k b x) (map (variable p l f) l.constants)
      (map (window p l f k b) (l.cells k (l.original k b x)))) f)
  mail_step (End k b x) f s r = ap (λ m. map (λ (y : Post). y.about) (m s r)) (mail_closed k b x (l.original k b x) (f.panes k b x) f)
  mail_step (Join k) f s r = ap (λ m. map (λ (y : Post). y.about) (m s r)) (keeps_joined k (least k f.faults) f).0

  mail_steps : (steps : List Step) (f : Flat F) → (flat_from p l steps f).stop ≡ None → (s r : ℕ) → queue_of (flat_from p l steps f) s r ≡ queue_after s r (queue_of f s r) steps
  mail_steps [] f none s r = refl
  mail_steps (t ∷ steps) f none s r = by_test (λ n. mail_steps steps (flat_step p l t f) n s r) (is_some f.stop) refl none
    where
      by_test : ((flat_from p l steps (flat_step p l t f)).stop ≡ None → queue_of (flat_from p l steps (flat_step p l t f)) s r ≡ queue_after s r (queue_of (flat_step p l t f) s r) steps)
          → (b : Bool) → is_some f.stop ≡ b → (cond b f (flat_from p l steps (flat_step p l t f))).stop ≡ None
          → queue_of (cond b f (flat_from p l steps (flat_step p l t f))) s r ≡ queue_after s r (queue_step s r t (queue_of f s r))
          steps
      by_test more true i n = absurd (false≢true (sym (ap is_some n) ∙ i))
      by_test more false i n = more n ∙ ap (λ q. queue_after s r q steps) (mail_step t f s r)

  pub mail_followed : (f : Flat F) → StartsFlat p l f → (steps : List Step) → (flat_from p l steps f).stop ≡ None → (s r : ℕ) → queue_of (flat_from p l steps f) s r ≡ queue_after s r [] steps
  mail_followed f start steps none s r = mail_steps steps f none s r ∙ ap (λ z. queue_after s r (map (λ (y : Post). y.about) z) steps) (start.mail s r)

  -- ---- frames
  panes_taken : (r s : ℕ) (xs : List Post) (f : Flat F) → (take_post p l r s xs f).panes ≡ f.panes
  panes_taken r s [] f = refl
  panes_taken r s (x ∷ xs) f = refl

  panes_opened : (k r x : ℕ) (b : Core F) (f : Flat F) → (n : Pane) × (is_shut n ≡ false) × ((open_pane p l k r x b f).panes ≡ put3 k r x n f.panes)
  panes_opened k r x (Faults n) f = (Broken_pane, refl, refl)
  panes_opened k r x (Leaves ws) f = (Windows ws, refl, refl)

  panes_closed : (k r x e : ℕ) (b : Pane) (f : Flat F) → (close_pane p l k r x e b f).panes ≡ put3 k r x Shut_pane f.panes
  panes_closed k r x e Shut_pane f = refl
  panes_closed k r x e Broken_pane f = refl
  panes_closed k r x e (Windows ws) f = refl

  abbrev Shown : List Step → (ℕ → ℕ → ℕ → Pane) → Type 0
  Shown done panes = (k r x : ℕ) → is_shut (panes k r x) ≡ not (is_open done k r x)

  unlike : (done : List Step) (t u : Step) → (u ≡ t → ⊥) → has (done ++ (t ∷ [])) u ≡ has done u
  unlike done t u ne = has_push done t u ∙ ap (λ b. b || has done u) (false_from_ne_true (same u t) (λ h. ne (same_true u t h)))

  unmoved : (done : List Step) (t : Step) (k r x : ℕ) → (Begin k r x ≡ t → ⊥) → (End k r x ≡ t → ⊥) → is_open (done ++ (t ∷ [])) k r x ≡ is_open done k r x
  unmoved done t k r x nb ne = ap (λ b. b && not (has (done ++ (t ∷ [])) (End k r x))) (unlike done t (Begin k r x) nb) ∙ ap (λ b. has done (Begin k r x) && not b) (unlike done t (End k r x) ne)

  module _ (steps : List Step) (acc : Accepted (by_place p l) steps) where
    -- an element that begins has not ended
    not_ended : (done post : List Step) (k r x : ℕ) → steps ≡ done ++ (Begin k r x ∷ post) → has done (End k r x) ≡ false
    not_ended done post k r x e = false_from_ne_true (has done (End k r x)) (λ h.
        let a : (u : List Step) × (v : List Step) × (done ≡ u ++ (End k r x ∷ v)) = split_at done (End k r x) h in
        let all : steps ≡ a.0 ++ (End k r x ∷ (a.1 ++ (Begin k r x ∷ post))) = e ∙ (ap (λ z. z ++ (Begin k r x ∷ post)) a.2 ∙ append_assoc a.0 (End k r x ∷ a.1) (Begin k r x ∷ post)) in
        let there : has a.0 (Begin k r x) ≡ true = acc.order a.0 (End k r x) (a.1 ++ (Begin k r x ∷ post)) all (Begin k r x) (acc.steps done (Begin k r x) post e) begun in
        false≢true (sym (acc.once done (Begin k r x) post e) ∙ subst (λ z. has z (Begin k r x) ≡ true) (sym a.2) (has_left a.0 (End k r x ∷ a.1) (Begin k r x) there)))

    shown_step : (done : List Step) (t : Step) (post : List Step) (f : Flat F) → steps ≡ done ++ (t ∷ post) → Shown done f.panes → Shown (done ++ (t ∷ [])) (flat_step p l t f).panes
    shown_step done (Send a b c) post f e h = λ k r x. h k r x ∙ ap not (sym (unmoved done (Send a b c) k r x (λ z. cc) (λ z. cc)))
    shown_step done (Recv a b c) post f e h = λ k r x.
        ap (λ (m : ℕ → ℕ → ℕ → Pane). is_shut (m k r x)) (panes_taken b c (f.mail c b) f) ∙ (h k r x ∙ ap not (sym (unmoved done (Recv a b c) k r x (λ z. cc) (λ z. cc))))
    shown_step done (Join a) post f e h = λ k r x.
        ap (λ (m : ℕ → ℕ → ℕ → Pane). is_shut (m k r x)) (keeps_joined a (least a f.faults) f).1 ∙ (h k r x ∙ ap not (sym (unmoved done (Join a) k r x (λ z. cc) (λ z. cc))))
    shown_step done (Begin a b c) post f e h = λ k r x.
        let o : (n : Pane) × (is_shut n ≡ false) × ((flat_step p l (Begin a b c) f).panes ≡ put3 a b c n f.panes) =
        panes_opened a b c (l.core a (l.original a b c) (map (variable p l f) l.constants) (map (window p l f a b) (l.cells a (l.original a b c)))) f in
        ap (λ (m : ℕ → ℕ → ℕ → Pane). is_shut (m k r x)) o.2
        ∙ ⊎_elim
        (λ (y : same3 k r x a b c ≡ true).
        let m : Begin k r x ≡ Begin a b c = same_true (Begin k r x) (Begin a b c) y in
        let begins : has (done ++ (Begin a b c ∷ [])) (Begin k r x) ≡ true = subst (λ z. has (done ++ (z ∷ [])) (Begin k r x) ≡ true) m (has_at done (Begin k r x) []) in
        let ends : has (done ++ (Begin a b c ∷ [])) (End k r x) ≡ false = unlike done (Begin a b c) (End k r x) (λ z. cc) ∙ not_ended done post k r x (e ∙ ap (λ z. done ++ (z ∷ post)) (sym m)) in
        ap is_shut (cond-true (same3 k r x a b c) o.0 (f.panes k r x) y)
        ∙ (o.1 ∙ ap not (sym (ap (λ u. u && not (has (done ++ (Begin a b c ∷ [])) (End k r x))) begins ∙ ap not ends))))
        (λ (y : same3 k r x a b c ≡ false).
        ap is_shut (cond-false (same3 k r x a b c) o.0 (f.panes k r x) y)
        ∙ (h k r x ∙ ap not (sym (unmoved done (Begin a b c) k r x (λ z. false≢true (sym y ∙ subst (λ w. same (Begin k r x) w ≡ true) z (same_refl (Begin k r x)))) (λ z. cc)))))
        (cases_Bool (same3 k r x a b c))
    shown_step done (End a b c) post f e h = λ k r x.
        ap (λ (m : ℕ → ℕ → ℕ → Pane). is_shut (m k r x)) (panes_closed a b c (l.original a b c) (f.panes a b c) f)
        ∙ ⊎_elim
        (λ (y : same3 k r x a b c ≡ true).
        let m : End k r x ≡ End a b c = same_true (End k r x) (End a b c) y in
        let ends : has (done ++ (End a b c ∷ [])) (End k r x) ≡ true = subst (λ z. has (done ++ (z ∷ [])) (End k r x) ≡ true) m (has_at done (End k r x) []) in
        ap is_shut (cond-true (same3 k r x a b c) Shut_pane (f.panes k r x) y)
        ∙ ap not (sym (and_right (has (done ++ (End a b c ∷ [])) (Begin k r x)) (not (has (done ++ (End a b c ∷ [])) (End k r x))) (ap not ends))))
        (λ (y : same3 k r x a b c ≡ false).
        ap is_shut (cond-false (same3 k r x a b c) Shut_pane (f.panes k r x) y)
        ∙ (h k r x ∙ ap not (sym (unmoved done (End a b c) k r x (λ z. cc) (λ z. false≢true (sym y ∙ subst (λ w. same (End k r x) w ≡ true) z (same_refl (End k r x))))))))
        (cases_Bool (same3 k r x a b c))

    shown_steps : (xs done post : List Step) (f : Flat F) → steps ≡ done ++ (xs ++ post) → Shown done f.panes → (flat_from p l xs f).stop ≡ None → Shown (done ++ xs) (flat_from p l xs f).panes
    shown_steps [] done post f e h none = subst (λ z. Shown z f.panes) (sym (append-nil done)) h
    shown_steps (t ∷ xs) done post f e h none = by_test
        (λ n. shown_steps xs (done ++ (t ∷ [])) post (flat_step p l t f) (e ∙ sym (append_assoc done (t ∷ []) (xs ++ post))) (shown_step done t (xs ++ post) f e h) n) (is_some f.stop) refl none
      where
        by_test : ((flat_from p l xs (flat_step p l t f)).stop ≡ None → Shown ((done ++ (t ∷ [])) ++ xs) (flat_from p l xs (flat_step p l t f)).panes)
            → (b : Bool) → is_some f.stop ≡ b → (cond b f (flat_from p l xs (flat_step p l t f))).stop ≡ None → Shown (done ++ (t ∷ xs)) (cond b f (flat_from p l xs (flat_step p l t f))).panes
        by_test more true i n = absurd (false≢true (sym (ap is_some n) ∙ i))
        by_test more false i n = subst (λ z. Shown z (flat_from p l xs (flat_step p l t f)).panes) (append_assoc done (t ∷ []) xs) (more n)

  pub panes_followed : (f : Flat F) → StartsFlat p l f → (steps : List Step) → Accepted (by_place p l) steps → (pre post : List Step) → steps ≡ pre ++ post → (flat_from p l pre f).stop ≡ None
      → (k r x : ℕ) → is_shut ((flat_from p l pre f).panes k r x) ≡ not (is_open pre k r x)
  panes_followed f start steps acc pre post e none = shown_steps steps acc pre [] post f e (λ k r x. ap is_shut (start.panes k r x)) none
