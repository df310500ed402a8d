-- Peaks are room for begins and sends, and no count is taken below 0.
use Rattle.std.proofs.Common.{◌≡◌, ◌<◌, ◌≤◌, ◌+◌, ℕ, suc, true, false, cond, refl, sym, ap, subst, ◌∙◌, arith, ⊎_elim, List, [], ◌∷◌, ◌++◌, length, append-nil, append_assoc}
use Rattle.std.specs.Prelude.{◌&&◌, ◌||◌, not}
use Rattle.std.proofs.Math.Nat.{le-max_left, le-max_right}
use Rattle.std.proofs.lemmas.Bool.{cases_Bool, false≢true, false_from_ne_true, or_cases, or_left, or_right, and_parts, and_from, cond-true, cond-false}
use Rattle.schedule_steps.specs.Outline.{Outline}
use Rattle.schedule_steps.specs.declared.step.Step.{Step}
use Rattle.schedule_steps.specs.declared.step.Step.TheVariants.{Send, Recv, Begin, End, Join}
use Rattle.schedule_steps.specs.Steps.{sent, same, has, Accepted}
use Rattle.schedule_steps.specs.Members.{same_true, same_refl, has_at, has_push, split_at}
use Rattle.schedule_steps.specs.UnderWay.{is_open}
use Rattle.schedule_steps.specs.Standard.{standard}
use Rattle.schedule_steps.specs.Peaks.{open_step, mail_step, count_after, greatest, step_count}
use Rattle.schedule_steps.proofs.UnderWay.{planned, unlike, ends}
use Rattle.schedule_steps.proofs.Standard.{accepted}

-- ---- a count and its greatest value
reached : (f : Step → ℕ → ℕ) (n : ℕ) (pre post : List Step) → count_after f n pre ≤ greatest f n (pre ++ post)
reached f n [] [] = omega arith
reached f n [] (s ∷ post) = le-max_left n (greatest f (f s n) post)
reached f n (s ∷ pre) post =
    let h : count_after f (f s n) pre ≤ greatest f (f s n) (pre ++ post) = reached f (f s n) pre post in
    let g : greatest f (f s n) (pre ++ post) ≤ greatest f n (s ∷ (pre ++ post)) = le-max_right n (greatest f (f s n) (pre ++ post)) in
    omega arith

one_more : (f : Step → ℕ → ℕ) (n : ℕ) (pre : List Step) (s : Step) → count_after f n (pre ++ (s ∷ [])) ≡ f s (count_after f n pre)
one_more f n [] s = refl
one_more f n (t ∷ pre) s = one_more f (f t n) pre s

after_step : (f : Step → ℕ → ℕ) (l pre : List Step) (s : Step) (post : List Step) → l ≡ pre ++ (s ∷ post) → f s (count_after f 0 pre) ≤ greatest f 0 l
after_step f l pre s post e =
    let h : count_after f 0 (pre ++ (s ∷ [])) ≤ greatest f 0 ((pre ++ (s ∷ [])) ++ post) = reached f 0 (pre ++ (s ∷ [])) post in
    let i : count_after f 0 (pre ++ (s ∷ [])) ≡ f s (count_after f 0 pre) = one_more f 0 pre s in
    let j : greatest f 0 ((pre ++ (s ∷ [])) ++ post) ≡ greatest f 0 l = ap (greatest f 0) (append_assoc pre (s ∷ []) post ∙ sym e) in
    omega arith

pub begins_fit : (l pre post : List Step) (k r e : ℕ) → l ≡ pre ++ (Begin k r e ∷ post) → count_after open_step 0 pre < greatest open_step 0 l
begins_fit l pre post k r e h = let i : suc (count_after open_step 0 pre) ≤ greatest open_step 0 l = after_step open_step l pre (Begin k r e) post h in omega arith

pub sends_fit : (cells : ℕ → ℕ → ℕ → ℕ) (l pre post : List Step) (k s r : ℕ) → l ≡ pre ++ (Send k s r ∷ post) → (count_after (mail_step cells) 0 pre + cells k s r) ≤ greatest (mail_step cells) 0 l
sends_fit cells l pre post k s r h = after_step (mail_step cells) l pre (Send k s r) post h

-- ---- weights of lists
abbrev total : (Step → ℕ) → List Step → ℕ
total w [] = 0
total w (s ∷ l) = w s + total w l

abbrev without : Step → List Step → List Step
without t [] = []
without t (s ∷ l) = cond (same t s) l (s ∷ without t l)

total_without : (w : Step → ℕ) (t : Step) (l : List Step) → has l t ≡ true → total w l ≡ w t + total w (without t l)
total_without w t [] h = absurd (false≢true h)
total_without w t (s ∷ l) h = ⊎_elim
    (λ (i : same t s ≡ true).
    ap (λ z. total w (z ∷ l)) (sym (same_true t s i)) ∙ ap (λ z. w t + total w z) (sym (cond-true (same t s) l (s ∷ without t l) i)))
    (λ (i : same t s ≡ false).
    let g : total w l ≡ w t + total w (without t l) = total_without w t l (sym (ap (λ b. b || has l t) i) ∙ h) in
    let j : total w (without t (s ∷ l)) ≡ w s + total w (without t l) = ap (total w) (cond-false (same t s) l (s ∷ without t l) i) in
    omega arith)
    (cases_Bool (same t s))

has_without : (t u : Step) (l : List Step) → (u ≡ t → ⊥) → has l u ≡ true → has (without t l) u ≡ true
has_without t u [] ne h = absurd (false≢true h)
has_without t u (s ∷ l) ne h = ⊎_elim
    (λ (i : same t s ≡ true).
    subst (λ z. has z u ≡ true) (sym (cond-true (same t s) l (s ∷ without t l) i))
    (⊎_elim (λ (j : same u s ≡ true). absurd (ne (same_true u s j ∙ sym (same_true t s i)))) (λ j. j) (or_cases (same u s) (has l u) h)))
    (λ (i : same t s ≡ false).
    subst (λ z. has z u ≡ true) (sym (cond-false (same t s) l (s ∷ without t l) i))
    (⊎_elim (λ (j : same u s ≡ true). or_left (same u s) (has (without t l) u) j) (λ j. or_right (same u s) (has (without t l) u) (has_without t u l ne j)) (or_cases (same u s) (has l u) h)))
    (cases_Bool (same t s))

abbrev one : Step → ℕ
one s = 1

length_is : (l : List Step) → length l ≡ total one l
length_is [] = refl
length_is (s ∷ l) = let h : length l ≡ total one l = length_is l in omega arith

-- ---- lists with the same steps
abbrev Unrepeated : List Step → Type 0
Unrepeated [] = Unit {0}
Unrepeated (s ∷ l) = (has l s ≡ false) × Unrepeated l

unrepeated : (l : List Step) → ((pre : List Step) (s : Step) (post : List Step) → l ≡ pre ++ (s ∷ post) → has pre s ≡ false) → Unrepeated l
unrepeated [] once = tt
unrepeated (s ∷ l) once = (
  false_from_ne_true (has l s) (λ h.
      let a : (x : List Step) × (y : List Step) × (l ≡ x ++ (s ∷ y)) = split_at l s h in
      false≢true (sym (once (s ∷ a.0) s a.1 (ap (λ z. s ∷ z) a.2)) ∙ or_left (same s s) (has a.0 s) (same_refl s))),
  unrepeated l (λ pre t post e. false_from_ne_true (has pre t) (λ h. false≢true (sym (once (s ∷ pre) t post (ap (λ z. s ∷ z) e)) ∙ or_right (same t s) (has pre t) h))),
)

no_longer : (l m : List Step) → Unrepeated l → ((t : Step) → has l t ≡ true → has m t ≡ true) → total one l ≤ total one m
no_longer [] m u h = omega arith
no_longer (s ∷ l) m u h =
    let i : total one m ≡ 1 + total one (without s m) = total_without one s m (h s (or_left (same s s) (has l s) (same_refl s))) in
    let j : total one l ≤ total one (without s m) = no_longer l (without s m) u.1 (λ t a.
    has_without s t m (λ e. false≢true (sym u.0 ∙ subst (λ z. has l z ≡ true) e a)) (h t (or_right (same t s) (has l t) a))) in
    omega arith

pub as_long : (o : Outline) (l : List Step) → Accepted o l → length l ≡ step_count o
as_long o l acc =
    let all : Accepted o (standard o 1) = accepted o 1 in
    let i : total one l ≤ total one (standard o 1) = no_longer l (standard o 1) (unrepeated l acc.once) (λ t h. all.whole t (planned o l acc l [] (sym (append-nil l)) t h)) in
    let j : total one (standard o 1) ≤ total one l = no_longer (standard o 1) l (unrepeated (standard o 1) all.once)
    (λ t h. acc.whole t (planned o (standard o 1) all (standard o 1) [] (sym (append-nil (standard o 1))) t h)) in
    let e : total one l ≡ total one (standard o 1) = omega arith in
    length_is l ∙ (e ∙ sym (length_is (standard o 1)))

-- ---- counts are not taken below 0
module _ (o : Outline) (l : List Step) (acc : Accepted o l) where
  -- a list of begins with all that are open, as long as the count
  record Opened (pre : List Step) (n : ℕ) : Type 0 where
    begun : List Step
    sum : total one begun ≡ n
    all : (k r e : ℕ) → is_open pre k r e ≡ true → has begun (Begin k r e) ≡ true

  -- a step that is neither a begin nor an end
  idle : (pre : List Step) (s : Step) (n : ℕ) → ((k r e : ℕ) → Begin k r e ≡ s → ⊥) → ((k r e : ℕ) → End k r e ≡ s → ⊥) → Opened pre n → Opened (pre ++ (s ∷ [])) n
  idle pre s n nb ne h = record {
    begun = h.begun;
    sum = h.sum;
    all = λ k r e t. h.all k r e (subst (λ b. b ≡ true) (same_open k r e) t);
  }
    where
      same_open : (k r e : ℕ) → is_open (pre ++ (s ∷ [])) k r e ≡ is_open pre k r e
      same_open k r e =
          ap (λ b. b && not (has (pre ++ (s ∷ [])) (End k r e))) (unlike o l acc pre s (Begin k r e) (nb k r e))
          ∙ ap (λ b. has pre (Begin k r e) && not b) (unlike o l acc pre s (End k r e) (ne k r e))

  open_more : (pre : List Step) (s : Step) (post : List Step) (n : ℕ) → l ≡ pre ++ (s ∷ post) → Opened pre n → Opened (pre ++ (s ∷ [])) (open_step s n)
  open_more pre (Begin k r e) post n i h = record {
    begun = Begin k r e ∷ h.begun;
    sum = (let f : total one h.begun ≡ n = h.sum in omega arith);
    all = λ a b c t.
        let p : (has (pre ++ (Begin k r e ∷ [])) (Begin a b c) ≡ true) × (not (has (pre ++ (Begin k r e ∷ [])) (End a b c)) ≡ true) =
        and_parts (has (pre ++ (Begin k r e ∷ [])) (Begin a b c)) (not (has (pre ++ (Begin k r e ∷ [])) (End a b c))) t in
        ⊎_elim
        (λ (m : same (Begin a b c) (Begin k r e) ≡ true). or_left (same (Begin a b c) (Begin k r e)) (has h.begun (Begin a b c)) m)
        (λ (m : has pre (Begin a b c) ≡ true). or_right (same (Begin a b c) (Begin k r e)) (has h.begun (Begin a b c))
        (h.all a b c (and_from (has pre (Begin a b c)) (not (has pre (End a b c))) m (ap not (sym (unlike o l acc pre (Begin k r e) (End a b c) (λ z. cc))) ∙ p.1))))
        (or_cases (same (Begin a b c) (Begin k r e)) (has pre (Begin a b c)) (sym (has_push pre (Begin k r e) (Begin a b c)) ∙ p.0));
  }
  open_more pre (End k r e) post n i h = record {
    begun = without (Begin k r e) h.begun;
    sum = (let g : total one h.begun ≡ 1 + total one (without (Begin k r e) h.begun) = total_without one (Begin k r e) h.begun (h.all k r e (ends o l acc pre post k r e i).0) in
        let f : total one h.begun ≡ n = h.sum in omega arith);
    all = λ a b c t.
        let p : (has (pre ++ (End k r e ∷ [])) (Begin a b c) ≡ true) × (not (has (pre ++ (End k r e ∷ [])) (End a b c)) ≡ true) =
        and_parts (has (pre ++ (End k r e ∷ [])) (Begin a b c)) (not (has (pre ++ (End k r e ∷ [])) (End a b c))) t in
        let ne : End a b c ≡ End k r e → ⊥ = (λ z. false≢true (ap not (sym (subst (λ u. has (pre ++ (End k r e ∷ [])) u ≡ true) (sym z) (has_at pre (End k r e) []))) ∙ p.1)) in
        has_without (Begin k r e) (Begin a b c) h.begun (λ z. ne (ended a b c z))
        (h.all a b c (and_from (has pre (Begin a b c)) (not (has pre (End a b c)))
        (sym (unlike o l acc pre (End k r e) (Begin a b c) (λ z. cc)) ∙ p.0)
        (ap not (sym (unlike o l acc pre (End k r e) (End a b c) ne)) ∙ p.1)));
  }
    where
      ended : (a b c : ℕ) → Begin a b c ≡ Begin k r e → End a b c ≡ End k r e
      ended a b c z = let i : a ≡ k = cc in let j : b ≡ r = cc in let m : c ≡ e = cc in ap (λ y. End y b c) i ∙ (ap (λ y. End k y c) j ∙ ap (λ y. End k r y) m)
  open_more pre (Send k s r) post n i h = idle pre (Send k s r) n (λ a b c z. cc) (λ a b c z. cc) h
  open_more pre (Recv k r s) post n i h = idle pre (Recv k r s) n (λ a b c z. cc) (λ a b c z. cc) h
  open_more pre (Join k) post n i h = idle pre (Join k) n (λ a b c z. cc) (λ a b c z. cc) h

  all_opened : (xs done post : List Step) (n : ℕ) → l ≡ done ++ (xs ++ post) → Opened done n → Opened (done ++ xs) (count_after open_step n xs)
  all_opened [] done post n e h = subst (λ z. Opened z n) (sym (append-nil done)) h
  all_opened (t ∷ xs) done post n e h =
      subst (λ z. Opened z (count_after open_step (open_step t n) xs)) (append_assoc done (t ∷ []) xs)
      (all_opened xs (done ++ (t ∷ [])) post (open_step t n) (e ∙ sym (append_assoc done (t ∷ []) (xs ++ post))) (open_more done t (xs ++ post) n e h))

  pub ends_open : (pre post : List Step) (k r e : ℕ) → l ≡ pre ++ (End k r e ∷ post) → 0 < count_after open_step 0 pre
  ends_open pre post k r e i =
      let h : Opened pre (count_after open_step 0 pre) = all_opened pre [] (End k r e ∷ post) 0 i (record { begun = []; sum = refl; all = λ a b c t. absurd (false≢true t) }) in
      let g : total one h.begun ≡ 1 + total one (without (Begin k r e) h.begun) = total_without one (Begin k r e) h.begun (h.all k r e (ends o l acc pre post k r e i).0) in
      let f : total one h.begun ≡ count_after open_step 0 pre = h.sum in
      omega arith

  -- ---- messages
  module _ (cells : ℕ → ℕ → ℕ → ℕ) where
    abbrev weight : Step → ℕ
    weight (Send k s r) = cells k s r
    weight _ = 0

    -- a list of sends with all whose messages are under way, of as many cells as the count
    record Mailed (pre : List Step) (n : ℕ) : Type 0 where
      sends : List Step
      sum : total weight sends ≡ n
      all : (k s r : ℕ) → has pre (Send k s r) ≡ true → has pre (Recv k r s) ≡ false → has sends (Send k s r) ≡ true

    still : (pre : List Step) (t : Step) (n : ℕ) → ((k s r : ℕ) → Send k s r ≡ t → ⊥) → ((k r s : ℕ) → Recv k r s ≡ t → ⊥) → Mailed pre n → Mailed (pre ++ (t ∷ [])) n
    still pre t n ns nr h = record {
      sends = h.sends;
      sum = h.sum;
      all = λ k s r a b. h.all k s r (sym (unlike o l acc pre t (Send k s r) (ns k s r)) ∙ a) (sym (unlike o l acc pre t (Recv k r s) (nr k r s)) ∙ b);
    }

    waits : (pre post : List Step) (k r s n : ℕ) → l ≡ pre ++ (Recv k r s ∷ post) → (h : Mailed pre n) → has h.sends (Send k s r) ≡ true
    waits pre post k r s n i h = h.all k s r (acc.order pre (Recv k r s) post i (Send k s r) (acc.steps pre (Recv k r s) post i) sent) (acc.once pre (Recv k r s) post i)

    mail_more : (pre : List Step) (t : Step) (post : List Step) (n : ℕ) → l ≡ pre ++ (t ∷ post) → Mailed pre n → Mailed (pre ++ (t ∷ [])) (mail_step cells t n)
    mail_more pre (Send k s r) post n i h = record {
      sends = Send k s r ∷ h.sends;
      sum = (let f : total weight h.sends ≡ n = h.sum in omega arith);
      all = λ a b c x y. ⊎_elim
          (λ (m : same (Send a b c) (Send k s r) ≡ true). or_left (same (Send a b c) (Send k s r)) (has h.sends (Send a b c)) m)
          (λ (m : has pre (Send a b c) ≡ true). or_right (same (Send a b c) (Send k s r)) (has h.sends (Send a b c))
          (h.all a b c m (sym (unlike o l acc pre (Send k s r) (Recv a c b) (λ z. cc)) ∙ y)))
          (or_cases (same (Send a b c) (Send k s r)) (has pre (Send a b c)) (sym (has_push pre (Send k s r) (Send a b c)) ∙ x));
    }
    mail_more pre (Recv k r s) post n i h = record {
      sends = without (Send k s r) h.sends;
      sum = (let g : total weight h.sends ≡ cells k s r + total weight (without (Send k s r) h.sends) = total_without weight (Send k s r) h.sends (waits pre post k r s n i h) in
          let f : total weight h.sends ≡ n = h.sum in omega arith);
      all = λ a b c x y.
          let ne : Recv a c b ≡ Recv k r s → ⊥ = (λ z. false≢true (sym y ∙ subst (λ u. has (pre ++ (Recv k r s ∷ [])) u ≡ true) (sym z) (has_at pre (Recv k r s) []))) in
          has_without (Send k s r) (Send a b c) h.sends (λ z. ne (received a b c z))
          (h.all a b c (sym (unlike o l acc pre (Recv k r s) (Send a b c) (λ z. cc)) ∙ x) (sym (unlike o l acc pre (Recv k r s) (Recv a c b) ne) ∙ y));
    }
      where
        received : (a b c : ℕ) → Send a b c ≡ Send k s r → Recv a c b ≡ Recv k r s
        received a b c z = let i : a ≡ k = cc in let j : b ≡ s = cc in let m : c ≡ r = cc in ap (λ y. Recv y c b) i ∙ (ap (λ y. Recv k c y) j ∙ ap (λ y. Recv k y s) m)
    mail_more pre (Begin k r e) post n i h = still pre (Begin k r e) n (λ a b c z. cc) (λ a b c z. cc) h
    mail_more pre (End k r e) post n i h = still pre (End k r e) n (λ a b c z. cc) (λ a b c z. cc) h
    mail_more pre (Join k) post n i h = still pre (Join k) n (λ a b c z. cc) (λ a b c z. cc) h

    all_mailed : (xs done post : List Step) (n : ℕ) → l ≡ done ++ (xs ++ post) → Mailed done n → Mailed (done ++ xs) (count_after (mail_step cells) n xs)
    all_mailed [] done post n e h = subst (λ z. Mailed z n) (sym (append-nil done)) h
    all_mailed (t ∷ xs) done post n e h =
        subst (λ z. Mailed z (count_after (mail_step cells) (mail_step cells t n) xs)) (append_assoc done (t ∷ []) xs)
        (all_mailed xs (done ++ (t ∷ [])) post (mail_step cells t n) (e ∙ sym (append_assoc done (t ∷ []) (xs ++ post))) (mail_more done t (xs ++ post) n e h))

    pub receives_mailed : (pre post : List Step) (k r s : ℕ) → l ≡ pre ++ (Recv k r s ∷ post) → cells k s r ≤ count_after (mail_step cells) 0 pre
    receives_mailed pre post k r s i =
        let h : Mailed pre (count_after (mail_step cells) 0 pre) = all_mailed pre [] (Recv k r s ∷ post) 0 i (record { sends = []; sum = refl; all = λ a b c x y. absurd (false≢true x) }) in
        let g : total weight h.sends ≡ cells k s r + total weight (without (Send k s r) h.sends) =
        total_without weight (Send k s r) h.sends (waits pre post k r s (count_after (mail_step cells) 0 pre) i h) in
        let f : total weight h.sends ≡ count_after (mail_step cells) 0 pre = h.sum in
        omega arith
