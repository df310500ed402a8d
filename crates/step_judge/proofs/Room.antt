-- The counts stay within their types.
use Rattle.std.proofs.Common.{◌≡◌, ℕ, ◌+◌, ◌*◌, ◌^◌, ◌<◌, ◌≤◌, Bool, true, false, cond, refl, sym, ap, subst, ◌∙◌, arith, ⊎_elim, List, [], ◌∷◌, Err}
use Rattle.std.specs.Prelude.{◌||◌, not, slice_index, slice_index_or, Ok}
use Rattle.std.proofs.lemmas.Bool.{cases_Bool, false≢true, or_cases, or_left, or_right, cond-true, cond-false}
use Rattle.std.proofs.lemmas.Nat.{mul-le}
use Rattle.schedule_steps.specs.Outline.{Outline}
use Rattle.schedule_steps.specs.declared.step.Step.{Step}
use Rattle.schedule_steps.specs.declared.step.Step.TheVariants.{Send, Recv, Begin, End, Join}
use Rattle.schedule_steps.specs.Steps.{same, has}
use Rattle.schedule_steps.specs.Members.{same_true, same_refl}
use Rattle.schedule_steps.specs.Standard.{one_if}
use Rattle.schedule_steps.specs.Judged.{is_step, missing}
use Rattle.schedule_steps.specs.Peaks.{open_step, mail_step}
use Rattle.step_judge.specs.Load.{HasCells}
use Rattle.step_judge.specs.Marked.{Marked, outline_of, taken, TakesOne}
use Rattle.step_judge.specs.declared.refusal.ScheduleRefusal.TheVariants.{NoSuchStep, Repeated}
use Rattle.step_judge.specs.Verdicts.{too_early, judged}
use Rattle.step_judge.specs.Checking.{cells_in, step_cells, untaken, HasRoom}

-- what is taken stays taken
fewer : (m n : Step → Bool) (l : List Step) → ((t : Step) → m t ≡ true → n t ≡ true) → untaken n l ≤ untaken m l
fewer m n [] h = omega arith
fewer m n (s ∷ l) h =
    let r : untaken n l ≤ untaken m l = fewer m n l h in
    let here : one_if (not (n s)) ≤ one_if (not (m s)) = ⊎_elim
    (λ (e : n s ≡ true). subst (λ b. one_if (not b) ≤ one_if (not (m s))) (sym e) (omega arith))
    (λ (e : n s ≡ false). (let f : m s ≡ false = ⊎_elim (λ i. absurd (false≢true (sym e ∙ h s i))) (λ i. i) (cases_Bool (m s)) in
    subst (λ b. one_if (not b) ≤ one_if (not (m s))) (sym e) (subst (λ b. 1 ≤ one_if (not b)) (sym f) (omega arith))))
    (cases_Bool (n s)) in
    omega arith

-- a step more is taken
pub one_fewer : (m n : Step → Bool) (l : List Step) (s : Step) → ((t : Step) → n t ≡ (same t s || m t)) → n s ≡ true → m s ≡ false → has l s ≡ true
    → untaken n l + 1 ≤ untaken m l
one_fewer m n [] s h new old i = absurd (false≢true i)
one_fewer m n (t ∷ l) s h new old i = ⊎_elim
    (λ (e : same s t ≡ true).
    let q : s ≡ t = same_true s t e in
    let a : one_if (not (n t)) ≡ 0 = ap (λ b. one_if (not b)) (ap n (sym q) ∙ new) in
    let b : one_if (not (m t)) ≡ 1 = ap (λ b. one_if (not b)) (ap m (sym q) ∙ old) in
    let r : untaken n l ≤ untaken m l = stay l in
    omega arith)
    (λ (e : has l s ≡ true).
    let r : untaken n l + 1 ≤ untaken m l = one_fewer m n l s h new old e in
    let a : untaken n (t ∷ []) ≤ untaken m (t ∷ []) = stay (t ∷ []) in
    omega arith)
    (or_cases (same s t) (has l s) i)
  where
    stay : (l : List Step) → untaken n l ≤ untaken m l
    stay l = fewer m n l (λ t e. h t ∙ or_right (same t s) (m t) e)

-- what is judged well is a step that isn't taken
pub judged_well : (o : Outline) (m : Step → Bool) (s : Step) → Ok tt ≡ judged o m s → (is_step o s ≡ true) × (m s ≡ false)
judged_well o m s h = ⊎_elim
    (λ (u : is_step o s ≡ true). ⊎_elim
    (λ (t : m s ≡ true). (let e : Ok tt ≡ Err Repeated = h
    ∙ (cond-true (is_step o s) (cond (m s) (Err Repeated) (too_early (missing o m s))) (Err NoSuchStep) u
    ∙ cond-true (m s) (Err Repeated) (too_early (missing o m s)) t) in cc))
    (λ (t : m s ≡ false). (u, t))
    (cases_Bool (m s)))
    (λ (u : is_step o s ≡ false). (let e : Ok tt ≡ Err NoSuchStep = h ∙ cond-false (is_step o s) (cond (m s) (Err Repeated) (too_early (missing o m s))) (Err NoSuchStep) u in cc))
    (cases_Bool (is_step o s))

opens_one : (s : Step) (n : ℕ) → open_step s n ≤ n + 1
opens_one (Send k a b) n = omega arith
opens_one (Recv k a b) n = omega arith
opens_one (Begin k a b) n = omega arith
opens_one (End k a b) n = omega arith
opens_one (Join k) n = omega arith

mails_most : (f : ℕ → ℕ → ℕ → ℕ) (most : ℕ) → ((k s r : ℕ) → f k s r ≤ most) → (s : Step) (n : ℕ) → mail_step f s n ≤ n + most
mails_most f most h (Send k a b) n = (let l : f k a b ≤ most = h k a b in omega arith)
mails_most f most h (Recv k a b) n = omega arith
mails_most f most h (Begin k a b) n = omega arith
mails_most f most h (End k a b) n = omega arith
mails_most f most h (Join k) n = omega arith

module _ (v w : Marked) (cells : List (List ℕ)) (n u : ℕ) (s : Step) (room : HasRoom v cells n u) (takes : TakesOne v w s)
    (planned : is_step (outline_of v) s ≡ true) (open_step' : taken v s ≡ false) where
  drops : untaken (taken w) room.all + 1 ≤ untaken (taken v) room.all
  drops = one_fewer (taken v) (taken w) room.all s takes.marks (takes.marks s ∙ or_left (same s s) (taken v s) (same_refl s)) open_step' (room.whole s planned)

  grows : room.most * untaken (taken w) room.all + room.most ≤ room.most * untaken (taken v) room.all
  grows = (let l : room.most * (untaken (taken w) room.all + 1) ≤ room.most * untaken (taken v) room.all =
      mul-le room.most (untaken (taken w) room.all + 1) room.most (untaken (taken v) room.all) (omega arith) drops in
      let e : room.most * (untaken (taken w) room.all + 1) ≡ room.most * untaken (taken w) room.all + room.most = grind arith in omega arith)

  -- there is room for the step
  pub one_fits : n + 1 < 2 ^ 32
  one_fits = (let d : untaken (taken w) room.all + 1 ≤ untaken (taken v) room.all = drops in let f : n + untaken (taken v) room.all < 2 ^ 32 = room.frames in omega arith)

  pub message_fits : (c : ℕ) → c ≤ room.most → u + c < 2 ^ 64
  message_fits c l = (let g : room.most * untaken (taken w) room.all + room.most ≤ room.most * untaken (taken v) room.all = grows in
      let f : u + room.most * untaken (taken v) room.all < 2 ^ 64 = room.mail in omega arith)

  same_cells : (k a b : ℕ) → cells_in cells w k a b ≡ cells_in cells v k a b
  same_cells k a b = ap (λ z. slice_index (slice_index_or cells k []) z) (takes.pairs k a b)

  -- and room for the others behind it
  pub room_after : HasRoom w cells (open_step s n) (mail_step (cells_in cells v) s u)
  room_after = record {
    all = room.all;
    most = room.most;
    whole = λ t h. room.whole t (sym (takes.steps t) ∙ h);
    messages = λ k a b. subst (λ z. z ≤ room.most) (sym (same_cells k a b)) (room.messages k a b);
    frames = (let o : open_step s n ≤ n + 1 = opens_one s n in let d : untaken (taken w) room.all + 1 ≤ untaken (taken v) room.all = drops
        in let f : n + untaken (taken v) room.all < 2 ^ 32 = room.frames in omega arith);
    mail = (let o : mail_step (cells_in cells v) s u ≤ u + room.most = mails_most (cells_in cells v) room.most room.messages s u in
        let g : room.most * untaken (taken w) room.all + room.most ≤ room.most * untaken (taken v) room.all = grows in
        let f : u + room.most * untaken (taken v) room.all < 2 ^ 64 = room.mail in omega arith);
  }

-- the cells of a step's message
pub has_cells : (f : ℕ → ℕ → ℕ → ℕ) (s : Step) → HasCells f s (step_cells f s)
has_cells f (Send k a b) = refl
has_cells f (Recv k a b) = refl
has_cells f (Begin k a b) = tt
has_cells f (End k a b) = tt
has_cells f (Join k) = tt

pub at_most : (f : ℕ → ℕ → ℕ → ℕ) (most : ℕ) → ((k a b : ℕ) → f k a b ≤ most) → (s : Step) → step_cells f s ≤ most
at_most f most h (Send k a b) = h k a b
at_most f most h (Recv k a b) = h k b a
at_most f most h (Begin k a b) = omega arith
at_most f most h (End k a b) = omega arith
at_most f most h (Join k) = omega arith
