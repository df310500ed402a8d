-- A token that is taken stands behind those before it.
use Rattle.std.proofs.Common.{◌≡◌, ℕ, ◌+◌, ◌^◌, ◌<◌, ◌≤◌, cond, inl, inr, nat_lt, List, [], ◌∷◌, ◌++◌, length, Option, Some, None, Ok, codes, refl, sym, ap, subst, ◌∙◌, arith, append_assoc, append-nil, length-append}
use Rattle.std.specs.Str.{bytes_eq}
use Rattle.std.proofs.lemmas.Bool.Decides.{nat_tests}
use Rattle.op_num.specs.Spelling.{number_of}
use Rattle.op_num.specs.Cut.{Word}
use Rattle.op_num.specs.Automaton.{onto}
use Rattle.op_num.proofs.Public.{onto_is}
use Rattle.schedule_steps.specs.declared.step.Step.{Step}
use Rattle.schedule_steps.specs.declared.step.Step.TheVariants as taken
use Rattle.schedule_steps.specs.declared.text.lines.Line.{Line}
use Rattle.schedule_steps.specs.declared.text.lines.TheConstants.{SCHEDULE_STEPS}
use Rattle.schedule_steps.specs.declared.text.refusals.ScheduleTextRefusal.TheVariants.{Header, Syntax, TooManySteps}
use Rattle.schedule_steps.specs.declared.text.token.RankWord.{RankWord}
use Rattle.schedule_steps.specs.declared.text.token.RankWord.TheVariants as word
use Rattle.schedule_steps.specs.declared.text.token.StepWord.{StepWord}
use Rattle.schedule_steps.specs.declared.text.token.StepWord.TheVariants.{Rank, Join}
use Rattle.schedule_steps.specs.declared.text.token.Keyword.{Keyword}
use Rattle.schedule_steps.specs.declared.text.token.Keyword.TheVariants as keyword
use Rattle.schedule_steps.specs.Token.{is_magic, is_version, rank_word_of, keyword_by, keyword_of, rank_text, word_text}
use Rattle.schedule_steps.specs.Spelling.{word_of, numbers_of, at_line, IsNumber, AreNumbers, IsStep, AreSteps, AreSchedule}
use Rattle.schedule_steps.specs.Reading.{Begun, First, Second, Third, State, Magic, Version, Between, Numbers, End, step_of, opened, began, numbered, grown, first_word, so_far, step, Stands}
use Rattle.schedule_steps.proofs.text.Running.{step-between, step-numbers, step-end}
use Rattle.lemmas.proofs.Lists.{bytes_eq_same}
use Rattle.lemmas.proofs.Truth.{cond_cases, ok_then}

-- ---- what a token said

rank_is : (text : List ℕ) (r : RankWord) → rank_word_of text ≡ Some r → text ≡ rank_text r
rank_is text r h = elim (cond_cases (bytes_eq text (codes "begin")) (Some word.Begin)
    (cond (bytes_eq text (codes "end")) (Some word.End)
    (cond (bytes_eq text (codes "send")) (Some word.Send) (cond (bytes_eq text (codes "recv")) (Some word.Recv) None))) (Some r) h) [
      | inl k ↦ let e : word.Begin ≡ r = cc in bytes_eq_same text (codes "begin") k.0 ∙ ap rank_text e
      | inr k ↦ elim (cond_cases (bytes_eq text (codes "end")) (Some word.End)
          (cond (bytes_eq text (codes "send")) (Some word.Send) (cond (bytes_eq text (codes "recv")) (Some word.Recv) None)) (Some r) k.1) [
            | inl m ↦ let e : word.End ≡ r = cc in bytes_eq_same text (codes "end") m.0 ∙ ap rank_text e
            | inr m ↦ elim (cond_cases (bytes_eq text (codes "send")) (Some word.Send) (cond (bytes_eq text (codes "recv")) (Some word.Recv) None) (Some r) m.1) [
              | inl n ↦ let e : word.Send ≡ r = cc in bytes_eq_same text (codes "send") n.0 ∙ ap rank_text e
              | inr n ↦ elim (cond_cases (bytes_eq text (codes "recv")) (Some word.Recv) None (Some r) n.1) [
                | inl o ↦ let e : word.Recv ≡ r = cc in bytes_eq_same text (codes "recv") o.0 ∙ ap rank_text e
                | inr o ↦ absurd (cc o.1)
              ]
            ]
          ]
    ]

-- the bytes of a word
abbrev pub key_text : Keyword → List ℕ
key_text (keyword.Step w) = word_text w
key_text keyword.Done = codes "done"

keyword_is : (text : List ℕ) (k : Keyword) → keyword_of text ≡ Some k → text ≡ key_text k
keyword_is text k h = go (rank_word_of text) refl h
  where
    go : (o : Option RankWord) → rank_word_of text ≡ o → keyword_by text o ≡ Some k → text ≡ key_text k
    go (Some r) e h = let m : keyword.Step (Rank r) ≡ k = cc in rank_is text r e ∙ ap key_text m
    go None e h = elim (cond_cases (bytes_eq text (codes "join")) (Some (keyword.Step Join)) (cond (bytes_eq text (codes "done")) (Some keyword.Done) None) (Some k) h) [
      | inl a ↦ let m : keyword.Step Join ≡ k = cc in bytes_eq_same text (codes "join") a.0 ∙ ap key_text m
      | inr a ↦ elim (cond_cases (bytes_eq text (codes "done")) (Some keyword.Done) None (Some k) a.1) [
        | inl b ↦ let m : keyword.Done ≡ k = cc in bytes_eq_same text (codes "done") b.0 ∙ ap key_text m
        | inr b ↦ absurd (cc b.1)
      ]
    ]

opened_done : (n : ℕ) (k : Option Keyword) (line : ℕ) → opened n k line ≡ Ok None → k ≡ Some keyword.Done
unfolding opened
opened_done n None line h = cc
opened_done n (Some keyword.Done) line h = refl
opened_done n (Some (keyword.Step w)) line h = let a = ok_then (nat_lt n SCHEDULE_STEPS) (Ok (Some w)) TooManySteps None h in absurd (cc a.1)

opened_step : (n : ℕ) (k : Option Keyword) (line : ℕ) (v : StepWord) → opened n k line ≡ Ok (Some v) → (k ≡ Some (keyword.Step v)) × (n < SCHEDULE_STEPS)
unfolding opened
opened_step n None line v h = cc
opened_step n (Some keyword.Done) line v h = cc
opened_step n (Some (keyword.Step w)) line v h =
    let a = ok_then (nat_lt n SCHEDULE_STEPS) (Ok (Some w)) TooManySteps (Some v) h in
    let t = a.0 in
    let low : n < SCHEDULE_STEPS = grind (arith, nat_tests) in
    let e : w ≡ v = cc (a.1) in
    (ap (λ x. Some (keyword.Step x)) e, low)

numbered_is : (o : Option ℕ) (line n : ℕ) → numbered o line ≡ Ok n → (o ≡ Some n) × (n < 2 ^ 32)
unfolding numbered
numbered_is None line n h = cc
numbered_is (Some m) line n h =
    let a = ok_then (nat_lt m (2 ^ 32)) (Ok m) (Syntax line) n h in
    let t = a.0 in
    let low : m < 2 ^ 32 = grind (arith, nat_tests) in
    let e : m ≡ n = cc (a.1) in
    (ap Some e, subst (λ x. x < 2 ^ 32) e low)

-- ---- one token more

with_one : (ws front back : List Word) (w : Word) → ws ≡ front ++ back → ws ++ w ∷ [] ≡ front ++ (back ++ w ∷ [])
with_one ws front back w s = ap (λ xs. xs ++ w ∷ []) s ∙ append_assoc front back (w ∷ [])

numbers_more : (ws : List Word) (ns : List ℕ) (w : Word) (n : ℕ) → AreNumbers ws ns → IsNumber w n → AreNumbers (ws ++ w ∷ []) (ns ++ n ∷ [])
numbers_more [] [] w n a i = (i, tt)
numbers_more [] (m ∷ ns) w n a i = absurd a
numbers_more (v ∷ ws) [] w n a i = absurd a
numbers_more (v ∷ ws) (m ∷ ns) w n a i = (a.0, numbers_more ws ns w n a.1 i)

steps_more : (ws front : List Word) (ls : List Line) (l : Line) → AreSteps ws ls → IsStep front l → AreSteps (ws ++ front) (ls ++ l ∷ [])
steps_more ws front [] l a i = (front, [], (ap (λ xs. xs ++ front) a ∙ sym (append-nil front)), i, refl)
steps_more ws front (k ∷ ls) l a i = (a.0, a.1 ++ front, (ap (λ xs. xs ++ front) a.2 ∙ append_assoc a.0 a.1 front), a.3, steps_more a.1 front ls l a.4 i)

schedule_more : (ws front : List Word) (ls : List Line) (l : Line) → AreSchedule ws ls → IsStep front l → AreSchedule (ws ++ front) (ls ++ l ∷ [])
schedule_more ws front ls l p i = (p.0, p.1, p.2 ++ front, ap (λ xs. xs ++ front) p.3, p.4, p.5, steps_more p.2 front ls l p.6 i)

-- a whole step more
step_stands : (ws : List Word) (ls : List Line) (line : ℕ) (s : Step) (front : List Word) (w : Word) (numbers : List Word)
    → ws ≡ front ++ w ∷ numbers
    → AreSchedule front ls
    → length ls < SCHEDULE_STEPS
    → w.text ≡ word_of s
    → w.line ≡ line
    → AreNumbers numbers (numbers_of s)
    → Stands ws (Between (ls ++ at_line s line ∷ []))
step_stands ws ls line s front w numbers whole part room text on are =
    let len : length (ls ++ at_line s line ∷ []) ≡ length ls + 1 = length-append ls (at_line s line ∷ []) in
    let within : length (ls ++ at_line s line ∷ []) ≤ SCHEDULE_STEPS = omega arith in
    (subst (λ xs. AreSchedule xs (ls ++ at_line s line ∷ [])) (sym whole) (schedule_more front (w ∷ numbers) ls (at_line s line) part (text, on, are)), within)

rank_word : (r : RankWord) (a b c : ℕ) → rank_text r ≡ word_of (step_of r a b c)
rank_word word.Send a b c = refl
rank_word word.Recv a b c = refl
rank_word word.Begin a b c = refl
rank_word word.End a b c = refl

pub rank_numbers : (r : RankWord) (a b c : ℕ) → a ∷ b ∷ c ∷ [] ≡ numbers_of (step_of r a b c)
rank_numbers word.Send a b c = refl
rank_numbers word.Recv a b c = refl
rank_numbers word.Begin a b c = refl
rank_numbers word.End a b c = refl

-- a number of a step more
grown_stands : (ws : List Word) (ls : List Line) (line : ℕ) (b : Begun) (n : ℕ) (front : List Word) (w : Word) (numbers : List Word)
    → ws ≡ front ++ w ∷ numbers
    → AreSchedule front ls
    → length ls < SCHEDULE_STEPS
    → w.text ≡ word_text (first_word b)
    → w.line ≡ line
    → AreNumbers numbers (so_far b ++ n ∷ [])
    → Stands ws (grown ls line b n)
grown_stands ws ls line (First (Rank r)) n front w numbers whole part room text on are = (front, w, numbers, whole, part, room, text, on, are)
grown_stands ws ls line (First Join) n front w numbers whole part room text on are = step_stands ws ls line (taken.Join n) front w numbers whole part room text on are
grown_stands ws ls line (Second r a) n front w numbers whole part room text on are = (front, w, numbers, whole, part, room, text, on, are)
grown_stands ws ls line (Third r a b) n front w numbers whole part room text on are =
    step_stands ws ls line (step_of r a b n) front w numbers whole part room (text ∙ rank_word r a b n) on (subst (AreNumbers numbers) (rank_numbers r a b n) are)

-- ---- each state

behind_magic : (q : State) (ws : List Word) (w : Word) → ws ≡ [] → step Magic w ≡ Ok q → Stands (ws ++ w ∷ []) q
unfolding step
behind_magic q ws w s h =
    let a = ok_then (is_magic w.text) (Ok Version) (Header w.line) q h in
    let e : Version ≡ q = cc (a.1) in
    let stands : Stands (ws ++ w ∷ []) Version = (w, ap (λ xs. xs ++ w ∷ []) s, bytes_eq_same w.text (codes "op2sched") a.0) in
    subst (Stands (ws ++ w ∷ [])) e stands

behind_version : (q : State) (ws : List Word) (w : Word) → Stands ws Version → step Version w ≡ Ok q → Stands (ws ++ w ∷ []) q
unfolding step
behind_version q ws w s h =
    let a = ok_then (is_version w.text) (Ok (Between [])) (Header w.line) q h in
    let e : Between [] ≡ q = cc (a.1) in
    let part : AreSchedule (ws ++ w ∷ []) [] = (s.0, w, [], ap (λ xs. xs ++ w ∷ []) s.1, s.2, bytes_eq_same w.text (codes "1") a.0, refl) in
    let stands : Stands (ws ++ w ∷ []) (Between []) = (part, omega arith) in
    subst (Stands (ws ++ w ∷ [])) e stands

behind_word : (ls : List Line) (q : State) (ws : List Word) (w : Word)
    → Stands ws (Between ls)
    → onto (opened (length ls) (keyword_of w.text) w.line) (began ls w.line) ≡ Ok q
    → Stands (ws ++ w ∷ []) q
behind_word ls q ws w s h =
    let o = onto_is (opened (length ls) (keyword_of w.text) w.line) (began ls w.line) q h in
    subst (Stands (ws ++ w ∷ [])) o.2 (go o.0 o.1)
  where
    go : (x : Option StepWord) → opened (length ls) (keyword_of w.text) w.line ≡ Ok x → Stands (ws ++ w ∷ []) (began ls w.line x)
    go None t = (ws, w, refl, keyword_is w.text keyword.Done (opened_done (length ls) (keyword_of w.text) w.line t), s)
    go (Some v) t =
        let k = opened_step (length ls) (keyword_of w.text) w.line v t in
        (ws, w, [], refl, s.0, k.1, keyword_is w.text (keyword.Step v) k.0, refl, tt)

behind_number : (ls : List Line) (line : ℕ) (b : Begun) (q : State) (ws : List Word) (w : Word)
    → Stands ws (Numbers ls line b)
    → onto (numbered (number_of w.text) w.line) (grown ls line b) ≡ Ok q
    → Stands (ws ++ w ∷ []) q
behind_number ls line b q ws w s h =
    let o = onto_is (numbered (number_of w.text) w.line) (grown ls line b) q h in
    let v = numbered_is (number_of w.text) w.line o.0 o.1 in
    subst (Stands (ws ++ w ∷ [])) o.2
    (grown_stands (ws ++ w ∷ []) ls line b o.0 s.0 s.1 (s.2 ++ w ∷ []) (with_one ws s.0 (s.1 ∷ s.2) w s.3) s.4 s.5 s.6 s.7 (numbers_more s.2 (so_far b) w o.0 s.8 v))

-- A token that may stand there stands behind those before it.
pub stands_on : (p q : State) (ws : List Word) (w : Word) → Stands ws p → step p w ≡ Ok q → Stands (ws ++ w ∷ []) q
stands_on Magic q ws w s h = behind_magic q ws w s h
stands_on Version q ws w s h = behind_version q ws w s h
stands_on (Between ls) q ws w s h = behind_word ls q ws w s (sym (step-between ls w) ∙ h)
stands_on (Numbers ls line b) q ws w s h = behind_number ls line b q ws w s (sym (step-numbers ls line b w) ∙ h)
stands_on (End ls) q ws w s h = cc (step-end ls w)
