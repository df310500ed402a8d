-- The tokens that can stand in front of a state lead to it.
use Rattle.std.proofs.Common.{◌≡◌, ℕ, ◌+◌, ◌^◌, ◌<◌, ◌≤◌, true, cond, nat_lt, List, [], ◌∷◌, ◌++◌, length, Option, Some, None, Ok, Err, codes, refl, sym, ap, subst, ◌∙◌, arith, append_assoc, append-nil, length-append}
use Rattle.std.proofs.lemmas.Bool.Decides.{nat_tests}
use Rattle.op_num.specs.Spelling.{number_of}
use Rattle.op_num.specs.Cut.{Word}
use Rattle.op_num.specs.Automaton.{onto}
use Rattle.op_num.proofs.Public.{through, through-none, through-more, through-both}
use Rattle.schedule_steps.specs.declared.step.Step.{Step}
use Rattle.schedule_steps.specs.declared.step.Step.TheVariants as taken
use Rattle.schedule_steps.specs.declared.text.lines.Line.{Line}
use Rattle.schedule_steps.specs.declared.text.lines.TheConstants.{SCHEDULE_STEPS}
use Rattle.schedule_steps.specs.declared.text.refusals.ScheduleTextRefusal.TheVariants.{Syntax, TooManySteps}
use Rattle.schedule_steps.specs.declared.text.token.RankWord.{RankWord}
use Rattle.schedule_steps.specs.declared.text.token.RankWord.TheVariants as word
use Rattle.schedule_steps.specs.declared.text.token.StepWord.{StepWord}
use Rattle.schedule_steps.specs.declared.text.token.StepWord.TheVariants.{Rank, Join}
use Rattle.schedule_steps.specs.declared.text.token.Keyword.TheVariants as keyword
use Rattle.schedule_steps.specs.Token.{keyword_of, word_text}
use Rattle.schedule_steps.specs.Spelling.{word_of, numbers_of, at_line, IsNumber, AreNumbers, IsStep, AreSteps}
use Rattle.schedule_steps.specs.Reading.{Begun, First, Second, Third, State, Magic, Version, Between, Numbers, End, step_of, opened, began, numbered, grown, first_word, so_far, step, finish, AreSome, Stands}
use Rattle.schedule_steps.proofs.text.Running.{step-magic, step-version, step-between, step-numbers}
use Rattle.lemmas.proofs.Lists.{bytes_eq_from}

-- the tokens lead from one state to the other
abbrev pub Goes : State → List Word → State → Type 0
Goes p ws q = through step finish p ws ≡ Ok q

goes_nowhere : (p : State) → Goes p [] p
goes_nowhere p = through-none step finish p

-- one token, and more
goes_on : (p q r : State) (w : Word) (ws : List Word) → step p w ≡ Ok q → Goes q ws r → Goes p (w ∷ ws) r
goes_on p q r w ws k a = through-more step finish p q w ws k ∙ a

magic_on : (w : Word) → w.text ≡ codes "op2sched" → step Magic w ≡ Ok Version
magic_on w e = step-magic w (bytes_eq_from w.text (codes "op2sched") e)

version_on : (w : Word) → w.text ≡ codes "1" → step Version w ≡ Ok (Between [])
version_on w e = step-version w (bytes_eq_from w.text (codes "1") e)

-- ---- a step's first word, or `done`

keyword_found : (v : StepWord) → keyword_of (word_text v) ≡ Some (keyword.Step v)
keyword_found (Rank word.Send) = refl
keyword_found (Rank word.Recv) = refl
keyword_found (Rank word.Begin) = refl
keyword_found (Rank word.End) = refl
keyword_found Join = refl

opens : (n line : ℕ) (v : StepWord) → n < SCHEDULE_STEPS → opened n (Some (keyword.Step v)) line ≡ Ok (Some v)
unfolding opened
opens n line v h = let b : nat_lt n SCHEDULE_STEPS ≡ true = grind (arith, nat_tests) in ap (λ x. cond x (Ok (Some v)) (Err TooManySteps)) b

closes : (n line : ℕ) → opened n (Some keyword.Done) line ≡ Ok None
unfolding opened
closes n line = refl

word_on : (ls : List Line) (w : Word) (v : StepWord) → w.text ≡ word_text v → length ls < SCHEDULE_STEPS → step (Between ls) w ≡ Ok (Numbers ls w.line (First v))
word_on ls w v e h =
    step-between ls w
    ∙ ap (λ k. onto (opened (length ls) k w.line) (began ls w.line)) (ap keyword_of e ∙ keyword_found v)
    ∙ ap (λ r. onto r (began ls w.line)) (opens (length ls) w.line v h)

done_on : (ls : List Line) (w : Word) → w.text ≡ codes "done" → step (Between ls) w ≡ Ok (End ls)
done_on ls w e =
    step-between ls w
    ∙ ap (λ t. onto (opened (length ls) (keyword_of t) w.line) (began ls w.line)) e
    ∙ ap (λ r. onto r (began ls w.line)) (closes (length ls) w.line)

-- ---- its numbers

number_found : (o : Option ℕ) (line n : ℕ) → o ≡ Some n → n < 2 ^ 32 → numbered o line ≡ Ok n
unfolding numbered
number_found o line n e l =
    let b : nat_lt n (2 ^ 32) ≡ true = grind (arith, nat_tests) in
    ap (λ x. numbered x line) e ∙ ap (λ x. cond x (Ok n) (Err (Syntax line))) b

number_on : (ls : List Line) (line : ℕ) (b : Begun) (w : Word) (n : ℕ) → IsNumber w n → step (Numbers ls line b) w ≡ Ok (grown ls line b n)
number_on ls line b w n i = step-numbers ls line b w ∙ ap (λ r. onto r (grown ls line b)) (number_found (number_of w.text) w.line n i.0 i.1)

-- the last number that the step so far needs
goes_last : (ls : List Line) (line : ℕ) (b : Begun) (q : State) (n : ℕ) (ws : List Word) → AreNumbers ws (n ∷ []) → grown ls line b n ≡ q → Goes (Numbers ls line b) ws q
goes_last ls line b q n [] a e = absurd a
goes_last ls line b q n (w ∷ []) a e = goes_on (Numbers ls line b) (grown ls line b n) q w [] (number_on ls line b w n a.0) (goes_nowhere (grown ls line b n) ∙ ap Ok e)
goes_last ls line b q n (w ∷ v ∷ ws) a e = absurd a.1

-- a number, and more
goes_number : (ls : List Line) (line : ℕ) (b : Begun) (q : State) (n : ℕ) (ns : List ℕ) (ws : List Word)
    → AreNumbers ws (n ∷ ns)
    → ((vs : List Word) → AreNumbers vs ns → Goes (grown ls line b n) vs q)
    → Goes (Numbers ls line b) ws q
goes_number ls line b q n ns [] a k = absurd a
goes_number ls line b q n ns (w ∷ ws) a k = goes_on (Numbers ls line b) (grown ls line b n) q w ws (number_on ls line b w n a.0) (k ws a.1)

goes_three : (ls : List Line) (line : ℕ) (r : RankWord) (a b c : ℕ) (ws : List Word)
    → AreNumbers ws (a ∷ b ∷ c ∷ [])
    → Goes (Numbers ls line (First (Rank r))) ws (Between (ls ++ at_line (step_of r a b c) line ∷ []))
goes_three ls line r a b c ws h =
    let q = Between (ls ++ at_line (step_of r a b c) line ∷ []) in
    goes_number ls line (First (Rank r)) q a (b ∷ c ∷ []) ws h
    (λ vs k. goes_number ls line (Second r a) q b (c ∷ []) vs k (λ us m. goes_last ls line (Third r a b) q c us m refl))

-- the first word of a step
abbrev begins : Step → StepWord
begins (taken.Send k s r) = Rank word.Send
begins (taken.Recv k r s) = Rank word.Recv
begins (taken.Begin k r p) = Rank word.Begin
begins (taken.End k r p) = Rank word.End
begins (taken.Join k) = Join

begins_so : (s : Step) → word_of s ≡ word_text (begins s)
begins_so (taken.Send k s r) = refl
begins_so (taken.Recv k r s) = refl
begins_so (taken.Begin k r p) = refl
begins_so (taken.End k r p) = refl
begins_so (taken.Join k) = refl

goes_numbers : (ls : List Line) (line : ℕ) (s : Step) (ws : List Word) → AreNumbers ws (numbers_of s) → Goes (Numbers ls line (First (begins s))) ws (Between (ls ++ at_line s line ∷ []))
goes_numbers ls line (taken.Send k s r) ws a = goes_three ls line word.Send k s r ws a
goes_numbers ls line (taken.Recv k r s) ws a = goes_three ls line word.Recv k r s ws a
goes_numbers ls line (taken.Begin k r p) ws a = goes_three ls line word.Begin k r p ws a
goes_numbers ls line (taken.End k r p) ws a = goes_three ls line word.End k r p ws a
goes_numbers ls line (taken.Join k) ws a = goes_last ls line (First Join) (Between (ls ++ at_line (taken.Join k) line ∷ [])) k ws a refl

-- the numbers of a begun step
goes_begun : (ls : List Line) (line : ℕ) (b : Begun) (ws : List Word) → AreNumbers ws (so_far b) → Goes (Numbers ls line (First (first_word b))) ws (Numbers ls line b)
goes_begun ls line (First v) [] a = goes_nowhere (Numbers ls line (First v))
goes_begun ls line (First v) (w ∷ ws) a = absurd a
goes_begun ls line (Second r n) ws a = goes_last ls line (First (Rank r)) (Numbers ls line (Second r n)) n ws a refl
goes_begun ls line (Third r n m) ws a =
    goes_number ls line (First (Rank r)) (Numbers ls line (Third r n m)) n (m ∷ []) ws a (λ vs k. goes_last ls line (Second r n) (Numbers ls line (Third r n m)) m vs k refl)

-- ---- steps

goes_step : (ls : List Line) (ws : List Word) (l : Line) → IsStep ws l → length ls < SCHEDULE_STEPS → Goes (Between ls) ws (Between (ls ++ l ∷ []))
goes_step ls [] l i h = absurd i
goes_step ls (w ∷ ws) l i h =
    goes_on (Between ls) (Numbers ls w.line (First (begins l.step))) (Between (ls ++ l ∷ [])) w ws
    (word_on ls w (begins l.step) (i.0 ∙ begins_so l.step) h)
    (subst (λ n. Goes (Numbers ls n (First (begins l.step))) ws (Between (ls ++ l ∷ []))) (sym i.1) (goes_numbers ls l.line l.step ws i.2))

goes_steps : (before : List Line) (ws : List Word) (ls : List Line) → AreSteps ws ls → length (before ++ ls) ≤ SCHEDULE_STEPS → Goes (Between before) ws (Between (before ++ ls))
goes_steps before ws [] a m = subst (λ xs. Goes (Between before) xs (Between (before ++ []))) (sym a) (goes_nowhere (Between before) ∙ ap (λ xs. Ok (Between xs)) (sym (append-nil before)))
goes_steps before ws (l ∷ ls) a m =
    let len : length (before ++ l ∷ ls) ≡ length before + length (l ∷ ls) = length-append before (l ∷ ls) in
    let room : length before < SCHEDULE_STEPS = omega arith in
    let more : length (before ++ l ∷ [] ++ ls) ≤ SCHEDULE_STEPS = subst (λ xs. length xs ≤ SCHEDULE_STEPS) (sym (append_assoc before (l ∷ []) ls)) m in
    subst (λ xs. Goes (Between before) xs (Between (before ++ l ∷ ls))) (sym a.2)
    (through-both step finish a.0 a.1 (Between before) (Between (before ++ l ∷ [])) (Between (before ++ l ∷ ls)) (goes_step before a.0 l a.3 room)
    (subst (λ xs. Goes (Between (before ++ l ∷ [])) a.1 (Between xs)) (append_assoc before (l ∷ []) ls) (goes_steps (before ++ l ∷ []) a.1 ls a.4 more)))

goes_schedule : (ws : List Word) (ls : List Line) → AreSome ws ls → Goes Magic ws (Between ls)
goes_schedule ws ls s =
    let p = s.0 in
    subst (λ xs. Goes Magic xs (Between ls)) (sym p.3)
    (goes_on Magic Version (Between ls) p.0 (p.1 ∷ p.2) (magic_on p.0 p.4) (goes_on Version (Between []) (Between ls) p.1 p.2 (version_on p.1 p.5) (goes_steps [] p.2 ls p.6 s.1)))

-- ---- each state

goes_open : (ws : List Word) (ls : List Line) (line : ℕ) (b : Begun) → Stands ws (Numbers ls line b) → Goes Magic ws (Numbers ls line b)
goes_open ws ls line b s =
    let room : length ls < SCHEDULE_STEPS = s.5 in
    let within : length ls ≤ SCHEDULE_STEPS = omega arith in
    subst (λ xs. Goes Magic xs (Numbers ls line b)) (sym s.3)
    (through-both step finish s.0 (s.1 ∷ s.2) Magic (Between ls) (Numbers ls line b) (goes_schedule s.0 ls (s.4, within))
    (goes_on (Between ls) (Numbers ls s.1.line (First (first_word b))) (Numbers ls line b) s.1 s.2 (word_on ls s.1 (first_word b) s.6 room)
    (subst (λ n. Goes (Numbers ls n (First (first_word b))) s.2 (Numbers ls line b)) (sym s.7) (goes_begun ls line b s.2 s.8))))

pub stands_through : (p : State) (ws : List Word) → Stands ws p → through step finish Magic ws ≡ Ok p
stands_through Magic ws s = subst (λ xs. Goes Magic xs Magic) (sym s) (goes_nowhere Magic)
stands_through Version ws s = subst (λ xs. Goes Magic xs Version) (sym s.1) (goes_on Magic Version Version s.0 [] (magic_on s.0 s.2) (goes_nowhere Version))
stands_through (Between ls) ws s = goes_schedule ws ls s
stands_through (Numbers ls line b) ws s = goes_open ws ls line b s
stands_through (End ls) ws s =
    subst (λ xs. Goes Magic xs (End ls)) (sym s.2)
    (through-both step finish s.0 (s.1 ∷ []) Magic (Between ls) (End ls) (goes_schedule s.0 ls s.4) (goes_on (Between ls) (End ls) (End ls) s.1 [] (done_on ls s.1 s.3) (goes_nowhere (End ls))))
