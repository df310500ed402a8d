-- Reading a schedule text: what is awaited, what a token does there, and the first token that may not stand where it does.
use Rattle.std.specs.Prelude.{◌≡◌, ℕ, ◌^◌, ◌<◌, ◌≤◌, nat_lt, List, [], ◌∷◌, ◌++◌, length, Option, Some, None, Result, Ok, Err, codes, if◌then◌else◌}
use Rattle.op_num.specs.Spelling.{number_of}
use Rattle.op_num.specs.Cut.{Word, Uncut, words}
use Rattle.op_num.specs.Automaton
use Rattle.op_num.specs.Automaton.{onto, RefusesAmong}
use Rattle.schedule_steps.specs.declared.step.Step.{Step}
use Rattle.schedule_steps.specs.declared.step.Step.TheVariants as taken
use Rattle.schedule_steps.specs.declared.text.lines.Line.{Line}
use Rattle.schedule_steps.specs.declared.text.lines.TheConstants.{SCHEDULE_STEPS}
use Rattle.schedule_steps.specs.declared.text.refusals.ScheduleTextRefusal.{ScheduleTextRefusal}
use Rattle.schedule_steps.specs.declared.text.refusals.ScheduleTextRefusal.TheVariants.{Header, Syntax, TooManySteps}
use Rattle.schedule_steps.specs.declared.text.token.RankWord.{RankWord}
use Rattle.schedule_steps.specs.declared.text.token.RankWord.TheVariants as word
use Rattle.schedule_steps.specs.declared.text.token.StepWord.{StepWord}
use Rattle.schedule_steps.specs.declared.text.token.StepWord.TheVariants.{Rank, Join}
use Rattle.schedule_steps.specs.declared.text.token.Keyword.{Keyword}
use Rattle.schedule_steps.specs.declared.text.token.Keyword.TheVariants as keyword
use Rattle.schedule_steps.specs.Token.{is_magic, is_version, keyword_of, word_text}
use Rattle.schedule_steps.specs.Spelling.{at_line, AreNumbers, AreSchedule, Spells}

-- a step of which the first word came, and the numbers before the one that is awaited
pub data Begun : Type 0 where
  First : StepWord → Begun
  Second : RankWord → ℕ → Begun
  Third : RankWord → ℕ → ℕ → Begun

-- What is awaited behind the steps so far: the two tokens of the header, a step or `done`, a number of a step whose first word
-- stands on a line, the end.
pub data State : Type 0 where
  Magic : State
  Version : State
  Between : List Line → State
  Numbers : List Line → ℕ → Begun → State
  End : List Line → State

-- the step of a rank with these numbers, in the order of the text
abbrev pub step_of : RankWord → ℕ → ℕ → ℕ → Step
step_of word.Send a b c = taken.Send a b c
step_of word.Recv a b c = taken.Recv a b c
step_of word.Begin a b c = taken.Begin a b c
step_of word.End a b c = taken.End a b c

-- behind a number of a step
abbrev pub grown : List Line → ℕ → Begun → ℕ → State
grown ls line (First (Rank r)) n = Numbers ls line (Second r n)
grown ls line (First Join) n = Between (ls ++ at_line (taken.Join n) line ∷ [])
grown ls line (Second r a) n = Numbers ls line (Third r a n)
grown ls line (Third r a b) n = Between (ls ++ at_line (step_of r a b n) line ∷ [])

-- the first word of a step behind that many others, or `done`
unfoldable pub opened : ℕ → Option Keyword → ℕ → Result (Option StepWord) ScheduleTextRefusal
opened count None line = Err (Syntax line)
opened count (Some keyword.Done) line = Ok None
opened count (Some (keyword.Step w)) line = if nat_lt count SCHEDULE_STEPS then Ok (Some w) else Err TooManySteps

-- behind such a word on this line
abbrev pub began : List Line → ℕ → Option StepWord → State
began ls line None = End ls
began ls line (Some w) = Numbers ls line (First w)

-- a number, in digits
unfoldable pub numbered : Option ℕ → ℕ → Result ℕ ScheduleTextRefusal
numbered None line = Err (Syntax line)
numbered (Some n) line = if nat_lt n (2 ^ 32) then Ok n else Err (Syntax line)

-- what is awaited behind a token, or why it may not stand where it does
unfoldable pub step : State → Word → Result State ScheduleTextRefusal
step Magic w = if is_magic w.text then Ok Version else Err (Header w.line)
step Version w = if is_version w.text then Ok (Between []) else Err (Header w.line)
step (Between ls) w = onto (opened (length ls) (keyword_of w.text) w.line) (began ls w.line)
step (Numbers ls line b) w = onto (numbered (number_of w.text) w.line) (grown ls line b)
step (End ls) w = Err (Syntax w.line)

-- the steps of a text, or why it is refused
abbrev pub Read : Type 0
Read = Result (List Line) ScheduleTextRefusal

-- no token is left, behind one on this line
abbrev pub finish : State → ℕ → Read
finish Magic line = Err (Header line)
finish Version line = Err (Header line)
finish (Between ls) line = Err (Syntax line)
finish (Numbers ls first b) line = Err (Syntax line)
finish (End ls) line = Ok ls

-- what reading the tokens to come gives, in this state
abbrev pub run_from : State → Uncut → Read
run_from p u = Automaton.run_from step finish p u

-- the first word of a begun step
abbrev pub first_word : Begun → StepWord
first_word (First w) = w
first_word (Second r a) = Rank r
first_word (Third r a b) = Rank r

-- the numbers of a step so far
abbrev pub so_far : Begun → List ℕ
so_far (First w) = []
so_far (Second r a) = a ∷ []
so_far (Third r a b) = a ∷ b ∷ []

-- the header and steps, no more than the limit
abbrev pub AreSome : List Word → List Line → Type 0
AreSome ws ls = AreSchedule ws ls × (length ls ≤ SCHEDULE_STEPS)

-- The tokens can stand at the front of a text, and this is awaited behind them.
abbrev pub Stands : List Word → State → Type 0
Stands ws Magic = ws ≡ []
Stands ws Version = (a : Word) × (ws ≡ a ∷ []) × (a.text ≡ codes "op2sched")
Stands ws (Between ls) = AreSome ws ls
Stands ws (Numbers ls line b) = (front : List Word) × (w : Word) × (numbers : List Word) × (ws ≡ front ++ w ∷ numbers)
    × AreSchedule front ls × (length ls < SCHEDULE_STEPS)
    × (w.text ≡ word_text (first_word b)) × (w.line ≡ line) × AreNumbers numbers (so_far b)
Stands ws (End ls) = (front : List Word) × (w : Word) × (ws ≡ front ++ w ∷ []) × (w.text ≡ codes "done") × AreSome front ls

-- The first token that may not stand where it does, or the end, is refused so.
abbrev pub Refuses : List ℕ → ScheduleTextRefusal → Type 0
Refuses bytes r = RefusesAmong step finish Stands (words 1 bytes) r

-- What a text comes to: the steps that it spells, within the limit, or its refusal.
abbrev pub Reads : List ℕ → Read → Type 0
Reads bytes (Ok ls) = Spells bytes ls × (length ls ≤ SCHEDULE_STEPS)
Reads bytes (Err r) = Refuses bytes r
