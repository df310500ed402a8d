-- Written schedules.
use Rattle.std.specs.Prelude.{ℕ, ◌+◌, ◌^◌, ◌<◌, List, [], ◌∷◌, ◌++◌, map, codes}
use Rattle.std.specs.Fmt.{decimal}
use Rattle.op_num.specs.Lines.{text_of_lines}
use Rattle.schedule_steps.specs.declared.step.Step.{Step}
use Rattle.schedule_steps.specs.declared.text.lines.Line.{Line}
use Rattle.schedule_steps.specs.Spelling.{word_of, numbers_of, at_line}

-- the tokens of a step: its first word, and its numbers without leading zeros
abbrev pub tokens_of : Step → List (List ℕ)
tokens_of s = word_of s ∷ map decimal (numbers_of s)

-- the two tokens of the header
abbrev pub header : List (List ℕ)
header = codes "op2sched" ∷ codes "1" ∷ []

-- the lines of the text: the header, each step, and `done`
abbrev pub text_lines : List Step → List (List (List ℕ))
text_lines steps = header ∷ (map tokens_of steps ++ (codes "done" ∷ []) ∷ [])

-- the bytes of these lines
abbrev pub schedule_text : List Step → List ℕ
schedule_text steps = text_of_lines (text_lines steps)

-- the steps on lines that follow one another, of which the first has this number
abbrev pub one_a_line : ℕ → List Step → List Line
one_a_line line [] = []
one_a_line line (s ∷ steps) = at_line s line ∷ one_a_line (line + 1) steps

-- each of them is below 2 ^ 32
abbrev pub Fit : List ℕ → Type 0
Fit [] = Unit {0}
Fit (n ∷ ns) = (n < 2 ^ 32) × Fit ns

-- the numbers of each step are below 2 ^ 32
abbrev pub AllFit : List Step → Type 0
AllFit [] = Unit {0}
AllFit (s ∷ steps) = Fit (numbers_of s) × AllFit steps
