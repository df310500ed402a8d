-- The tokens of steps.
use Rattle.std.specs.Prelude.{◌≡◌, ℕ, ◌^◌, ◌<◌, List, [], ◌∷◌, ◌++◌, Some, codes}
use Rattle.op_num.specs.Spelling.{number_of}
use Rattle.op_num.specs.Cut.{Word, words}
use Rattle.schedule_steps.specs.declared.step.Step.{Step}
use Rattle.schedule_steps.specs.declared.step.Step.TheVariants.{Send, Recv, Begin, End, Join}
use Rattle.schedule_steps.specs.declared.text.lines.Line.{Line}

-- the first word of a step
abbrev pub word_of : Step → List ℕ
word_of (Send k s r) = codes "send"
word_of (Recv k r s) = codes "recv"
word_of (Begin k r p) = codes "begin"
word_of (End k r p) = codes "end"
word_of (Join k) = codes "join"

-- the numbers of a step, in the order of the text
abbrev pub numbers_of : Step → List ℕ
numbers_of (Send k s r) = k ∷ s ∷ r ∷ []
numbers_of (Recv k r s) = k ∷ r ∷ s ∷ []
numbers_of (Begin k r p) = k ∷ r ∷ p ∷ []
numbers_of (End k r p) = k ∷ r ∷ p ∷ []
numbers_of (Join k) = k ∷ []

-- the step, whose first word stands on this line
abbrev pub at_line : Step → ℕ → Line
at_line s line = record { step = s; line = line }

-- the token is this number: digits, leading zeros allowed, with a value below 2 ^ 32
abbrev pub IsNumber : Word → ℕ → Type 0
IsNumber w n = (number_of w.text ≡ Some n) × (n < 2 ^ 32)

-- the tokens are these numbers
abbrev pub AreNumbers : List Word → List ℕ → Type 0
AreNumbers [] [] = Unit {0}
AreNumbers [] (n ∷ ns) = ⊥
AreNumbers (w ∷ ws) [] = ⊥
AreNumbers (w ∷ ws) (n ∷ ns) = IsNumber w n × AreNumbers ws ns

-- the tokens of a step: its first word, on its line, and its numbers
abbrev pub IsStep : List Word → Line → Type 0
IsStep [] l = ⊥
IsStep (w ∷ ws) l = (w.text ≡ word_of l.step) × (w.line ≡ l.line) × AreNumbers ws (numbers_of l.step)

-- the tokens of steps
abbrev pub AreSteps : List Word → List Line → Type 0
AreSteps ws [] = ws ≡ []
AreSteps ws (l ∷ ls) = (front : List Word) × (rest : List Word) × (ws ≡ front ++ rest) × IsStep front l × AreSteps rest ls

-- the two tokens of the header, and steps
abbrev pub AreSchedule : List Word → List Line → Type 0
AreSchedule ws ls = (a : Word) × (b : Word) × (body : List Word) × (ws ≡ a ∷ b ∷ body)
    × (a.text ≡ codes "op2sched") × (b.text ≡ codes "1") × AreSteps body ls

-- The bytes, cut into tokens at blanks, are the header, the tokens of the steps, and `done`.
abbrev pub Spells : List ℕ → List Line → Type 0
Spells bytes ls = (ws : List Word) × (w : Word) × (words 1 bytes ≡ ws ++ w ∷ []) × (w.text ≡ codes "done") × AreSchedule ws ls
