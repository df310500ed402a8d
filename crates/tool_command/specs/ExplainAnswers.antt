-- What the job `explain` answers to the words of a call of `op2`, over files that are told.
use Rattle.std.specs.Prelude.{◌≡◌, ℕ, nat_eq, nat_lt, ◌⊎◌, List, [], ◌∷◌, ◌++◌, length, drop, Option, Some, None, option_and_then, if◌then◌else◌}
use Rattle.std.specs.List.{Contains, find, flat_map}
use Rattle.op_outside.specs.Outside.{Files}
use Rattle.explanations.specs.Texts.{has_name, all_texts, shown_text}
use Rattle.explanations.specs.Explanation.{said}
use Rattle.explanations.specs.Wrong.{said_wrong}
use Rattle.command_words.specs.Refusal.{CannotRead}
use Rattle.command_words.specs.Words.{named_by}
use Rattle.command_words.specs.declared.answer_lines.limits.TheConstants.{SOURCE_BYTES}
use Rattle.command_words.specs.Lines.{Answer, done, refused}
use Rattle.answers.specs.Answers.{Answers}
use Rattle.tool_command.specs.Named.{source_by, program_by}
use Rattle.tool_command.specs.Loops.{LoopOf}
use Rattle.tool_command.specs.Held.{AreHeld}

-- the words behind the first, with single spaces between them
abbrev pub title : List (List ℕ) → List ℕ
title words = drop 1 (flat_map (λ w. 32 ∷ w) (drop 1 words))

-- bytes that are no more than a source may have
abbrev pub as_source : List ℕ → Option (List ℕ)
as_source bytes = if nat_lt SOURCE_BYTES (length bytes) then None else Some bytes

-- the source that the words name, if they name one
abbrev pub source_over : (words : List (List ℕ)) → Files → Option (List ℕ)
source_over words files = option_and_then (λ name. option_and_then as_source (files name)) (source_by words)

-- what is said of an answer: of its status and its line, and, where the words are refused, which are wrong
abbrev pub said_of : (words : List (List ℕ)) → Answer → (source : Option (List ℕ)) → List ℕ
said_of words x source = said x.status x.line source ++ (if nat_eq x.status 2 then said_wrong words else [])

-- an answer is explained: what is said of it, and then the loop that it is about
abbrev pub IsExplained : (words : List (List ℕ)) → Files → Answer → (text : List ℕ) → Type 0
IsExplained words files x text =
    (loop : List ℕ) × LoopOf (program_by words) files x.line (source_over words files) loop
    × (text ≡ said_of words x (source_over words files) ++ loop)

-- `op2` answers this to the words over these files, and it is explained
abbrev pub ExplainsAnswer : (words : List (List ℕ)) → Files → Answer → Type 0
ExplainsAnswer words files a = (x : Answer) × Answers words files x × (text : List ℕ) × IsExplained words files x text × (a ≡ done text)

-- What is answered to words of `op2`: that a file which they name is missing; or, where each is there, what `op2` answers over the files as
-- they are found, explained.
abbrev pub ExplainsCall : (words : List (List ℕ)) → Files → Answer → Type 0
ExplainsCall words files a =
    ((name : List ℕ) × Contains (named_by words) name × (files name ≡ None) × (a ≡ refused (CannotRead name)))
    ⊎ ((held : Files) × AreHeld (Some files) held (named_by words) × ExplainsAnswer words held a)

-- What is answered to the words, the name of `op2` first: the text of the error that they name; or else what a call with them means.
abbrev pub ExplainAnswers : (words : List (List ℕ)) → Files → Answer → Type 0
ExplainAnswers words files a =
    ((t : List ℕ) × (find (has_name (title words)) all_texts ≡ Some t) × (a ≡ done (shown_text t)))
    ⊎ ((find (has_name (title words)) all_texts ≡ None) × ExplainsCall words files a)
