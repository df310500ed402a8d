-- Tokens that are words of the format.
use Rattle.std.specs.Prelude.{ℕ, Bool, List, Option, Some, None, codes, if◌then◌else◌}
use Rattle.std.specs.Str.{bytes_eq}
use Rattle.schedule_steps.specs.declared.text.token.RankWord.{RankWord}
use Rattle.schedule_steps.specs.declared.text.token.RankWord.TheVariants.{Send, Recv, Begin, End}
use Rattle.schedule_steps.specs.declared.text.token.StepWord.{StepWord}
use Rattle.schedule_steps.specs.declared.text.token.StepWord.TheVariants.{Rank, Join}
use Rattle.schedule_steps.specs.declared.text.token.Keyword.{Keyword}
use Rattle.schedule_steps.specs.declared.text.token.Keyword.TheVariants.{Step, Done}

-- the first token of the header
abbrev pub is_magic : List ℕ → Bool
is_magic text = bytes_eq text (codes "op2sched")

-- the second token of the header
abbrev pub is_version : List ℕ → Bool
is_version text = bytes_eq text (codes "1")

-- the first word of a rank's step that a token is, where it is one
abbrev pub rank_word_of : List ℕ → Option RankWord
rank_word_of text =
    if bytes_eq text (codes "begin") then Some Begin
    else if bytes_eq text (codes "end") then Some End
    else if bytes_eq text (codes "send") then Some Send
    else if bytes_eq text (codes "recv") then Some Recv
    else None

-- a rank's word, or another
abbrev pub keyword_by : List ℕ → Option RankWord → Option Keyword
keyword_by text (Some r) = Some (Step (Rank r))
keyword_by text None = if bytes_eq text (codes "join") then Some (Step Join) else if bytes_eq text (codes "done") then Some Done else None

-- the word that a token is where a step or `done` is awaited, where it is one
abbrev pub keyword_of : List ℕ → Option Keyword
keyword_of text = keyword_by text (rank_word_of text)

-- the bytes of a rank's word
abbrev pub rank_text : RankWord → List ℕ
rank_text Send = codes "send"
rank_text Recv = codes "recv"
rank_text Begin = codes "begin"
rank_text End = codes "end"

-- the bytes of a step's first word
abbrev pub word_text : StepWord → List ℕ
word_text (Rank r) = rank_text r
word_text Join = codes "join"
