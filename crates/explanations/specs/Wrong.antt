-- The words that are wrong, where words are refused.
use Rattle.std.specs.Prelude.{ℕ, zero, suc, ◌+◌, ◌-◌, Bool, List, ◌∷◌, ◌++◌, length, take, drop, Option, Some, None, is_ok, codes, if◌then◌else◌}
use Rattle.std.specs.List.{flat_map}
use Rattle.clap.specs.Simple.{matches_of}
use Rattle.clap.specs.Faults.{fault_of}
use Rattle.command_words.specs.Words.{command, judged}

-- the words, the program's name first, are those of a call
unfoldable pub is_call : List (List ℕ) → Bool
is_call words = is_ok (judged (fault_of command words) (matches_of command words))

-- words without so many at this place
abbrev pub without_at : (place count : ℕ) → List (List ℕ) → List (List ℕ)
without_at place count words = take place words ++ drop (place + count) words

-- the last place, from 1 to this one, at which so many words can be left out so that a call is left
abbrev pub last_place : (words : List (List ℕ)) (count : ℕ) → (most : ℕ) → Option ℕ
last_place words count zero = None
last_place words count (suc n) = if is_call (without_at (suc n) count words) then Some (suc n) else last_place words count n

-- the same among all words behind the first
abbrev pub wrong_place : (words : List (List ℕ)) (count : ℕ) → Option ℕ
wrong_place words count = last_place words count (length words - 1)

-- so many words from a place on, each with a space before it
abbrev pub words_at : (words : List (List ℕ)) (place count : ℕ) → List ℕ
words_at words place count = flat_map (λ w. 32 ∷ w) (take count (drop place words))

-- what is said of two words
abbrev pub said_of_two : (words : List (List ℕ)) → Option ℕ → List ℕ
said_of_two words None = codes "no words can be left out: one is missing, or the first is no job\n"
said_of_two words (Some place) = codes "wrong:" ++ words_at words place 2 ++ codes "\n"

-- what is said of one word, or else of two
abbrev pub said_of_one : (words : List (List ℕ)) → Option ℕ → List ℕ
said_of_one words None = said_of_two words (wrong_place words 2)
said_of_one words (Some place) = codes "wrong:" ++ words_at words place 1 ++ codes "\n"

-- what is said of words that are refused: the last word that can be left out so that a call is left; or the last two such words that stand
-- behind one another; or that none can be
abbrev pub said_wrong : List (List ℕ) → List ℕ
said_wrong words = said_of_one words (wrong_place words 1)
