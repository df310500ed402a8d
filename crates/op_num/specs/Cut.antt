-- Bytes cut into tokens at blanks.
use Rattle.std.specs.Prelude.{◌≡◌, ℕ, ◌+◌, Bool, false, ◌||◌, not, nat_eq, List, [], ◌∷◌, map, Option, Some, None, if◌then◌else◌}

-- space, tab, CR and LF
abbrev pub blank : ℕ → Bool
blank b = nat_eq b 32 || nat_eq b 9 || nat_eq b 13 || nat_eq b 10

-- a byte of a token
abbrev pub dark : ℕ → Bool
dark b = not (blank b)

-- a token: its bytes and its line
pub record Word : Type 0 where
  pub text : List ℕ
  pub line : ℕ

-- the line behind a byte: lines are counted by LF
abbrev pub line_after : ℕ → ℕ → ℕ
line_after line b = if nat_eq b 10 then line + 1 else line

-- a byte in front of the first token
abbrev pub joined : ℕ → List Word → List Word
joined b [] = []
joined b (w ∷ ws) = record { text = b ∷ w.text; line = w.line } ∷ ws

-- a byte that is no blank is a token where nothing or a blank follows it, else it belongs to the token that follows
abbrev pub with_byte : ℕ → ℕ → List ℕ → List Word → List Word
with_byte line b [] ws = record { text = b ∷ []; line = line } ∷ ws
with_byte line b (c ∷ cs) ws = if blank c then record { text = b ∷ []; line = line } ∷ ws else joined b ws

-- the tokens of bytes of which the first stands on this line
unfoldable pub words : ℕ → List ℕ → List Word
words line [] = []
words line (b ∷ bs) = if blank b then words (line_after line b) bs else with_byte line b bs (words line bs)

-- the bytes of a token
abbrev pub text_of : Word → List ℕ
text_of w = w.text

-- the tokens' bytes
abbrev pub texts : List ℕ → List (List ℕ)
texts bytes = map text_of (words 1 bytes)

-- the tokens to come, and the line of the last that came
pub record Uncut : Type 0 where
  pub last : ℕ
  pub words : List Word

-- all tokens of a text
abbrev pub uncut : List ℕ → Uncut
uncut bytes = record { last = 1; words = words 1 bytes }

-- the first, where there is one
abbrev pub first : List Word → Option Word
first [] = None
first (w ∷ ws) = Some w

-- the next token, where there is one
abbrev pub first_of : Uncut → Option Word
first_of u = first u.words

-- without the first; the line is then the line of that one
abbrev pub behind : ℕ → List Word → Uncut
behind last [] = record { last = last; words = [] }
behind last (w ∷ ws) = record { last = w.line; words = ws }

-- what is to come behind the next token
abbrev pub rest_of : Uncut → Uncut
rest_of u = behind u.last u.words

-- nothing, or a byte that is no blank at the front
abbrev pub IsDark : List ℕ → Type 0
IsDark [] = Unit {0}
IsDark (b ∷ bs) = blank b ≡ false
