-- The tokens of the bytes of a source, or the first place where it has none.
use Rattle.std.specs.Prelude.{◌≡◌, ◌≢◌, ℕ, ◌+◌, ◌≤◌, ◌<◌, Bool, true, false, ◌||◌, ◌&&◌, nat_eq, List, [], ◌∷◌, ◌++◌, length, Result, Ok, Err, ◌⊎◌, codes, if◌then◌else◌}
use Rattle.std.specs.List.{list_all}
use Rattle.c_tree.specs.declared.lexer.tokens.Kind.{Kind}
use Rattle.c_tree.specs.declared.lexer.tokens.Kind.TheVariants as kind
use Rattle.c_tree.specs.declared.lexer.tokens.Pos.{Pos}
use Rattle.c_tree.specs.declared.lexer.tokens.Token.{Token}
use Rattle.c_tree.specs.declared.lexer.refusals.LexRefusal.{LexRefusal}
use Rattle.c_tree.specs.declared.lexer.refusals.LexRefusal.TheVariants as refusal
use Rattle.c_tree.specs.Spelling.{blank, part, textual, all_escaped, value_of, IsFigure, HasForm}

-- the place after a byte
abbrev pub after_byte : Pos → ℕ → Pos
after_byte p b =
    if nat_eq b 10 then record { line = p.line + 1; column = 1 } else record { line = p.line; column = p.column + 1 }

-- the place after bytes
abbrev pub advance : Pos → List ℕ → Pos
advance p [] = p
advance p (b ∷ bs) = advance (after_byte p b) bs

-- the place of the first byte
abbrev pub start : Pos
start = record { line = 1; column = 1 }

-- whether only spaces and tabs stand on the line after these bytes, `fresh` being whether only they stood there before
abbrev pub fresh_after : Bool → List ℕ → Bool
fresh_after fresh [] = fresh
fresh_after fresh (b ∷ bs) =
    fresh_after (nat_eq b 10 || ((nat_eq b 32 || nat_eq b 9) && fresh)) bs

-- the bytes go to the end of their line, which `rest` begins with
pub record EndsLine (s rest : List ℕ) : Type 0 where
  pub no_line_feed : (a b : List ℕ) → s ≢ a ++ 10 ∷ b
  pub ended : (b : ℕ) (more : List ℕ) → rest ≡ b ∷ more → b ≡ 10

-- no `*/` stands in the bytes
abbrev pub HasNoClose : List ℕ → Type 0
HasNoClose s = (a b : List ℕ) → s ≢ a ++ 42 ∷ 47 ∷ b

-- `/*`, and what follows up to the next `*/`
pub record IsBlockComment (s : List ℕ) : Type 0 where
  pub body : List ℕ
  pub cut : s ≡ codes "/*" ++ (body ++ codes "*/")
  pub next : HasNoClose (body ++ codes "*")

-- `//`, and what follows up to the end of the line
pub record IsLineComment (s rest : List ℕ) : Type 0 where
  pub body : List ℕ
  pub cut : s ≡ codes "//" ++ body
  pub ends : EndsLine s rest

-- `#include`, and what follows up to the end of the line, where only spaces and tabs stand before it on its line
pub record IsInclude (fresh : Bool) (s rest : List ℕ) : Type 0 where
  pub alone : fresh ≡ true
  pub body : List ℕ
  pub cut : s ≡ codes "#include" ++ body
  pub ends : EndsLine s rest

-- a blank
pub record IsBlank (s : List ℕ) : Type 0 where
  pub byte : ℕ
  pub cut : s ≡ byte ∷ []
  pub blank : blank byte ≡ true

-- What is passed over between tokens, with what stands behind it.
abbrev pub IsPassed : Bool → List ℕ → List ℕ → Type 0
IsPassed fresh s rest = IsBlank s ⊎ IsLineComment s rest ⊎ IsBlockComment s ⊎ IsInclude fresh s rest

-- no comment begins here
abbrev pub BeginsNoComment : List ℕ → Type 0
BeginsNoComment bs = ((rest : List ℕ) → bs ≢ codes "//" ++ rest) × ((rest : List ℕ) → bs ≢ codes "/*" ++ rest)

-- no token that stands at the front is longer
abbrev pub NoLonger : List ℕ → ℕ → Type 0
NoLonger bs l = (k : Kind) (s rest : List ℕ) → HasForm k s → bs ≡ s ++ rest → length s ≤ l

-- s is the longest form at the front of s ++ rest, and no comment
pub record IsLongest (k : Kind) (s rest : List ℕ) : Type 0 where
  pub form : HasForm k s
  pub longest : NoLonger (s ++ rest) (length s)
  pub no_comment : BeginsNoComment (s ++ rest)

-- the value of a number is at most 2147483647
abbrev pub FitsIn : Kind → List ℕ → Type 0
FitsIn (kind.Number z) s = value_of s < 2147483648
FitsIn _ s = Unit {0}

-- the first byte is no letter, no digit and no `_`
abbrev pub IsApart : List ℕ → Type 0
IsApart [] = Unit {0}
IsApart (b ∷ bs) = part b ≡ false

-- whether a token is a number
abbrev pub is_number : Kind → Bool
is_number (kind.Number z) = true
is_number _ = false

-- whether a text that goes on with these bytes is closed on its line; a quote behind a `\` closes nothing
abbrev mutual
  -- behind an unescaped byte
  pub is_closed : List ℕ → Bool
  is_closed [] = false
  is_closed (b ∷ bs) =
      if nat_eq b 34 then true
      else if nat_eq b 10 then false
      else if nat_eq b 92 then is_closed_behind bs
      else is_closed bs

  -- behind a `\`
  pub is_closed_behind : List ℕ → Bool
  is_closed_behind [] = false
  is_closed_behind (b ∷ bs) = if nat_eq b 10 then false else is_closed bs

-- no byte that a text can hold and no escape is at the front, nor the text's closing quote
pub record CannotGoOn (bs : List ℕ) : Type 0 where
  pub byte : ℕ
  pub rest : List ℕ
  pub front : bs ≡ byte ∷ rest
  pub no_quote : byte ≢ 34
  pub no_unit : (c : ℕ) (more : List ℕ) → textual c ≡ true → bs ≢ all_escaped (c ∷ []) ++ more

-- a bad byte in a text that is closed on its line, behind `good` (its opening quote, bytes and escapes)
pub record HasBadByte (good bs : List ℕ) : Type 0 where
  pub text : List ℕ
  pub rest : List ℕ
  pub held : list_all textual text ≡ true
  pub before : good ≡ 34 ∷ all_escaped text
  pub cut : bs ≡ good ++ rest
  pub bad : CannotGoOn rest
  pub closed : is_closed rest ≡ true

-- no token, no comment, no text and nothing else that is passed over begins here
pub record BeginsNothing (fresh : Bool) (bs : List ℕ) : Type 0 where
  pub some : bs ≢ []
  pub no_token : (k : Kind) (s rest : List ℕ) → HasForm k s → bs ≢ s ++ rest
  pub no_passed : (s rest : List ℕ) → IsPassed fresh s rest → bs ≢ s ++ rest
  pub no_comment : BeginsNoComment bs
  pub no_text : (rest : List ℕ) → bs ≢ 34 ∷ rest

-- the bytes begin with a letter, a digit or `_`
abbrev pub BeginsWithPart : List ℕ → Type 0
BeginsWithPart [] = ⊥
BeginsWithPart (b ∷ bs) = part b ≡ true

-- a number with its longest form at the front is above 2147483647
pub record IsTooLarge (bs : List ℕ) : Type 0 where
  pub figure : List ℕ
  pub rest : List ℕ
  pub cut : bs ≡ figure ++ rest
  pub form : IsFigure figure
  pub longest : NoLonger bs (length figure)
  pub large : 2147483648 ≤ value_of figure

-- where the tokens of a source end
pub data Stop : Type 0 where
  AtEnd : Stop
  -- with the bytes that stand before the bad one
  AtBadByte : List ℕ → Stop
  AtOpenComment : Stop
  AtOpenText : Stop
  AtNumberTooLarge : Stop

-- What stands where the tokens end: nothing, or what the refusal names; AtBadByte has what stands before the byte.
-- `number` is whether a number stands directly before.
abbrev pub Stops : Bool → Bool → List ℕ → Stop → Type 0
Stops fresh number bs AtEnd = bs ≡ []
Stops fresh number bs (AtBadByte good) =
    ((number ≡ true) × (good ≡ []) × BeginsWithPart bs) ⊎ ((number ≡ true → IsApart bs) × (good ≡ []) × BeginsNothing fresh bs)
    ⊎ HasBadByte good bs
Stops fresh number bs AtOpenComment = (rest : List ℕ) × (bs ≡ codes "/*" ++ rest) × HasNoClose rest
Stops fresh number bs AtOpenText = (rest : List ℕ) × (bs ≡ 34 ∷ rest) × (is_closed rest ≡ false)
Stops fresh number bs AtNumberTooLarge = (number ≡ true → IsApart bs) × IsTooLarge bs

-- a part of a source: bytes that are passed over, or a token and its bytes
pub data Part : Type 0 where
  Passed : List ℕ → Part
  Spelled : Kind → List ℕ → Part

-- the bytes of a part
abbrev pub bytes_of : Part → List ℕ
bytes_of (Passed s) = s
bytes_of (Spelled k s) = s

-- the part stands before `rest`
abbrev pub IsPartBefore : Bool → Part → List ℕ → Type 0
IsPartBefore fresh (Passed s) rest = IsPassed fresh s rest
IsPartBefore fresh (Spelled k s) rest = IsLongest k s rest × FitsIn k s

-- whether a part is a number
abbrev pub is_number_part : Part → Bool
is_number_part (Passed s) = false
is_number_part (Spelled k s) = is_number k

-- whether only spaces and tabs stand on the line after a part
abbrev pub is_fresh_behind : Bool → Part → Bool
is_fresh_behind fresh (Passed s) = fresh_after fresh s
is_fresh_behind fresh (Spelled k s) = false

-- The bytes are these parts one after another, and then the stop. Directly behind a number stands no letter, no digit
-- and no `_`, other than as the bad byte of the stop.
abbrev pub AreParts : Stop → Bool → Bool → List ℕ → List Part → Type 0
AreParts stop fresh number bs [] = Stops fresh number bs stop
AreParts stop fresh number bs (x ∷ xs) =
    (number ≡ true → IsApart bs)
    × ((rest : List ℕ) × (bs ≡ bytes_of x ++ rest) × IsPartBefore fresh x rest
    × AreParts stop (is_fresh_behind fresh x) (is_number_part x) rest xs)

-- the tokens among the parts; n bytes stand before them, and p is the place of their first byte
abbrev pub tokens_of : ℕ → Pos → List Part → List Token
tokens_of n p [] = []
tokens_of n p (Passed s ∷ xs) = tokens_of (n + length s) (advance p s) xs
tokens_of n p (Spelled k s ∷ xs) =
    record { kind = k; from = n; to = n + length s; at = p } ∷ tokens_of (n + length s) (advance p s) xs

-- the bytes of parts, one after another
abbrev pub all_bytes : List Part → List ℕ
all_bytes [] = []
all_bytes (x ∷ xs) = bytes_of x ++ all_bytes xs

-- the tokens, or the refusal at its place
abbrev pub Outcome : Type 0
Outcome = Result (List Token) LexRefusal

-- the tokens of the parts where these go to the end, or else the refusal that the stop is
abbrev pub outcome_of : List Part → Stop → Outcome
outcome_of xs AtEnd = Ok (tokens_of 0 start xs)
outcome_of xs (AtBadByte good) = Err (refusal.BadByte (advance start (all_bytes xs ++ good)))
outcome_of xs AtOpenComment = Err (refusal.OpenComment (advance start (all_bytes xs)))
outcome_of xs AtOpenText = Err (refusal.OpenText (advance start (all_bytes xs)))
outcome_of xs AtNumberTooLarge = Err (refusal.NumberTooLarge (advance start (all_bytes xs)))

-- What the bytes have: their tokens, or the first refusal.
pub record Lexes (bytes : List ℕ) (outcome : Outcome) : Type 0 where
  pub parts : List Part
  pub stop : Stop
  pub are : AreParts stop true false bytes parts
  pub gives : outcome ≡ outcome_of parts stop
