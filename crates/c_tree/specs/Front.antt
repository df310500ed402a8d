-- What stands at the front of the bytes: what the lexer finds there, as functions.
use Rattle.std.specs.Prelude.{◌≡◌, ◌⊎◌, ◌++◌, drop, nat_le, true, ℕ, ◌+◌, ◌≤◌, ◌<◌, Bool, false, nat_eq, nat_lt, not, List, [], ◌∷◌, Option, Some, None, ◌&&◌, if◌then◌else◌, length, take, find, pos, codes, ◌||◌}
use Rattle.std.specs.List.{starts_with, prefix_len}
use Rattle.std.specs.Str.{bytes_eq}
use Rattle.c_tree.specs.declared.lexer.tokens.Kind.{Kind}
use Rattle.c_tree.specs.declared.lexer.tokens.Kind.TheVariants as kind
use Rattle.c_tree.specs.declared.lexer.tokens.Sign.{Sign}
use Rattle.c_tree.specs.declared.lexer.tokens.Word.{Word}
use Rattle.c_tree.specs.declared.lexer.front.Front.{Front}
use Rattle.c_tree.specs.declared.lexer.front.Front.TheVariants.{Passed, Token, BadByte, OpenComment, OpenText, TooLarge}
use Rattle.c_tree.specs.declared.lexer.spelling.TheConstants.{SIGNS, WORDS}
use Rattle.c_tree.specs.Spelling.{sign_spelling, word_spelling, digit, value_of, HasForm}
use Rattle.c_tree.specs.Lexed.{IsPassed, IsLongest, FitsIn, BeginsNothing, HasBadByte, HasNoClose, IsTooLarge, is_closed, is_closed_behind}

-- a byte other than LF
abbrev pub in_line : ℕ → Bool
in_line b = not (nat_eq b 10)

-- whether all up to the end of the line is passed over
abbrev pub passes_line : Bool → List ℕ → Bool
passes_line fresh bs =
    starts_with nat_eq bs (codes "//") || (fresh && starts_with nat_eq bs (codes "#include"))

-- so many bytes further, where there is a place
abbrev pub further : ℕ → Option ℕ → Option ℕ
further n None = None
further n (Some m) = Some (n + m)

-- whether the bytes begin with `*/`
abbrev pub closes : List ℕ → Bool
closes (b ∷ c ∷ bs) = nat_eq b 42 && nat_eq c 47
closes _ = false

-- how many bytes there are up to the end of the first `*/`
abbrev pub close_len : List ℕ → Option ℕ
close_len [] = None
close_len (b ∷ bs) = if closes (b ∷ bs) then Some 2 else further 1 (close_len bs)

-- the reserved word, or else the name that the bytes are
abbrev pub word_or : Option Word → List ℕ → Front
word_or (Some w) bs = Token (kind.Word w) (length bs)
word_or None bs = Token (kind.Name bs) (length bs)

-- the reserved word or the name that the bytes are
unfoldable pub front_word : List ℕ → Front
front_word bs = word_or (find (λ w. bytes_eq bs (word_spelling w)) WORDS) bs

-- the sign, or else a bad byte
abbrev pub sign_or : Option Sign → Front
sign_or (Some s) = Token (kind.Sign s) (length (sign_spelling s))
sign_or None = BadByte 0

-- the first sign of the list at the front
unfoldable pub front_sign : List ℕ → Front
front_sign bs = sign_or (find (λ s. starts_with nat_eq bs (sign_spelling s)) SIGNS)

-- how many bytes of a number stand at the front
abbrev pub figure_size : List ℕ → ℕ
figure_size [] = 0
figure_size (b ∷ bs) = if nat_eq b 48 then 1 else prefix_len digit (b ∷ bs)

-- the number that the first n bytes spell, where it is at most 2147483647
abbrev pub figure_of : List ℕ → ℕ → Front
figure_of bs n =
    if nat_lt (value_of (take n bs)) 2147483648 then Token (kind.Number (pos (value_of (take n bs)))) n else TooLarge

-- the number at the front
abbrev pub front_figure : List ℕ → Front
front_figure bs = figure_of bs (figure_size bs)

-- whether a text may hold the byte as it is
abbrev pub plain : ℕ → Bool
plain b = nat_le 32 b && not (nat_eq b 127) && not (nat_eq b 34) && not (nat_eq b 92)

-- the byte of an escape behind its `\`, and how many bytes spell it
abbrev pub escape_of : List ℕ → Option (ℕ × ℕ)
escape_of [] = None
escape_of (b ∷ bs) =
    if nat_eq b 110 then Some (10, 2)
    else if nat_eq b 116 then Some (9, 2)
    else if nat_eq b 92 then Some (92, 2)
    else if nat_eq b 34 then Some (34, 2)
    else None

-- the byte that the front of a text's bytes stands for, and how many bytes spell it
abbrev pub unit_of : List ℕ → Option (ℕ × ℕ)
unit_of [] = None
unit_of (b ∷ bs) = if nat_eq b 92 then escape_of bs else if plain b then Some (b, 1) else None

-- whether a text that goes on with these bytes is closed on its line, behind a `\` or not
abbrev pub is_closed_in : Bool → List ℕ → Bool
is_closed_in true bs = is_closed_behind bs
is_closed_in false bs = is_closed bs

-- what stands at the front is a text, or why there is none
abbrev pub IsText : List ℕ → Front → Type 0
IsText bs (Token k l) = IsTextToken k (take l bs)
  where
    IsTextToken : Kind → List ℕ → Type 0
    IsTextToken (kind.Text t) s = HasForm (kind.Text t) s
    IsTextToken _ s = ⊥
IsText bs (BadByte l) = HasBadByte (take l bs) bs
IsText bs OpenText = (rest : List ℕ) × (bs ≡ 34 ∷ rest) × (is_closed rest ≡ false)
IsText bs _ = ⊥

-- what stands at the front, as the definition of tokens says it
abbrev pub IsFront : Bool → List ℕ → Front → Type 0
IsFront fresh bs (Passed l) = IsPassed fresh (take l bs) (drop l bs)
IsFront fresh bs (Token k l) = IsLongest k (take l bs) (drop l bs) × FitsIn k (take l bs)
IsFront fresh bs (BadByte l) = ((l ≡ 0) × BeginsNothing fresh bs) ⊎ HasBadByte (take l bs) bs
IsFront fresh bs OpenComment = (rest : List ℕ) × (bs ≡ codes "/*" ++ rest) × HasNoClose rest
IsFront fresh bs OpenText = (rest : List ℕ) × (bs ≡ 34 ∷ rest) × (is_closed rest ≡ false)
IsFront fresh bs TooLarge = IsTooLarge bs

-- what is found lies in the bytes
abbrev pub LiesIn : ℕ → Front → Type 0
LiesIn n (Passed l) = (1 ≤ l) × (l ≤ n)
LiesIn n (Token k l) = (1 ≤ l) × (l ≤ n)
LiesIn n (BadByte l) = l < n
LiesIn n _ = Unit {0}
