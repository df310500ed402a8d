-- Readers of a row of tokens, one after another.
use Rattle.std.specs.Prelude.{ℕ, suc, Bool, false, zero, List, [], ◌∷◌, ◌++◌, Option, Some, Result, Ok, Err, slice_get, map, Vec, if◌then◌else◌}
use Rattle.std.specs.Global.{Global}
use Rattle.c_tree.specs.declared.lexer.tokens.Sign.TheVariants as the_sign
use Rattle.c_tree.specs.declared.lexer.tokens.Kind.{Kind}
use Rattle.c_tree.specs.declared.lexer.tokens.Kind.TheVariants as kind
use Rattle.c_tree.specs.declared.lexer.tokens.Sign.{Sign}
use Rattle.c_tree.specs.declared.lexer.tokens.Word.{Word}
use Rattle.c_tree.specs.contracts.lexer.tokens.Word as the_word
use Rattle.c_tree.specs.declared.expressions.Ident.{Ident}
use Rattle.c_tree.specs.declared.expressions.NumberLiteral.{NumberLiteral}
use Rattle.c_tree.specs.declared.expressions.TextLiteral.{TextLiteral}
use Rattle.c_reader.specs.declared.faults.Fault.{Fault}
use Rattle.c_reader.specs.declared.faults.Fault.TheVariants.{Syntax}
use Rattle.c_reader.specs.Descent.{◌>>=◌, sign_is, sign_at}
use denote.Enum.Bare.{sameb}

-- reads from a place a value, and gives the place after it
abbrev pub Reader : Type 0 → Type 0
Reader A = ℕ → Result (A × ℕ) Fault

-- one after the other
abbrev pub both : {A B : Type 0} → Reader A → Reader B → Reader (A × B)
both p q n = p n >>= λ a. q a.1 >>= λ b. Ok ((a.0, b.0), b.1)

-- what is made of the value that was read
abbrev pub made : {A B : Type 0} → (A → B) → Reader A → Reader B
made f p n = p n >>= λ a. Ok (f a.0, a.1)

-- whether a token is this word
abbrev pub word_is : Word → Option Kind → Bool
word_is w (Some (kind.Word v)) = sameb the_word.the_type v w
word_is w _ = false

-- the place after a word
unfoldable pub word_at : List Kind → Word → ℕ → Result ℕ Fault
word_at ks w n = if word_is w (slice_get ks n) then Ok (suc n) else Err (Syntax n)

-- a sign, of which nothing is kept
abbrev pub sign : List Kind → Sign → Reader (Unit {0})
sign ks s n = sign_at ks s n >>= λ e. Ok (tt, e)

-- a word, of which nothing is kept
abbrev pub word : List Kind → Word → Reader (Unit {0})
word ks w n = word_at ks w n >>= λ e. Ok (tt, e)

-- a word, whose number is kept
abbrev pub marked : List Kind → Word → Reader ℕ
marked ks w n = word_at ks w n >>= λ e. Ok (n, e)

-- the name that the token of number n is
abbrev pub ident_in : Option Kind → Reader Ident
ident_in (Some (kind.Name x)) n = Ok (record { name = x; at = n }, suc n)
ident_in _ n = Err (Syntax n)

-- a name
unfoldable pub ident : List Kind → Reader Ident
ident ks n = ident_in (slice_get ks n) n

-- the number that the token of number n is
abbrev pub number_in : Option Kind → Reader NumberLiteral
number_in (Some (kind.Number v)) n = Ok (record { value = v; at = n }, suc n)
number_in _ n = Err (Syntax n)

-- a number
unfoldable pub number : List Kind → Reader NumberLiteral
number ks n = number_in (slice_get ks n) n

-- the text that the token of number n is
abbrev pub text_in : Option Kind → Reader TextLiteral
text_in (Some (kind.Text t)) n = Ok (record { text = t; at = n }, suc n)
text_in _ n = Err (Syntax n)

-- a text
unfoldable pub text : List Kind → Reader TextLiteral
text ks n = text_in (slice_get ks n) n

-- items with a comma between each two, and the sign that ends them; c bounds how many there are
unfoldable pub separated : {A : Type 0} → List Kind → Reader A → Sign → ℕ → Reader (List A)
separated ks p s zero n = Err (Syntax n)
separated ks p s (suc c) n =
    p n >>= λ a. if sign_is the_sign.Comma (slice_get ks a.1)
    then (separated ks p s c (suc a.1) >>= λ r. Ok (a.0 ∷ r.0, r.1))
    else (sign_at ks s a.1 >>= λ e. Ok (a.0 ∷ [], e))

-- items that each stand behind a comma
unfoldable pub behind_commas : {A : Type 0} → List Kind → Reader A → ℕ → Reader (List A)
behind_commas ks p zero n = Err (Syntax n)
behind_commas ks p (suc c) n =
    if sign_is the_sign.Comma (slice_get ks n)
    then (p (suc n) >>= λ a. behind_commas ks p c a.1 >>= λ r. Ok (a.0 ∷ r.0, r.1))
    else Ok ([], n)

-- items up to what closes them, and its place
unfoldable pub until : {A : Type 0} → (ℕ → Bool) → Reader A → ℕ → Reader (List A)
until closes p zero n = Err (Syntax n)
until closes p (suc c) n =
    if closes n then Ok ([], n) else (p n >>= λ a. until closes p c a.1 >>= λ r. Ok (a.0 ∷ r.0, r.1))

-- more items in front of those that were read
abbrev pub with_front : {A : Type 0} → List A → Result (List A × ℕ) Fault → Result (List A × ℕ) Fault
with_front xs (Ok r) = Ok (xs ++ r.0, r.1)
with_front xs (Err e) = Err e

-- what a reader of a vector answered, each item seen by its view
abbrev pub items_seen : {X A : Type 0} → (X → A) → Vec X Global × ℕ → List A × ℕ
items_seen view x = (map view x.0.items, x.1)

-- what was read, without where it lies in memory
abbrev pub seen_by : {X A : Type 0} → (X → A) → X × ℕ → A × ℕ
seen_by view x = (view x.0, x.1)
