-- The numbers of the tokens of a source are of 32 bits.
use Rattle.std.proofs.Common.{◌≡◌, ℕ, pos, ◌<◌, Bool, true, false, List, [], ◌∷◌, map, Ok, sym, subst, arith}
use Rattle.std.specs.Prelude.{FitsSigned}
use Rattle.std.specs.Int.{w32}
use Rattle.c_tree.specs.declared.lexer.tokens.Kind.{Kind}
use Rattle.c_tree.specs.declared.lexer.tokens.Kind.TheVariants as kind
use Rattle.c_tree.specs.declared.lexer.tokens.Pos.{Pos}
use Rattle.c_tree.specs.declared.lexer.tokens.Token.{Token}
use Rattle.c_tree.specs.Spelling.{value_of}
use Rattle.c_tree.specs.Lexed.{Stop, AtEnd, AtBadByte, AtOpenComment, AtOpenText, AtNumberTooLarge, Part, Passed, Spelled, IsPartBefore, is_fresh_behind, is_number_part, AreParts, advance, start, tokens_of, Outcome, outcome_of, Lexes}

-- a number is of 32 bits
abbrev pub KindFits : Kind → Type 0
KindFits (kind.Number z) = FitsSigned w32 z
KindFits k = Unit {0}

abbrev pub KindsFit : List Kind → Type 0
KindsFit [] = Unit {0}
KindsFit (k ∷ ks) = KindFits k × KindsFit ks

small : (n : ℕ) → n < 2147483648 → FitsSigned w32 (pos n)
small n h = record { sfits = omega arith }

token_fits : (fresh : Bool) (k : Kind) (s rest : List ℕ) → IsPartBefore fresh (Spelled k s) rest → KindFits k
token_fits fresh (kind.Word w) s rest h = tt
token_fits fresh (kind.Name x) s rest h = tt
token_fits fresh (kind.Number z) s rest h = subst (FitsSigned w32) (sym h.0.form.1) (small (value_of s) h.1)
token_fits fresh (kind.Text t) s rest h = tt
token_fits fresh (kind.Sign x) s rest h = tt

tokens_fit : (stop : Stop) (fresh number : Bool) (bs : List ℕ) (n : ℕ) (p : Pos) (xs : List Part) → AreParts stop fresh number bs xs → KindsFit (map (λ t. t.kind) (tokens_of n p xs))
tokens_fit stop fresh number bs n p [] h = tt
tokens_fit stop fresh number bs n p (Passed s ∷ xs) h =
    tokens_fit stop (is_fresh_behind fresh (Passed s)) (is_number_part (Passed s)) h.1.0 _ (advance p s) xs h.1.3
tokens_fit stop fresh number bs n p (Spelled k s ∷ xs) h = (
  token_fits fresh k s h.1.0 h.1.2,
  tokens_fit stop (is_fresh_behind fresh (Spelled k s)) (is_number_part (Spelled k s)) h.1.0 _ (advance p s) xs h.1.3,
)

pub lexed_fit : (bytes : List ℕ) (tokens : List Token) → Lexes bytes (Ok tokens) → KindsFit (map (λ t. t.kind) tokens)
lexed_fit bytes tokens l = by l.stop l.are l.gives
  where
    by : (s : Stop) → AreParts s true false bytes l.parts → ◌≡◌ {A = Outcome} (Ok tokens) (outcome_of l.parts s) → KindsFit (map (λ t. t.kind) tokens)
    by AtEnd h e =
        let q : tokens ≡ tokens_of 0 start l.parts = cc in
        subst (λ (ts : List Token). KindsFit (map (λ t. t.kind) ts)) (sym q) (tokens_fit AtEnd true false bytes 0 start l.parts h)
    by (AtBadByte good) h e = cc
    by AtOpenComment h e = cc
    by AtOpenText h e = cc
    by AtNumberTooLarge h e = cc
