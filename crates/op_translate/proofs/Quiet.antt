-- Tokens with which no edit begins.
use Rattle.std.proofs.Common.{◌≡◌, ℕ, Bool, true, false, ◌&&◌, cond, List, [], ◌∷◌, length, drop, Some, None, refl, ap}
use Rattle.std.specs.Prelude.{option_map}
use Rattle.c_tree.specs.declared.lexer.tokens.Kind.{Kind}
use Rattle.c_tree.specs.declared.lexer.tokens.Kind.TheVariants as kind
use Rattle.c_tree.specs.declared.lexer.tokens.Sign.TheVariants as sign
use Rattle.c_tree.specs.declared.lexer.tokens.Word.TheVariants as word
use Rattle.c_tree.specs.declared.lexer.tokens.Token.{Token}
use Rattle.op_translate.specs.Translation.{prefix, begins, is_name, kernel_in, called, to_stub, stubbed, to_call}
use Rattle.std.proofs.lemmas.Bool.{true≢false}

-- the word `op_par_loop`
abbrev pub is_loop : Kind → Bool
is_loop (kind.Word word.OpParLoop) = true
is_loop k = false

-- a name that begins as those of stubs do
abbrev pub is_taken : Kind → Bool
is_taken (kind.Name x) = begins x
is_taken k = false

quiet_called : (a b c d : Kind) → is_loop a ≡ false → called a b c d ≡ None
quiet_called (kind.Word word.OpParLoop) b c d h = absurd (true≢false h)
quiet_called (kind.Word _) b c d h = refl
quiet_called (kind.Name x) b c d h = refl
quiet_called (kind.Number z) b c d h = refl
quiet_called (kind.Text t) b c d h = refl
quiet_called (kind.Sign s) b c d h = refl

pub no_stub : (t : Token) (ts : List Token) → is_loop t.kind ≡ false → to_stub (t ∷ ts) ≡ None
no_stub t [] h = refl
no_stub t (b ∷ []) h = refl
no_stub t (b ∷ c ∷ []) h = refl
no_stub t (b ∷ c ∷ d ∷ ts) h = ap (option_map _) (quiet_called t.kind b.kind c.kind d.kind h)

no_kernel : (x : List ℕ) → begins x ≡ false → kernel_in x ≡ None
no_kernel x h = ap (λ t. cond (t && is_name (drop (length prefix) x)) (Some (drop (length prefix) x)) None) h

quiet_stubbed : (a b : Kind) → is_taken a ≡ false → stubbed a b ≡ None
quiet_stubbed (kind.Name x) (kind.Sign sign.LeftParen) h = no_kernel x h
quiet_stubbed (kind.Name x) (kind.Sign _) h = refl
quiet_stubbed (kind.Name x) (kind.Word w) h = refl
quiet_stubbed (kind.Name x) (kind.Name y) h = refl
quiet_stubbed (kind.Name x) (kind.Number z) h = refl
quiet_stubbed (kind.Name x) (kind.Text t) h = refl
quiet_stubbed (kind.Word w) b h = refl
quiet_stubbed (kind.Number z) b h = refl
quiet_stubbed (kind.Text t) b h = refl
quiet_stubbed (kind.Sign s) b h = refl

pub no_call : (t : Token) (ts : List Token) → is_taken t.kind ≡ false → to_call (t ∷ ts) ≡ None
no_call t [] h = refl
no_call t (b ∷ ts) h = ap (option_map _) (quiet_stubbed t.kind b.kind h)

-- the tokens of a call behind its first
pub record IsQuietCall (b c d : Kind) : Type 0 where
  pub paren : is_loop b ≡ false
  pub name : is_loop c ≡ false
  pub comma : is_loop d ≡ false

pub called_quiet : (a b c d : Kind) (x : List ℕ) → called a b c d ≡ Some x → IsQuietCall b c d
called_quiet (kind.Word word.OpParLoop) (kind.Sign sign.LeftParen) (kind.Name y) (kind.Sign sign.Comma) x h =
    record { paren = refl; name = refl; comma = refl }
called_quiet a b c d x h = cc

pub stubbed_quiet : (a b : Kind) (x : List ℕ) → stubbed a b ≡ Some x → is_taken b ≡ false
stubbed_quiet (kind.Name y) (kind.Sign sign.LeftParen) x h = refl
stubbed_quiet a b x h = cc
