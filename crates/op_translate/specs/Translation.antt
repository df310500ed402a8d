-- A source in which each loop call is a call of its own stub, and back.
use Rattle.std.specs.Prelude.{◌≡◌, ℕ, Bool, false, ◌&&◌, nat_eq, List, [], ◌∷◌, ◌++◌, length, drop, map, Option, Some, None, option_map, Result, Ok, Err, find, is_none, codes, if◌then◌else◌}
use Rattle.std.specs.List.{starts_with, list_all}
use Rattle.std.specs.Str.{bytes_eq}
use Rattle.c_tree.specs.declared.lexer.tokens.Kind.{Kind}
use Rattle.c_tree.specs.declared.lexer.tokens.Kind.TheVariants as kind
use Rattle.c_tree.specs.declared.lexer.tokens.Pos.{Pos}
use Rattle.c_tree.specs.declared.lexer.tokens.Sign.TheVariants as sign
use Rattle.c_tree.specs.declared.lexer.tokens.Word.TheVariants as word
use Rattle.c_tree.specs.declared.lexer.tokens.Token.{Token}
use Rattle.c_tree.specs.declared.lexer.spelling.TheConstants.{WORDS}
use Rattle.c_tree.specs.declared.lexer.refusals.LexRefusal.{LexRefusal}
use Rattle.c_tree.specs.Spelling.{letter, part, word_spelling}
use Rattle.c_tree.specs.Lexed.{Lexes}
use Rattle.op_translate.specs.declared.refusals.TransRefusal.{TransRefusal}
use Rattle.op_translate.specs.declared.refusals.TransRefusal.TheVariants.{NameTaken, NoCall, LoopLeft, Lex}
use Rattle.c_tree.specs.Tree.{ProgramTree}
use Rattle.c_tree.specs.Reads.{Reads}
use Rattle.op_translate.specs.Edits.{Edit, edited, edits}
use Rattle.op_translate.specs.Stubs.{all_loops_of, table_text}

-- ---- names

-- what the name of a stub begins with
abbrev pub prefix : List ℕ
prefix = codes "op_par_loop_"

-- the name begins so
abbrev pub begins : List ℕ → Bool
begins x = starts_with nat_eq x prefix

-- a name that is no reserved word
abbrev pub is_name : List ℕ → Bool
is_name [] = false
is_name (c ∷ cs) = letter c && list_all part cs && is_none (find (λ w. bytes_eq (c ∷ cs) (word_spelling w)) WORDS)

-- the kernel whose stub has this name, if it is one
abbrev pub kernel_in : List ℕ → Option (List ℕ)
kernel_in x = if begins x && is_name (drop (length prefix) x) then Some (drop (length prefix) x) else None

-- ---- from calls to stubs

-- the kernel of a call `op_par_loop(K,` by its four tokens
abbrev pub called : Kind → Kind → Kind → Kind → Option (List ℕ)
called (kind.Word word.OpParLoop) (kind.Sign sign.LeftParen) (kind.Name x) (kind.Sign sign.Comma) = Some x
called a b c d = None

-- how a loop call becomes `op_par_loop_K(`
abbrev pub to_stub : List Token → Option Edit
to_stub (a ∷ b ∷ c ∷ d ∷ ts) =
    option_map (λ x. record { from = a.from; to = d.to; text = prefix ++ x ++ codes "(" }) (called a.kind b.kind c.kind d.kind)
to_stub ts = None

-- whether the last byte is LF
abbrev pub ends_line : List ℕ → Bool
ends_line [] = false
ends_line (b ∷ []) = nat_eq b 10
ends_line (b ∷ c ∷ bs) = ends_line (c ∷ bs)

-- LF, unless the bytes end with one
abbrev pub line_end : List ℕ → List ℕ
line_end bs = if ends_line bs then [] else codes "\n"

-- the calls become stubs, and a table of them follows
abbrev pub translation : List ℕ → List Token → ProgramTree → List ℕ
translation bytes tokens p = edited 0 bytes (edits to_stub tokens) ++ line_end bytes ++ table_text (all_loops_of p.main.body)

-- ---- and back

-- the kernel of a stub's call `op_par_loop_K(` by its two tokens
abbrev pub stubbed : Kind → Kind → Option (List ℕ)
stubbed (kind.Name x) (kind.Sign sign.LeftParen) = kernel_in x
stubbed a b = None

-- how a stub's call becomes `op_par_loop(K,`
abbrev pub to_call : List Token → Option Edit
to_call (a ∷ b ∷ ts) =
    option_map (λ x. record { from = a.from; to = b.to; text = codes "op_par_loop(" ++ x ++ codes "," }) (stubbed a.kind b.kind)
to_call ts = None

-- the calls of stubs become loop calls again
abbrev pub restoration : List ℕ → List Token → List ℕ
restoration bytes tokens = edited 0 bytes (edits to_call tokens)

-- ---- refusals

-- a refusal, or else another
abbrev pub or_else : Option TransRefusal → Option TransRefusal → Option TransRefusal
or_else None b = b
or_else (Some r) b = Some r

-- the first refusal, where this tells whether the first of some tokens is refused
abbrev pub first_refusal : (List Token → Option TransRefusal) → List Token → Option TransRefusal
first_refusal refuses [] = None
first_refusal refuses (t ∷ ts) = or_else (refuses (t ∷ ts)) (first_refusal refuses ts)

-- a name that a stub could have is taken
abbrev pub taken : Kind → Pos → Option TransRefusal
taken (kind.Name x) at = if begins x then Some (NameTaken at) else None
taken k at = None

-- why the first of these tokens lets nothing be translated, if it does
abbrev pub refuses_stub : List Token → Option TransRefusal
refuses_stub [] = None
refuses_stub (t ∷ ts) = taken t.kind t.at

-- a name of a stub where no call of one begins, or a call that is left
abbrev pub uncalled : Kind → Pos → Option Edit → Option TransRefusal
uncalled (kind.Word word.OpParLoop) at e = Some (LoopLeft at)
uncalled (kind.Name x) at None = if begins x then Some (NoCall at) else None
uncalled k at e = None

-- why the first of these tokens lets nothing be restored, if it does
abbrev pub refuses_call : List Token → Option TransRefusal
refuses_call [] = None
refuses_call (a ∷ ts) = uncalled a.kind a.at (to_call (a ∷ ts))

-- bytes, or a refusal
abbrev pub Outcome : Type 0
Outcome = Result (List ℕ) TransRefusal

-- the refusal if there is one, or these bytes
abbrev pub unless : Option TransRefusal → List ℕ → Outcome
unless None bytes = Ok bytes
unless (Some r) bytes = Err r

-- the translation of a source that was read, or its refusal
pub record Translates (bytes : List ℕ) (p : ProgramTree) (r : Outcome) : Type 0 where
  pub tokens : List Token
  pub lexed : Lexes bytes (Ok tokens)
  pub is : r ≡ unless (first_refusal refuses_stub tokens) (translation bytes tokens p)

-- the restoration of bytes, or its refusal
abbrev pub restored : List ℕ → Result (List Token) LexRefusal → Outcome
restored bytes (Err e) = Err (Lex e)
restored bytes (Ok tokens) = unless (first_refusal refuses_call tokens) (restoration bytes tokens)

-- the restoration of bytes that were lexed, or its refusal
pub record Restores (bytes : List ℕ) (r : Outcome) : Type 0 where
  pub found : Result (List Token) LexRefusal
  pub lexed : Lexes bytes found
  pub is : r ≡ restored bytes found

-- ---- the law

-- bytes whose tokens have the same kinds as those of other bytes
pub record SameKinds (one other : List ℕ) : Type 0 where
  pub tokens : List Token
  pub lexed : Lexes one (Ok tokens)
  pub others : List Token
  pub other_lexed : Lexes other (Ok others)
  pub kinds : map (λ t. t.kind) tokens ≡ map (λ t. t.kind) others

-- what is translated can be restored, with the same kinds of tokens
abbrev pub RestoresTranslations : Type 0
RestoresTranslations =
    (bytes translated : List ℕ) (p : ProgramTree)
    → Reads bytes p → Translates bytes p (Ok translated)
    → (back : List ℕ) × Restores translated (Ok back) × SameKinds bytes back
