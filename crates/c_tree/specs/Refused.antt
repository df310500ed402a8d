-- When bytes have no tree of at most 64 levels, and where that is seen.
use Rattle.std.specs.Prelude.{◌≡◌, ℕ, ◌≤◌, List, Option, Some, None, Ok, Err, map, slice_get}
use Rattle.c_tree.specs.declared.lexer.tokens.Pos.{Pos}
use Rattle.c_tree.specs.declared.lexer.tokens.Token.{Token}
use Rattle.c_tree.specs.Lexed.{Lexes, advance, start}
use Rattle.c_tree.specs.Tree.{ProgramTree}
use Rattle.c_tree.specs.Reads.{Prints}
use Rattle.c_tree.specs.declared.refusals.SourceRefusal.{SourceRefusal}
use Rattle.c_tree.specs.declared.refusals.SourceRefusal.TheVariants as refusal

-- the places of tokens
abbrev pub places : List Token → List Pos
places ts = map (λ t. t.at) ts

-- a place, or else this one
abbrev pub place_or : Option Pos → Pos → Pos
place_or (Some p) q = p
place_or None q = q

-- the place of the token of this number, or the place just past the last byte
abbrev pub place_at : List Pos → List ℕ → ℕ → Pos
place_at ps bytes n = place_or (slice_get ps n) (advance start bytes)

-- no tree has the tokens of the bytes, and the place is that of a token or the place just past the last byte
pub record HasNoTree (bytes : List ℕ) (at : Pos) : Type 0 where
  pub tokens : List Token
  pub lexed : Lexes bytes (Ok tokens)
  pub number : ℕ
  pub here : at ≡ place_at (places tokens) bytes number
  pub none : (p : ProgramTree) → Prints tokens p → ⊥

-- the bytes have tokens, and the place is that of a token behind at least 64 others
pub record IsFar (bytes : List ℕ) (at : Pos) : Type 0 where
  pub tokens : List Token
  pub lexed : Lexes bytes (Ok tokens)
  pub number : ℕ
  pub here : slice_get (places tokens) number ≡ Some at
  pub far : 64 ≤ number

-- when each refusal comes
abbrev pub CanRefuse : List ℕ → SourceRefusal → Type 0
CanRefuse bytes (refusal.Lex r) = Lexes bytes (Err r)
CanRefuse bytes (refusal.Syntax at) = HasNoTree bytes at
CanRefuse bytes (refusal.TooDeep at) = IsFar bytes at
CanRefuse bytes refusal.OutOfMemory = Unit {0}
