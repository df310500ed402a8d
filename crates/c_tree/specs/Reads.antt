-- When a tree is that of a source.
use Rattle.std.specs.Prelude.{◌≡◌, ℕ, suc, List, [], ◌∷◌, Option, Some, None, Ok, map, nat_lt, if◌then◌else◌}
use Rattle.c_tree.specs.declared.lexer.tokens.Kind.{Kind}
use Rattle.c_tree.specs.declared.lexer.tokens.Token.{Token}
use Rattle.c_tree.specs.Lexed.{Lexes}
use Rattle.c_tree.specs.Tree.{ProgramTree}
use Rattle.c_tree.specs.Print.{Mark, program}
use Rattle.c_tree.specs.Grouped.{IsProgram}

-- the kinds of the tokens that a tree prints, in order
abbrev pub shown : ProgramTree → List Kind
shown p = map (λ m. m.kind) (program p)

-- a number that is kept is n
abbrev pub Keeps : ℕ → Option ℕ → Type 0
Keeps n None = Unit {0}
Keeps n (Some at) = at ≡ n

-- Each number that a node keeps is the number of its token, the first token's being n.
abbrev pub AreNumbered : ℕ → List Mark → Type 0
AreNumbered n [] = Unit {0}
AreNumbered n (m ∷ ms) = Keeps n m.number × AreNumbered (suc n) ms

-- the number of the first token that stands beyond level 64, the first token's being n
abbrev pub first_deep : ℕ → List Mark → Option ℕ
first_deep n [] = None
first_deep n (m ∷ ms) = if nat_lt 64 m.level then Some n else first_deep (suc n) ms

-- The tree prints these tokens, keeps their numbers and places, and is well formed, however deep it is.
pub record Prints (tokens : List Token) (p : ProgramTree) : Type 0 where
  pub kinds : shown p ≡ map (λ t. t.kind) tokens
  pub places : p.places ≡ map (λ t. t.at) tokens
  pub numbered : AreNumbered 0 (program p)
  pub grouped : IsProgram p

-- The tree is that of the bytes, and has at most 64 levels.
pub record Reads (bytes : List ℕ) (p : ProgramTree) : Type 0 where
  pub tokens : List Token
  pub lexed : Lexes bytes (Ok tokens)
  pub prints : Prints tokens p
  pub shallow : first_deep 0 (program p) ≡ None

-- The tree is that of the bytes, and n is the number of its first token beyond level 64.
pub record Deep (bytes : List ℕ) (p : ProgramTree) (n : ℕ) : Type 0 where
  pub tokens : List Token
  pub lexed : Lexes bytes (Ok tokens)
  pub prints : Prints tokens p
  pub first : first_deep 0 (program p) ≡ Some n
