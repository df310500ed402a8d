-- Where tokens stand, and which tokens begin a part of a tree.
use Rattle.std.specs.Prelude.{ℕ, ◌<◌, List, Option, Some, None, slice_index_or}
use Rattle.c_tree.specs.declared.lexer.tokens.Pos.{Pos}
use Rattle.c_tree.specs.declared.hosts.GlobalName.{GlobalName}
use Rattle.c_tree.specs.Tree.{ExprTree, Number, Name, Index, Deref, Unary, Binary, Choice, Paren, Extremum, Absolute}

-- the place that no token has
abbrev pub nowhere : Pos
nowhere = record { line = 0; column = 0 }

-- the place of the token with this number, where there is one
abbrev pub pos_of : List Pos → ℕ → Pos
pos_of places n = slice_index_or places n nowhere

-- the number of the first token of an expression
abbrev pub first_token : ExprTree → ℕ
first_token (Number n) = n.at
first_token (Name x) = x.at
first_token (Index x e) = x.at
first_token (Deref at x) = at
first_token (Unary op at e) = at
first_token (Binary op at l r) = first_token l
first_token (Choice at c y n) = first_token c
first_token (Paren at e) = at
first_token (Extremum w at a b) = at
first_token (Absolute at e) = at

-- the number of the first token of a global, its `&` or its name
abbrev pub first_token_of_global : GlobalName → ℕ
first_token_of_global g = by_ampersand g.ampersand
  where
    by_ampersand : Option ℕ → ℕ
    by_ampersand (Some at) = at
    by_ampersand None = g.name.at

-- a number that is kept is below n
abbrev pub IsBelow : ℕ → Option ℕ → Type 0
IsBelow n None = Unit {0}
IsBelow n (Some at) = at < n
