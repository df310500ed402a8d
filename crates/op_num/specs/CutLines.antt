-- Bytes cut into lines, and a line cut into words.
use Rattle.std.specs.Prelude.{◌≡◌, ℕ, ◌+◌, Bool, false, nat_eq, List, [], ◌∷◌, ◌++◌, Option, Some, None}
use Rattle.std.specs.Borrow.{Bor}
use Rattle.std.specs.List.{All, slice_split}

-- the byte that ends a line
abbrev pub is_lf : ℕ → Bool
is_lf b = nat_eq b 10

-- the byte between two words
abbrev pub is_space : ℕ → Bool
is_space b = nat_eq b 32

-- there is no LF in it
abbrev pub HasNoLf : List ℕ → Type 0
HasNoLf bytes = All (λ b. is_lf b ≡ false) bytes

-- there is no space in it
abbrev pub HasNoSpace : List ℕ → Type 0
HasNoSpace bytes = All (λ b. is_space b ≡ false) bytes

-- how many lines were taken, and the bytes behind them
pub record Unread : Type 0 where
  pub taken : ℕ
  pub rest : List ℕ

-- no line of a text was taken yet
abbrev pub unread : List ℕ → Unread
unread text = record { taken = 0; rest = text }

-- these bytes, which come next, are taken as one line
pub record IsTaken (old new : Unread) (line : List ℕ) : Type 0 where
  pub whole : old.rest ≡ line ++ new.rest
  pub taken : new.taken ≡ old.taken + 1

-- The first line of what is to come is taken: the bytes up to the first LF, without it.
pub record Takes (old new : Unread) (line : List ℕ) : Type 0 where
  pub whole : old.rest ≡ line ++ 10 ∷ new.rest
  pub no_lf : HasNoLf line
  pub taken : new.taken ≡ old.taken + 1

-- The words of a line: what stands before, between and behind its spaces. So two spaces have an empty word between them, and a line
-- without bytes is one empty word.
abbrev pub words : List ℕ → List (List ℕ)
words line = slice_split is_space line

-- those of what is left of a line, where something is
abbrev pub words_to_come : Option (Bor (List ℕ)) → List (List ℕ)
words_to_come None = []
words_to_come (Some line) = words line.now
