-- The order of places in a source.
use Rattle.std.specs.Prelude.{◌≡◌, ℕ, ◌<◌, ◌⊎◌, List, Some, slice_get}
use Rattle.c_tree.specs.declared.lexer.tokens.Pos.{Pos}

-- an earlier place in the source
abbrev pub IsEarlier : Pos → Pos → Type 0
IsEarlier p q = (p.line < q.line) ⊎ ((p.line ≡ q.line) × (p.column < q.column))

-- of any two of these places, the one that comes first in the list is the earlier one
abbrev pub AreInOrder : List Pos → Type 0
AreInOrder ps =
    (m n : ℕ) (p q : Pos) → m < n → slice_get ps m ≡ Some p → slice_get ps n ≡ Some q → IsEarlier p q
