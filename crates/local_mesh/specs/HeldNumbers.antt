-- How local numbers are held.
use Rattle.std.specs.Prelude.{ℕ, List, Option, Some, None, Vec}
use Rattle.std.specs.List.{range_with_len}
use Rattle.std.specs.declared.alloc.Global.{Global}

-- the numbers that stand in the list, or those of so many elements themselves
abbrev pub numbers_in : ℕ → Option (Vec ℕ Global) → List ℕ
numbers_in count (Some v) = v.items
numbers_in count None = range_with_len 0 count
