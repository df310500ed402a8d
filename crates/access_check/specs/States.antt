-- What the walk over a kernel keeps.
use Rattle.std.specs.Prelude.{ℕ, ℤ, List, Bool, Option, None, nat_eq, slice_index_or}
use Rattle.std.specs.Int.{bit_at}
use Rattle.kernel_model.specs.Obeys.{Counters}
use Rattle.access_check.specs.declared.components.Components.{Components}

-- the component is among them
unfoldable pub has_component : Components → ℕ → ℕ → Bool
has_component c a i = nat_eq (bit_at (slice_index_or c.words a 0) i) 1

-- a number, or none
abbrev pub number_of : Option ℤ → Option ℤ
number_of x = x

-- the values of counters by cell
abbrev pub counters_of : List (Option ℤ) → Counters
counters_of cells k = slice_index_or cells k None
