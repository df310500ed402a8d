-- The elements that arguments reach by a rank's local numbers.
use Rattle.std.specs.Prelude.{◌≡◌, ℕ, ◌+◌, ◌*◌, ◌<◌, List, [], Option, Some, None, length, get_or, slice_index}
use Rattle.kernel_runs.specs.declared.row_batches.ways.LocalVia.{LocalVia}

-- the local number of the element that a place reaches
abbrev pub local_in : Option LocalVia → ℕ → ℕ
local_in None x = x
local_in (Some v) x = slice_index v.targets.now (x * v.step + v.index)

-- the way leads somewhere from the place
abbrev pub HasTarget : Option LocalVia → ℕ → Type 0
HasTarget None x = Unit {0}
HasTarget (Some v) x = x * v.step + v.index < length v.targets.now

-- each way has the local numbers of the elements that it reaches from the first places of a batch
abbrev pub AreNumbers : (rows : ℕ) → List (Option LocalVia) → (batch : List ℕ) → (numbers : List (List ℕ)) → Type 0
AreNumbers rows ways batch numbers =
    (w l : ℕ)
    → w < length ways → l < rows → slice_index (get_or numbers w []) l ≡ local_in (get_or ways w None) (slice_index batch l)
