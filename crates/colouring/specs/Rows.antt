-- The colour is the least number that no earlier conflicting row has.
use Rattle.std.specs.Prelude.{◌≡◌, ◌<◌, ◌≤◌, ◌+◌, ◌*◌, ◌/◌, ℕ, List, get_or, length}
use Rattle.colouring.specs.Blocks.{IsInBlock}

-- no number: of a dat without a base, and of a target without a mark
abbrev pub none : ℕ
none = 4294967295

-- the place k of the table of targets belongs to the row p, of w targets
abbrev pub In : List ℕ → ℕ → ℕ → ℕ → Type 0
In ts w p k = (p * w ≤ k) × (k < p * w + w) × (k < length ts)

-- two rows with a common target
abbrev pub Conflict : List ℕ → ℕ → ℕ → ℕ → Type 0
Conflict ts w q p = (j : ℕ) × (k : ℕ) × In ts w q j × In ts w p k × (get_or ts j 0 ≡ get_or ts k 0)

-- an earlier row with a common target has the colour
abbrev pub Taken : List ℕ → ℕ → List ℕ → ℕ → ℕ → Type 0
Taken ts w cs p c = (q : ℕ) × (q < p) × Conflict ts w q p × (get_or cs q 0 ≡ c)

-- the row has the least colour that no earlier row with a common target has
abbrev pub Least : List ℕ → ℕ → List ℕ → ℕ → Type 0
Least ts w cs p =
    ((q : ℕ) → q < p → Conflict ts w q p → get_or cs q 0 ≡ get_or cs p 0 → ⊥)
    × ((c : ℕ) → c < get_or cs p 0 → (q : ℕ) × (q < p) × Conflict ts w q p × (get_or cs q 0 ≡ c))

-- two rows with a common target, the first of which isn't before `first`
abbrev pub MeetFrom : List ℕ → ℕ → ℕ → ℕ → ℕ → Type 0
MeetFrom ts w first q p = (first ≤ q) × Conflict ts w q p

-- two places of one block with a common target
abbrev pub MeetWithin : List ℕ → ℕ → ℕ → ℕ → ℕ → Type 0
MeetWithin ts w size q p = (q / size ≡ p / size) × Conflict ts w q p

-- a place of one block has a common target with one of the other
abbrev pub BlocksMeet : List ℕ → ℕ → ℕ → ℕ → ℕ → ℕ → Type 0
BlocksMeet ts w places size b c = (q : ℕ) × (p : ℕ) × IsInBlock places size b q × IsInBlock places size c p × Conflict ts w q p
