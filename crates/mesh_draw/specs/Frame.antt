-- Where the nodes of a plane mesh lie, and how large a picture of them is.
use Rattle.std.specs.Prelude.{◌≡◌, ℕ, ℤ, pos, ◌+◌, ◌*◌, ◌/◌, ◌<◌, ◌≤ℤ◌, ◌-ℤ◌, max, List, slice_index_or, unsigned_abs}
use Rattle.mesh_draw.specs.declared.picture.frame.Extent.{Extent}
use Rattle.mesh_draw.specs.declared.picture.frame.Frame.{Frame}

-- coordinate k of a node, from the coordinates of all nodes, two for each
abbrev pub coordinate : List ℤ → (node k : ℕ) → ℤ
coordinate values node k = slice_index_or values (node * 2 + k) (pos 0)

-- one of n numbers is z
abbrev pub IsOne : (n : ℕ) → (ℕ → ℤ) → ℤ → Type 0
IsOne n f z = (i : ℕ) × (i < n) × (f i ≡ z)

-- the least and the greatest of n numbers, or 0 and 0 where there are none
pub record IsExtent (n : ℕ) (f : ℕ → ℤ) (e : Extent) : Type 0 where
  pub within : (i : ℕ) → i < n → (e.low ≤ℤ f i) × (f i ≤ℤ e.high)
  pub tight : 0 < n → IsOne n f e.low × IsOne n f e.high
  pub none : n ≡ 0 → (e.low ≡ pos 0) × (e.high ≡ pos 0)

-- where so many nodes with these coordinates lie
pub record IsFrame (nodes : ℕ) (values : List ℤ) (f : Frame) : Type 0 where
  pub across : IsExtent nodes (λ n. coordinate values n 0) f.across
  pub up : IsExtent nodes (λ n. coordinate values n 1) f.up

-- how far an extent reaches
abbrev pub span : Extent → ℕ
span e = unsigned_abs (e.high -ℤ e.low)

-- In a picture a length of 1 is 50 long, so that what is left free on each side can be a fiftieth of the longer one; it is 1 at least.
abbrev pub margin : Frame → ℕ
margin f = max 1 (max (span f.across) (span f.up))

-- the length of a side with its margins
abbrev pub with_margins : Frame → Extent → ℕ
with_margins f e = 50 * span e + 2 * margin f

-- how many pixels a side has: the longer one has 800, and each has 1 at least
abbrev pub pixels : Frame → Extent → ℕ
pixels f e = max 1 (800 * with_margins f e / max (with_margins f f.across) (with_margins f f.up))

-- how far a node lies from the left
abbrev pub from_left : Frame → List ℤ → ℕ → ℕ
from_left f values node = 50 * unsigned_abs (coordinate values node 0 -ℤ f.across.low)

-- how far a node lies from the top
abbrev pub from_top : Frame → List ℤ → ℕ → ℕ
from_top f values node = 50 * unsigned_abs (f.up.high -ℤ coordinate values node 1)
