-- What is kept of all chains of a program.
use Rattle.std.specs.Prelude.{◌≡◌, ◌<◌, ◌≤◌, ◌-◌, ℕ, suc, true, false, List, length, drop, Option, Some, None, slice_index_or}
use Rattle.local_mesh.specs.RankSet.{has_at}
use Rattle.local_mesh.specs.declared.rank_sets.rank_set.RankSet.{RankSet}
use Rattle.mesh_decl.specs.declared.owners.Owners.{Owners}
use Rattle.mesh_decl.specs.Mesh.{dat_count, dat_set, set_size}
use Rattle.schedule_model.specs.Program.{is_free, elements}
use Rattle.bound_program.specs.Values.{BoundValue}
use Rattle.run_model.specs.Programs.{program_of}
use Rattle.chain_model.specs.Slices.{loops_from, needs}
use Rattle.chain_model.specs.Counts.{begins_at, chain_count, message_count}
use Rattle.chain_needs.specs.declared.chain_slices.shapes.Shape.{Shape}
use Rattle.chain_needs.specs.declared.chain_slices.sliced.LevelAt.{LevelAt}
use Rattle.chain_needs.specs.declared.chain_slices.sliced.Slices.{Slices}
use Rattle.chain_needs.specs.Shapes.{IsShape, loops_of}

-- the level is there, and the loops from it to the chain's end are those from the item on
pub record StandsAt (b : BoundValue) (shapes : List Shape) (k : ℕ) (at : LevelAt) : Type 0 where
  pub free : is_free ((program_of b).kind k) ≡ true
  pub shape : at.shape < length shapes
  pub level : (s : Shape) → at.level < length (slice_index_or shapes at.shape s).sites.items
  pub loops : (s : Shape)
      → drop (length (slice_index_or shapes at.shape s).sites.items - suc at.level) (loops_of b (slice_index_or shapes at.shape s))
      ≡ loops_from b k
  -- where a chain begins at the item, the level is that of the chain's first loop
  pub first : (s : Shape) → begins_at b k ≡ true → suc at.level ≡ length (slice_index_or shapes at.shape s).sites.items

-- a Free item has a level, and no other has one
abbrev pub IsPlace : BoundValue → List Shape → ℕ → Option LevelAt → Type 0
IsPlace b shapes k None = is_free ((program_of b).kind k) ≡ false
IsPlace b shapes k (Some at) = StandsAt b shapes k at

-- what is kept of chains is right
abbrev pub AreShapes : BoundValue → Owners → List Shape → Type 0
AreShapes b o shapes = (i : ℕ) (x : Shape) → i < length shapes → IsShape b o (slice_index_or shapes i x)

-- the first n items have their places
pub record ArePlaces (b : BoundValue) (shapes : List Shape) (n : ℕ) (places : List (Option LevelAt)) : Type 0 where
  pub count : length places ≡ n
  pub each : (k : ℕ) → k < n → IsPlace b shapes k (slice_index_or places k None)

-- the second list begins with the first
pub record Keeps (old new : List Shape) : Type 0 where
  pub longer : length old ≤ length new
  pub same : (i : ℕ) (x : Shape) → i < length old → slice_index_or new i x ≡ slice_index_or old i x

-- the place behind
abbrev pub next_of : Option LevelAt → Option LevelAt
next_of None = None
next_of (Some at) = Some (record { shape = at.shape; level = at.level - 1 })

-- the slices are those of the program on the ranks of these owners
pub record AreSlices (b : BoundValue) (o : Owners) (s : Slices) : Type 0 where
  pub few_ranks : o.ranks ≤ 64
  pub shapes : AreShapes b o s.shapes.items
  pub places : ArePlaces b s.shapes.items (length b.trace) s.places.items
  pub chains : s.chains ≡ chain_count b
  pub messages : s.messages ≡ message_count b o

-- the item is there, and Free
pub record IsFreeItem (b : BoundValue) (k : ℕ) : Type 0 where
  pub item : k < length b.trace
  pub free : is_free ((program_of b).kind k) ≡ true

-- the item is Free, and the rank and the pair exist
pub record IsPairOf (b : BoundValue) (o : Owners) (k r d y : ℕ) : Type 0 where
  pub item : IsFreeItem b k
  pub rank : r < o.ranks
  pub dat : d < dat_count b.mesh
  pub element : y < set_size b.mesh (dat_set b.mesh d)

-- the item is Free, and the rank exists, and the element of the item's loop
pub record IsElementOf (b : BoundValue) (o : Owners) (k r e : ℕ) : Type 0 where
  pub item : IsFreeItem b k
  pub rank : r < o.ranks
  pub element : e < elements (program_of b) k

-- by element of the dat's set, the ranks that need the pair before the item
pub record IsNeeded (b : BoundValue) (o : Owners) (k d : ℕ) (sets : List RankSet) : Type 0 where
  pub count : length sets ≡ set_size b.mesh (dat_set b.mesh d)
  pub has : (y r : ℕ) → y < set_size b.mesh (dat_set b.mesh d) → has_at sets y r ≡ needs b o k r d y
