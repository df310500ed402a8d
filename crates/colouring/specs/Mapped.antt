-- Arguments that lead by the targets of one map in order, and colours of a table of numbers.
use Rattle.std.specs.Prelude.{◌≡◌, ℕ, ◌*◌, ◌<◌, ◌↔◌, List, Some, length, slice_index, slice_index_or}
use Rattle.mesh_decl.specs.Mesh.{MeshValue, map_count, map_dim}
use Rattle.colouring.specs.declared.types.IncArg.{IncArg}
use Rattle.colouring.specs.declared.types.Colours.{Colours}
use Rattle.colouring.specs.Rows.{MeetWithin, BlocksMeet}
use Rattle.colouring.specs.Colours.{IsLeast}

-- the argument leads by this target of the map, and its numbers start at 0
abbrev pub IsColumn : ℕ → ℕ → ℕ → IncArg → Type 0
IsColumn map start index x = (start ≡ 0) × (x.via ≡ Some (record { map = map; index = index }))

-- the arguments lead by all targets of the map in order, and their numbers start at 0
pub record AreColumns (g : MeshValue) (args : List IncArg) (starts : List ℕ) (map : ℕ) : Type 0 where
  pub some : 0 < length args
  pub within : map < map_count g
  pub dim : map_dim g map ≡ length args
  pub columns : (a : ℕ) (x : IncArg) → a < length args → IsColumn map (slice_index starts a) a (slice_index_or args a x)

-- the least colours of the blocks of this size, and of the rows within each
pub record AreRowColours (table : List ℕ) (width places size : ℕ) (c : Colours) : Type 0 where
  pub count : (b : ℕ) → (b < length c.blocks.items) ↔ (b * size < places)
  pub long : length c.inner.items ≡ places
  pub blocks : (b : ℕ) → b < length c.blocks.items → IsLeast (BlocksMeet table width places size) c.blocks.items b
  pub inner : (p : ℕ) → p < places → IsLeast (MeetWithin table width size) c.inner.items p
