-- Rows of owners while they are being filled.
use Rattle.std.specs.Prelude.{◌≡◌, ℕ, ◌/◌, ◌<◌, List, [], length, slice_index, slice_index_or}
use Rattle.mesh_decl.specs.Mesh.{MeshValue, set_size, map_to, map_dim}
use Rattle.lemmas.specs.Below.{count_below}
use Rattle.renumber.specs.Parts.{FillingValue}
use Rattle.partition.specs.Elected.{names, entries, gathered}

-- by map m, for each element the owners of those of the first e entries that name it, with room for all entries
pub record AreNamed (g : MeshValue) (m : ℕ) (owners : List ℕ) (e : ℕ) (f : FillingValue) : Type 0 where
  pub count : length f.rows ≡ set_size g (map_to g m)
  pub room : (y : ℕ) → y < set_size g (map_to g m) → slice_index f.room y ≡ count_below (entries g m) (names g m y)
  pub rows : (y : ℕ) → y < set_size g (map_to g m)
      → slice_index_or f.rows y [] ≡ gathered e (names g m y) (λ i. slice_index owners (i / map_dim g m))
