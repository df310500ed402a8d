-- Neighbours that aren't marked.
use Rattle.std.specs.Prelude.{◌≡◌, ℕ, ◌<◌, Bool, true, false, List, length, slice_index, slice_index_or, Contains}
use Rattle.mesh_decl.specs.Mesh.{MeshValue}
use Rattle.renumber.specs.Keys.{keyed}
use Rattle.renumber.specs.Neighbours.{are_neighbours}
use Rattle.renumber.specs.Taken.{Rises}

-- x's neighbours that aren't marked, by (key, number)
pub record AreUnseen (g : MeshValue) (m x : ℕ) (seen : List Bool) (keys items : List ℕ) : Type 0 where
  pub near : (k : ℕ) → k < length items → are_neighbours g m x (slice_index items k) ≡ true
  pub all : (y : ℕ) → are_neighbours g m x y ≡ true → slice_index_or seen y false ≡ false → Contains items y
  pub rises : Rises (keyed keys) items
