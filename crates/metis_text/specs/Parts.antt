-- The lines of the first elements.
use Rattle.std.specs.Prelude.{◌≡◌, ℕ, List, ◌++◌, length, sum_by}
use Rattle.std.specs.List.{flat_map}
use Rattle.mesh_decl.specs.Mesh.{MeshValue}
use Rattle.metis_text.specs.Graph.{graph_line, AreRows}

-- the lines of the first n elements were appended, and they have so many neighbours
pub record HasLines (g : MeshValue) (m n : ℕ) (old new : List ℕ) (total : ℕ) : Type 0 where
  pub rows : List (List ℕ)
  pub are : AreRows g m n rows
  pub text : new ≡ old ++ flat_map graph_line rows
  pub count : total ≡ sum_by length rows
