-- Elements by (degree, number).
use Rattle.std.specs.Prelude.{ℕ, ◌+◌, ◌*◌, ◌^◌}
use Rattle.lemmas.specs.Below.{count_below}
use Rattle.mesh_decl.specs.Mesh.{MeshValue, set_size, map_to}
use Rattle.renumber.specs.Neighbours.{are_neighbours}

-- how many neighbours an element has
unfoldable pub degree : MeshValue → ℕ → ℕ → ℕ
degree g m x = count_below (set_size g (map_to g m)) (are_neighbours g m x)

-- orders numbers below 2 ^ 32 by (degree, number)
unfoldable pub degree_order : MeshValue → ℕ → ℕ → ℕ
degree_order g m x = degree g m x * 2 ^ 32 + x
