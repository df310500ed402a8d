use Rattle.std.proofs.Common.{◌≡◌, ◌+◌, ◌*◌, ◌<◌, ℕ, length, get_or}
use Rattle.mesh_decl.specs.Mesh.{target, map_dim}
use Rattle.local_mesh.proofs.targets.local_targets.Given as goal

abbrev pub invariant-loop-element : goal.invariant-loop-element
invariant-loop-element l = (length l.table.items ≡ l.element-index * map_dim l.mesh l.map)
    × ((k i : ℕ) → k < l.element-index → i < map_dim l.mesh l.map
    → get_or l.table.items (k * map_dim l.mesh l.map + i) 0 ≡ get_or l.numbers (target l.mesh l.map (get_or l.elements k 0) i) 0)
