use Rattle.std.proofs.Common.{◌≡◌, ◌<◌, ◌*◌, ℕ, length, get_or}
use Rattle.mesh_decl.specs.Mesh.{set_size, map_to, map_dim}
use Rattle.lemmas.specs.Below.{count_below}
use Rattle.partition.specs.Elected.{names}
use Rattle.partition.proofs.derived.naming_counts.Given as goal

abbrev pub invariant-loop-element : goal.invariant-loop-element
invariant-loop-element l = (length l.counts.items ≡ set_size l.mesh (map_to l.mesh l.map))
    × ((y : ℕ) → y < set_size l.mesh (map_to l.mesh l.map) → get_or l.counts.items y 0 ≡ count_below (l.element * map_dim l.mesh l.map) (names l.mesh l.map y))
