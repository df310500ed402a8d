use Rattle.std.proofs.Common.{◌≡◌, ◌<◌, ◌+◌, ◌*◌, ℕ, get_or}
use Rattle.mesh_decl.specs.Mesh.{set_size, map_to, map_dim}
use Rattle.lemmas.specs.Below.{count_below}
use Rattle.partition.specs.Elected.{names}
use Rattle.partition.proofs.derived.count_targets.Given as goal

abbrev pub invariant-loop-place : goal.invariant-loop-place
invariant-loop-place l = (y : ℕ) → y < set_size l.mesh (map_to l.mesh l.map) → get_or l.counts y 0 ≡ count_below (l.element * map_dim l.mesh l.map + l.place) (names l.mesh l.map y)
