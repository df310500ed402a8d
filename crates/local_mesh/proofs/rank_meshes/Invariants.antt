use Rattle.std.proofs.Common.{◌≡◌, ◌<◌, ℕ, length, get_or}
use Rattle.local_mesh.specs.declared.types.RankMesh.{RankMesh}
use Rattle.local_mesh.specs.LocalMesh.{IsRankMesh}
use Rattle.local_mesh.proofs.rank_meshes.Given as goal

abbrev pub invariant-loop-rank : goal.invariant-loop-rank
invariant-loop-rank l = (length l.ranks.items ≡ l.rank) × ((r : ℕ) (d : RankMesh) → r < l.rank → IsRankMesh l.mesh l.owners l.perms r (get_or l.ranks.items r d))
