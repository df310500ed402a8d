use Rattle.std.proofs.Common.{◌≡◌, ◌<◌, ℕ, length}
use Rattle.std.specs.Prelude.{slice_index, slice_index_or}
use Rattle.local_mesh.specs.declared.types.RankMesh.{RankMesh}
use Rattle.colouring.specs.declared.types.Colours.{Colours}
use Rattle.colouring.specs.Colours.{AreColours}
use Rattle.loop_plan.proofs.sites.colours_by_rank.Given as goal

abbrev pub invariant-loop-rank : goal.invariant-loop-rank
invariant-loop-rank l =
    (length l.colours.items ≡ l.rank)
    × ((r : ℕ) (m : RankMesh) (d : Colours) → r < l.rank
    → AreColours l.mesh (slice_index_or l.ranks r m).maps.items l.args (slice_index l.places r) l.block (slice_index_or l.colours.items r d))
