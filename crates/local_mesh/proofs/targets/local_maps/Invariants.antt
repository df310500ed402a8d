use Rattle.std.proofs.Common.{◌≡◌, ◌<◌, ℕ, length}
use Rattle.lemmas.specs.Below.{row}
use Rattle.local_mesh.specs.LocalMesh.{AreLocalTargets}
use Rattle.local_mesh.proofs.targets.local_maps.Given as goal

abbrev pub invariant-loop-map : goal.invariant-loop-map
invariant-loop-map l = (length l.maps.items ≡ l.map) × ((m : ℕ) → m < l.map → AreLocalTargets l.mesh m l.sets (row l.maps.items m))
