use Rattle.std.proofs.Common.{◌≡◌, ◌<◌, ℕ, length, get_or}
use Rattle.local_mesh.specs.LocalMesh.{cells_before}
use Rattle.local_mesh.proofs.cells.first_cells.Given as goal

abbrev pub invariant-loop-dat : goal.invariant-loop-dat
invariant-loop-dat l = (length l.bases.items ≡ l.dat) × ((d : ℕ) → d < l.dat → get_or l.bases.items d 0 ≡ cells_before l.mesh l.sets d) × (l.cells ≡ cells_before l.mesh l.sets l.dat)
