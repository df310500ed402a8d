use Rattle.std.proofs.Common.{◌≡◌, ◌<◌, ℕ, length, get_or}
use Rattle.gmsh_mesh.specs.Sides.{source}
use Rattle.gmsh_mesh.proofs.cell_sides.listing.all_sides.Given as goal

abbrev pub invariant-loop-place : goal.invariant-loop-place
invariant-loop-place l = record {
  size : length l.all.items ≡ l.place;
  each : (i : ℕ) → i < l.place → get_or l.all.items i 0 ≡ get_or l.cells (source l.shape i) 0;
}
