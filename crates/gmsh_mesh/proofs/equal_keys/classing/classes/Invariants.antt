use Rattle.std.proofs.Common.{◌≡◌, ◌<◌, ℕ, length, get_or}
use Rattle.gmsh_mesh.specs.EqualKeys.{IsPoint}
use Rattle.gmsh_mesh.proofs.equal_keys.classing.classes.Given as goal

abbrev pub invariant-loop-key : goal.invariant-loop-key
invariant-loop-key l = record {
  size : length l.of.items ≡ l.key-index;
  points : (i : ℕ) → i < l.key-index → IsPoint l.sorted.items (get_or l.keys i 0) (get_or l.of.items i 0);
}
