use Rattle.std.proofs.Common.{◌≡◌, ◌+◌, ◌*◌, ◌^◌, ◌<◌, ℕ, length, get_or}
use Rattle.gmsh_mesh.proofs.equal_keys.rows.joined.Given as goal

abbrev pub invariant-loop-row : goal.invariant-loop-row
invariant-loop-row l = record {
  size : length l.keys.items ≡ l.row;
  each : (i : ℕ) → i < l.row → get_or l.keys.items i 0 ≡ get_or l.of i 0 * 2 ^ 32 + get_or l.rows (i * l.width + l.column) 0;
}
