use Rattle.std.proofs.Common.{◌≡◌, ◌+◌, ◌<◌, ℕ, length, get_or}
use Rattle.mesh_decl.specs.Mesh.{target}
use Rattle.local_mesh.proofs.targets.push_targets.Given as goal

abbrev pub invariant-loop-place : goal.invariant-loop-place
invariant-loop-place l = (length l.table.items ≡ length l.initial.table.items + l.place)
    × ((k : ℕ) → k < length l.initial.table.items → get_or l.table.items k 0 ≡ get_or l.initial.table.items k 0)
    × ((i : ℕ) → i < l.place → get_or l.table.items (length l.initial.table.items + i) 0 ≡ get_or l.numbers
    (target l.mesh l.map l.element i) 0)
