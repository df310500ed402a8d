use Rattle.std.proofs.Common.{◌≡◌, ◌<◌, ℕ, length}
use Rattle.mesh_decl.specs.Mesh.{set_size}
use Rattle.lemmas.specs.Below.{row, rows}
use Rattle.local_mesh.specs.Lists.{AreLocals, originals_of}
use Rattle.local_mesh.proofs.lists.locals_of_imports.Given as goal

abbrev pub invariant-loop-rank : goal.invariant-loop-rank
invariant-loop-rank l = (length l.numbers.items ≡ set_size l.mesh l.set) × (length l.imports.items ≡ l.rank)
    × ((r : ℕ) → r < l.rank → (length (rows l.imports.items r) ≡ l.owners.ranks)
    × ((a : ℕ) → a < l.owners.ranks → AreLocals (originals_of l.meshes r l.set) (row (rows l.halo.exports.items a) r)
    (row (rows l.imports.items r) a)))
