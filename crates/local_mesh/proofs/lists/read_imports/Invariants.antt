use Rattle.std.proofs.Common.{◌≡◌, ◌<◌, ℕ, length}
use Rattle.lemmas.specs.Below.{row, rows}
use Rattle.local_mesh.specs.Lists.{AreRead}
use Rattle.local_mesh.proofs.lists.read_imports.Given as goal

abbrev pub invariant-loop-lists : goal.invariant-loop-lists
invariant-loop-lists l = (length l.found.items ≡ l.lists-index) × ((a : ℕ) → a < l.lists-index → AreRead l.table (row (rows l.exports a) l.rank) (row l.found.items a))
