use Rattle.std.proofs.Common.{◌≡◌, ◌<◌, ℕ, length}
use Rattle.lemmas.specs.Below.{rows}
use Rattle.local_mesh.specs.Lists.{AreAllRead}
use Rattle.local_mesh.proofs.lists.read_exports.Given as goal

abbrev pub invariant-loop-lists : goal.invariant-loop-lists
invariant-loop-lists l = (length l.found.items ≡ l.lists-index) × ((a : ℕ) → a < l.lists-index → AreAllRead l.table (rows l.exports a) (rows l.found.items a))
