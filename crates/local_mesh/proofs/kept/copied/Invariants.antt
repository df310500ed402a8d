use Rattle.std.proofs.Common.{◌≡◌, ◌<◌, ℕ, length}
use Rattle.lemmas.specs.Below.{row}
use Rattle.local_mesh.proofs.kept.copied.Given as goal

abbrev pub invariant-loop-list : goal.invariant-loop-list
invariant-loop-list l = (length l.copies.items ≡ l.list-index) × ((r : ℕ) → r < l.list-index → row l.copies.items r ≡ row l.lists r)
