use Rattle.std.proofs.Common.{◌≡◌, ◌<◌, ℕ, length}
use Rattle.lemmas.specs.Below.{row}
use Rattle.local_mesh.specs.Lists.{AreRead}
use Rattle.local_mesh.proofs.lists.read_lists.Given as goal

abbrev pub invariant-loop-places : goal.invariant-loop-places
invariant-loop-places l = (length l.found.items ≡ l.places-index) × ((r : ℕ) → r < l.places-index → AreRead l.table (row l.lists r) (row l.found.items r))
