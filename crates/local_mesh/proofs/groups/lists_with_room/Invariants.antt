use Rattle.std.proofs.Common.{◌≡◌, ◌<◌, [], ℕ, length}
use Rattle.lemmas.specs.Below.{row}
use Rattle.local_mesh.proofs.groups.lists_with_room.Given as goal

abbrev pub invariant-loop-room : goal.invariant-loop-room
invariant-loop-room l = (length l.lists.items ≡ l.room-index) × ((r : ℕ) → r < l.room-index → row l.lists.items r ≡ [])
