use Rattle.std.proofs.Common.{◌≡◌, length}
use Rattle.rank_program.proofs.room.open_places.Given as goal

abbrev pub invariant-loop-place : goal.invariant-loop-place
invariant-loop-place l = (length l.places.items ≡ l._place) × (l.places.capacity ≡ l.fn.places.capacity)
