use Rattle.std.proofs.Common.{◌≡◌, ◌<◌, ◌*◌, ◌⊎◌, ℕ, get_or, length}
use Rattle.colouring.specs.Rows.{none}
use Rattle.colouring.proofs.Alike.{NoneAlike}
use Rattle.colouring.proofs.conflicts.marked_places_meet.Given as goal

abbrev pub invariant-loop-block : goal.invariant-loop-block
invariant-loop-block l = record {
  marks : (t : ℕ) → t < length l.marks → (get_or l.marks t 0 ≡ none) ⊎ (get_or l.marks t 0 < l.block * l.size);
  apart : NoneAlike l.table l.width l.size l.colours (l.block * l.size);
}
