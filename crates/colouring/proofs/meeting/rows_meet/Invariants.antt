use Rattle.colouring.specs.Meeting.{Marked}
use Rattle.colouring.proofs.Marking.{NoneMeet}
use Rattle.colouring.proofs.meeting.rows_meet.Given as goal

abbrev pub invariant-loop-row : goal.invariant-loop-row
invariant-loop-row l = record {
  marked : Marked l.targets l.width l.order l.first l.row-index l.marks;
  apart : NoneMeet l.targets l.width l.colours l.order l.row-index;
}
