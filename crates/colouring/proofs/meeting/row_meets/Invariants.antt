use Rattle.std.proofs.Common.{ℕ, get_or}
use Rattle.colouring.specs.Meeting.{IsMet}
use Rattle.colouring.proofs.Marking.{Seen, AreMarked}
use Rattle.colouring.proofs.meeting.row_meets.Given as goal

abbrev pub invariant-loop-k : goal.invariant-loop-k
invariant-loop-k l = record {
  marks : AreMarked l.targets l.start l.k l.row l.fn.marks l.marks;
  clear : (t : ℕ) → Seen l.targets l.start l.k t → IsMet l.colours l.first l.row (get_or l.fn.marks t 0) → ⊥;
}
