use Rattle.std.proofs.Common.{◌≡◌, ◌<◌, ◌+◌, ℕ, get_or, length}
use Rattle.colouring.proofs.meeting.order_rows.Given as goal

abbrev pub invariant-loop-row : goal.invariant-loop-row
invariant-loop-row l = record {
  count : l.first + length l.order.items ≡ l.row;
  rows : (a : ℕ) → a < length l.order.items → get_or l.order.items a 0 ≡ l.first + a;
}
