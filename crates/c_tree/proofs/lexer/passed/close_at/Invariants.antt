use Rattle.std.proofs.Common.{length, ◌-◌, ◌≡◌, ◌≤◌, drop}
use Rattle.c_tree.specs.Front.{close_len, further}
use Rattle.c_tree.proofs.lexer.passed.close_at.Given as goal

abbrev pub invariant-loop-next : goal.invariant-loop-next
invariant-loop-next l = record {
  within : l.next ≤ length l.bytes;
  so_far : close_len l.bytes ≡ further l.next (close_len (drop l.next l.bytes));
}

abbrev pub decreases-loop-next : goal.decreases-loop-next
decreases-loop-next l = length l.bytes - l.next
