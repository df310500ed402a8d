use Rattle.std.proofs.Common.{◌≡◌, ◌++◌}
use Rattle.checkpoint.proofs.Placed.{row}
use Rattle.checkpoint.proofs.heads.put_places.Given as goal

abbrev pub invariant-loop-i : goal.invariant-loop-i
invariant-loop-i l = l.text.items ≡ l.initial.text.items ++ row l.i
