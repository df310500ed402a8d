use Rattle.std.proofs.Common.{◌≡◌, length}
use Rattle.local_mesh.proofs.groups.lengths_of.Given as goal

abbrev pub invariant-loop-list : goal.invariant-loop-list
invariant-loop-list l = length l.lengths.items ≡ l.list-index
