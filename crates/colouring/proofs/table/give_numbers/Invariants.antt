use Rattle.std.proofs.Common.{◌≡◌, length}
use Rattle.colouring.specs.Table.{copies_of, AreBases, HaveBases}
use Rattle.colouring.proofs.table.give_numbers.Given as goal

abbrev pub invariant-loop-a : goal.invariant-loop-a
invariant-loop-a l = record {
  count : length l.starts.items ≡ l.a;
  bases : AreBases (copies_of l.mesh l.rank.sets.items) l.bases l.total;
  have : HaveBases l.args l.starts.items l.bases l.a;
}
