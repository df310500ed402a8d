use Rattle.std.proofs.Common.{◌≡◌, None}
use lib.ListN.{replicate}
use Rattle.partition.proofs.part_text.read.unowned.Given as goal

abbrev pub invariant-loop : goal.invariant-loop
invariant-loop l = record {
  same : l.table.items ≡ replicate l.counter None;
}
