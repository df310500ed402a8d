use Rattle.std.proofs.Common.{◌≡◌, ◌++◌, length}
use Rattle.op_num.specs.Automaton.{onto}
use Rattle.partition.specs.Reading.{gathered}
use Rattle.partition.proofs.part_text.read.gather.Given as goal

abbrev pub invariant-loop-given : goal.invariant-loop-given
invariant-loop-given l = record {
  same : gathered l.line l.fn.table.items ≡ onto (gathered l.line l.given-iterator.rest.items) (λ xs. l.sets.items ++ xs);
  len : length l.given-iterator.rest.items ≡ l.given-iterator.rest.len;
}
