use Rattle.std.proofs.Common.{◌≡◌, ◌≤◌, length}
use Rattle.partition.specs.Spelling.{Table}
use Rattle.partition.specs.Reading.{Count, filled, run_from}
use Rattle.partition.proofs.part_text.read.read_ranks.Given as goal

abbrev pub invariant-loop-left : goal.invariant-loop-left
invariant-loop-left l = record {
  runs : (t : Table) → run_from l.mesh l.ranks (Count t l.set) l.fn.tokens ≡ run_from l.mesh l.ranks (filled t l.set l.left l.owners.items) l.tokens;
  fewer : length l.tokens.words ≤ length l.fn.tokens.words;
}

abbrev pub decreases-loop-left : goal.decreases-loop-left
decreases-loop-left l = l.left
