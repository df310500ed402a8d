use Rattle.std.proofs.Common.{◌≡◌, ◌≤◌, ◌*◌, ◌++◌, length}
use Rattle.run_model.specs.Grows.{Grows}
use Rattle.run_model.specs.Dump.{copies_text}
use Rattle.run_model.proofs.gather.dumps.put_copies.Given as goal

abbrev pub invariant-loop-left : goal.invariant-loop-left
invariant-loop-left l = record {
  room : length l.left * l.dim ≤ length l.rest;
  text : l.out.items ++ copies_text l.dim l.left l.rest ≡ l.fn.out.items ++ copies_text l.dim l.elements l.values;
  grows : Grows l.fn.out.items l.out.items;
}

abbrev pub decreases-loop-left : goal.decreases-loop-left
decreases-loop-left l = length l.left
