use Rattle.std.proofs.Common.{◌≡◌, ◌++◌, length}
use Rattle.mesh_decl.specs.Printed.{printed_line}
use Rattle.run_model.specs.Grows.{Grows}
use Rattle.run_model.proofs.gather.lines.put_line.Given as goal

abbrev pub invariant-loop-rest : goal.invariant-loop-rest
invariant-loop-rest l = record {
  text : l.out.items ++ printed_line l.rest l.left ≡ l.fn.out.items ++ printed_line l.text l.values;
  grows : Grows l.fn.out.items l.out.items;
}

abbrev pub decreases-loop-rest : goal.decreases-loop-rest
decreases-loop-rest l = length l.rest
