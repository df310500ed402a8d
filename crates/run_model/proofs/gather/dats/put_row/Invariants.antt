use Rattle.std.proofs.Common.{◌≡◌, ◌++◌, length}
use Rattle.mesh_decl.specs.Printed.{row_text}
use Rattle.run_model.specs.Grows.{Grows}
use Rattle.run_model.proofs.gather.dats.put_row.Given as goal

abbrev pub invariant-loop-rest : goal.invariant-loop-rest
invariant-loop-rest l = record {
  text : l.out.items ++ row_text l.rest ≡ l.fn.out.items ++ row_text l.values;
  grows : Grows l.fn.out.items l.out.items;
}

abbrev pub decreases-loop-rest : goal.decreases-loop-rest
decreases-loop-rest l = length l.rest
