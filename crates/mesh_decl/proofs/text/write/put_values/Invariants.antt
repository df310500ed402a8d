use Rattle.std.proofs.Common.{◌≡◌, ◌++◌, length}
use Rattle.op_num.specs.Lines.{line_of}
use Rattle.mesh_decl.specs.Canonical.{FitI32, pieces_of}
use Rattle.mesh_decl.proofs.text.write.put_values.Given as goal

abbrev pub invariant-loop-rest : goal.invariant-loop-rest
invariant-loop-rest l = record {
  text : l.out.items ++ line_of (pieces_of l.form l.rest) ≡ l.fn.out.items ++ line_of (pieces_of l.form l.values);
  numbers : FitI32 l.rest → FitI32 l.values;
}

abbrev pub decreases-loop-rest : goal.decreases-loop-rest
decreases-loop-rest l = length l.rest
