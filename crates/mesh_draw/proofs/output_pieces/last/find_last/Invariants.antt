use Rattle.std.proofs.Common.{◌≡◌}
use Rattle.bound_program.specs.Values.{bound_of}
use Rattle.mesh_draw.specs.Pieces.{lines_before}
use Rattle.mesh_draw.specs.LastFound.{IsFoundLast}
use Rattle.mesh_draw.proofs.output_pieces.last.find_last.Given as goal

abbrev pub invariant-loop-item : goal.invariant-loop-item
invariant-loop-item l = record {
  found : IsFoundLast (bound_of l.fn.bound) l.item-index l.fn.dat l.last;
  lines : l.before ≡ lines_before (bound_of l.fn.bound) l.item-index;
}
