use Rattle.std.proofs.Common.{FitsSigned, w32}
use Rattle.mesh_draw.specs.Frame.{coordinate, IsExtent}
use Rattle.mesh_draw.proofs.picture.frame.extent_of.Given as goal

abbrev pub invariant-loop-node : goal.invariant-loop-node
invariant-loop-node l = record {
  extent : IsExtent l.node (λ n. coordinate l.values n l.k) l.found;
  fits : FitsSigned w32 l.found.low × FitsSigned w32 l.found.high;
}
