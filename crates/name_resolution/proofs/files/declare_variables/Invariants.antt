use Rattle.std.proofs.Common.{◌≡◌, map, drop}
use Rattle.c_tree.specs.View.{declr_of}
use Rattle.name_resolution.specs.First.{least_from}
use Rattle.name_resolution.specs.Programs.{constant_cells, after_variables, variables_breaches}
use Rattle.name_resolution.proofs.files.declare_variables.Given as goal

abbrev pub invariant-loop-declr : goal.invariant-loop-declr
invariant-loop-declr l = record {
  names : after_variables l.named.keys l.is_const l.walk.names.entries (map declr_of (drop l.declr-index l.declrs)) ≡ after_variables
      l.named.keys l.is_const l.initial.walk.names.entries (map declr_of l.declrs);
  cells : constant_cells l.walk.names.entries ≡ l.walk.constant_cells;
  kernels : l.walk.kernels.items ≡ l.initial.walk.kernels.items;
  first : least_from l.walk.first
      (variables_breaches l.named.keys l.is_const l.walk.names.entries (map declr_of (drop l.declr-index l.declrs))) ≡ least_from
      l.initial.walk.first (variables_breaches l.named.keys l.is_const l.initial.walk.names.entries (map declr_of l.declrs));
}
