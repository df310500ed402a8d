use Rattle.std.proofs.Common.{◌≡◌, ◌≤◌, ◌+◌, min, map, drop}
use Rattle.c_tree.specs.View.{declr_of}
use Rattle.name_resolution.specs.Work.{declrs_cells}
use Rattle.name_resolution.proofs.work.declrs_cells.Given as goal

abbrev pub invariant-loop-declr : goal.invariant-loop-declr
invariant-loop-declr l = record {
  capped : l.total ≤ 1025;
  so_far : min 1025 (l.total + declrs_cells (map declr_of (drop l.declr-index l.declrs))) ≡ min 1025 (declrs_cells (map declr_of l.declrs));
}
