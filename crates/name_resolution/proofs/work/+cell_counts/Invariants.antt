use Rattle.std.proofs.Common.{◌≡◌, ◌≤◌, ◌+◌, min, drop}
use Rattle.c_tree.specs.View.{stmts_of}
use Rattle.name_resolution.specs.Work.{cells_of_all}
use Rattle.name_resolution.proofs.work.+cell_counts.Given as goal

abbrev pub invariant-cells_of_all-loop-stmt : goal.invariant-cells_of_all-loop-stmt
invariant-cells_of_all-loop-stmt l = record {
  capped : l.total ≤ 1025;
  so_far : min 1025 (l.total + cells_of_all (stmts_of (drop l.stmt-index l.stmts))) ≡ min 1025 (cells_of_all (stmts_of l.stmts));
}
