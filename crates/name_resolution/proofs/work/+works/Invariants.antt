use Rattle.std.proofs.Common.{◌≡◌, ◌≤◌, ◌+◌, min, drop}
use Rattle.c_tree.specs.View.{stmts_of}
use Rattle.name_resolution.specs.Work.{work_of_all}
use Rattle.name_resolution.proofs.work.+works.Given as goal

abbrev pub invariant-work_of_all-loop-stmt : goal.invariant-work_of_all-loop-stmt
invariant-work_of_all-loop-stmt l = record {
  capped : l.total ≤ 1048577;
  so_far : min 1048577 (l.total + work_of_all (stmts_of (drop l.stmt-index l.stmts))) ≡ min 1048577 (work_of_all (stmts_of l.stmts));
}
