use Rattle.std.proofs.Common.{◌≡◌, ◌≤◌, drop}
use Rattle.c_tree.specs.View.{stmts_of}
use Rattle.name_resolution.specs.First.{least_from}
use Rattle.name_resolution.specs.Numbers.{RowFits}
use Rattle.kernel_model.specs.View.{rstmts_of}
use Rattle.name_resolution.specs.Work.{behind, cells_of_all}
use Rattle.name_resolution.specs.Kernels.{steps, stmts_breaches, after_stmts}
use Rattle.name_resolution.proofs.Steps.{joined}
use Rattle.name_resolution.proofs.statements.+steps.Given as goal

-- What the statements so far came to, and the rest, come to what all do.
abbrev pub invariant-steps-loop-stmt : goal.invariant-steps-loop-stmt
invariant-steps-loop-stmt l = record {
  steps : joined (rstmts_of l.steps.items)
      (steps l.places l.file.entries l.walk.own.entries l.walk.next (stmts_of (drop l.stmt-index l.stmts))) ≡ steps l.places l.file.entries
      l.initial.walk.own.entries l.initial.walk.next (stmts_of l.stmts);
  first : least_from l.walk.first (stmts_breaches l.file.entries l.walk.own.entries l.walk.next (stmts_of (drop l.stmt-index l.stmts))) ≡
      least_from l.initial.walk.first (stmts_breaches l.file.entries l.initial.walk.own.entries l.initial.walk.next (stmts_of l.stmts));
  own : after_stmts l.walk.own.entries l.walk.next (stmts_of (drop l.stmt-index l.stmts)) ≡ after_stmts l.initial.walk.own.entries l.initial.walk.next (stmts_of l.stmts);
  next : behind l.walk.next (cells_of_all (stmts_of (drop l.stmt-index l.stmts))) ≡ behind l.initial.walk.next (cells_of_all (stmts_of l.stmts));
  fits : RowFits (rstmts_of l.steps.items);
  low : l.walk.next ≤ 1024;
}
