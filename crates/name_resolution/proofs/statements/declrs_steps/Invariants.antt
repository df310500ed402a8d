use Rattle.std.proofs.Common.{◌≡◌, ◌≤◌, map, drop}
use Rattle.c_tree.specs.View.{declr_of}
use Rattle.name_resolution.specs.First.{least_from}
use Rattle.name_resolution.specs.Numbers.{RowFits}
use Rattle.kernel_model.specs.View.{rstmts_of}
use Rattle.name_resolution.specs.Work.{behind, declrs_cells}
use Rattle.name_resolution.specs.Kernels.{declrs_steps, declrs_breaches, after_declrs}
use Rattle.name_resolution.proofs.Steps.{joined}
use Rattle.name_resolution.proofs.statements.declrs_steps.Given as goal

-- What the declarators so far came to, and the rest, come to what all do.
abbrev pub invariant-loop-declr : goal.invariant-loop-declr
invariant-loop-declr l = record {
  steps : joined (rstmts_of l.steps.items)
      (declrs_steps l.places l.file.entries l.walk.own.entries l.walk.next (map declr_of (drop l.declr-index l.declrs))) ≡ declrs_steps
      l.places l.file.entries l.initial.walk.own.entries l.initial.walk.next (map declr_of l.declrs);
  first : least_from l.walk.first
      (declrs_breaches l.file.entries l.walk.own.entries l.walk.next (map declr_of (drop l.declr-index l.declrs))) ≡ least_from
      l.initial.walk.first (declrs_breaches l.file.entries l.initial.walk.own.entries l.initial.walk.next (map declr_of l.declrs));
  own : after_declrs l.walk.own.entries l.walk.next (map declr_of (drop l.declr-index l.declrs)) ≡ after_declrs l.initial.walk.own.entries l.initial.walk.next (map declr_of l.declrs);
  next : behind l.walk.next (declrs_cells (map declr_of (drop l.declr-index l.declrs))) ≡ behind l.initial.walk.next (declrs_cells (map declr_of l.declrs));
  fits : RowFits (rstmts_of l.steps.items);
  low : l.walk.next ≤ 1024;
}
