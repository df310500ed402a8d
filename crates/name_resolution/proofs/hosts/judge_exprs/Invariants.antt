use Rattle.std.proofs.Common.{◌≡◌, map, drop}
use Rattle.c_tree.specs.View.{expr_of}
use Rattle.name_resolution.specs.First.{least_from}
use Rattle.name_resolution.specs.Mains.{exprs_breaches}
use Rattle.name_resolution.proofs.hosts.judge_exprs.Given as goal

abbrev pub invariant-loop-expr : goal.invariant-loop-expr
invariant-loop-expr l =
    least_from l.first (exprs_breaches l.known.file.now.entries l.known.own.now.entries (map expr_of (drop l.expr-index l.exprs))) ≡
    least_from l.initial.first (exprs_breaches l.known.file.now.entries l.known.own.now.entries (map expr_of l.exprs))
