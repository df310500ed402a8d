use Rattle.std.proofs.Common.{◌∙◌}
use Rattle.name_resolution.proofs.HostTurns.{exprs_first}
use Rattle.name_resolution.proofs.hosts.judge_exprs.Goals as goal

pub loop-expr-preserved : goal.loop-expr-preserved
loop-expr-preserved c =
    exprs_first c.args.known.file.now.entries c.args.known.own.now.entries c.args.exprs.now c.loop-expr.expr-index c.expr-item.result
    c.loop-expr.first _ c.loop-expr-test.true c.expr-item.is c.judge_expr.ensures ∙ c.loop-expr.invariant
