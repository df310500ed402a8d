use Rattle.std.proofs.Common.{◌∙◌}
use Rattle.name_resolution.proofs.FileTurns.{variables_names, variables_first}
use Rattle.name_resolution.proofs.files.declare_variables.Goals as goal

pub loop-declr-preserved : goal.loop-declr-preserved
loop-declr-preserved c =
    let e = c.in_ok-declare_variable.ensures in
    let i = c.loop-declr.invariant in
    record {
      names = variables_names c.args.named.now.keys c.args.is_const c.loop-declr.walk.names.entries _ c.args.declrs.now
          c.loop-declr.declr-index c.declr-item.result c.loop-declr-test.true c.declr-item.is e.names ∙ i.names;
      cells = e.cells;
      kernels = e.kernels ∙ i.kernels;
      first = variables_first c.args.named.now.keys c.args.is_const c.loop-declr.walk.names.entries _ c.args.declrs.now
          c.loop-declr.declr-index c.declr-item.result c.loop-declr.walk.first _ c.loop-declr-test.true c.declr-item.is e.first e.names
          ∙ i.first;
    }
