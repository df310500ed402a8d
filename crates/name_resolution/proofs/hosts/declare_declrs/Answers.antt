use Rattle.std.proofs.Common.{◌∙◌}
use Rattle.name_resolution.proofs.HostTurns.{declrs_own, declrs_first}
use Rattle.name_resolution.proofs.hosts.declare_declrs.Goals as goal

pub loop-declr-preserved : goal.loop-declr-preserved
loop-declr-preserved c =
    let e = c.in_ok-declare_declr.ensures in
    let i = c.loop-declr.invariant in
    record {
      own = declrs_own c.loop-declr.own.entries _ c.args.is_const c.args.declrs.now c.loop-declr.declr-index c.declr-item.result c.loop-declr-test.true c.declr-item.is e.own ∙ i.own;
      first = declrs_first c.args.file.now.entries c.loop-declr.own.entries _ c.args.is_const c.args.declrs.now c.loop-declr.declr-index
          c.declr-item.result c.loop-declr.first _ c.loop-declr-test.true c.declr-item.is e.first e.own ∙ i.first;
    }
