use Rattle.std.proofs.Common.{arith}
use Rattle.loop_plan.proofs.Running.{reducing_more}
use Rattle.loop_plan.proofs.sites.reducing_args.Goals as goal

pub loop-arg-preserved : goal.loop-arg-preserved
loop-arg-preserved c =
    reducing_more c.args.args.now c.loop-arg.arg-index _ c.loop-arg.found.items c.push_reducing.new.args.items (omega (arith, c.loop-arg-test.true))
    c.loop-arg.invariant c.in_ok-push_reducing.ensures
