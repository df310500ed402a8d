use Rattle.std.proofs.Common.{rules}
use Rattle.explanations.proofs.error_loops.Judging.{stands_first, none_next, none_left}
use Rattle.explanations.proofs.error_loops.first.first_giving.Goals as goal

pub returns-in-Some : goal.returns-in-Some
returns-in-Some c =
    stands_first c.args.types.now.kernels.items c.args.judgement c.args.calls.now c.loop-call.call-index c.call-item.result (search rules) (search rules)
    c.in-Some.kernel.now c.loop-call.invariant (rw c.in-Some.is at c.in_ok-kernel.ensures)

pub loop-call-preserved : goal.loop-call-preserved
loop-call-preserved c =
    none_next c.args.types.now.kernels.items c.args.judgement c.args.calls.now c.loop-call.call-index c.call-item.result (search rules) (search rules)
    c.loop-call.invariant (rw c.in-None.is at c.in_ok-kernel.ensures)

pub returns : goal.returns
returns c =
    none_left c.args.types.now.kernels.items c.args.judgement c.args.calls.now c.loop-call.call-index (search rules) c.loop-call.invariant
