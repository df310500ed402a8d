use Rattle.std.proofs.Common.{List, ℕ, length, ap, arith}
use Rattle.step_orders.proofs.AloneRuns.{run_ended, run_unbegun}
use Rattle.step_orders.proofs.alone_walks.run_to_begin.Goals as goal

pub returns-then-here-run : goal.returns-then-here-run
returns-then-here-run c k r =
    run_ended k r c.args.runs.now c.args.here (omega (arith, ap (λ (z : List ℕ). length z) c.run.ensures, c.if-here-run.true)) c.if-here.true

pub returns-then-here-eq0 : goal.returns-then-here-eq0
returns-then-here-eq0 c k r = run_unbegun k r c.args.runs.now c.args.here (omega (arith, c.if-here-eq0.true)) c.if-not-here.true
