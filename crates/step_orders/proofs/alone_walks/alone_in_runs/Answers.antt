use Rattle.std.proofs.Common.{◌++◌, ◌∙◌, sym, ap}
use Rattle.step_orders.specs.Alone.{alone}
use Rattle.step_orders.proofs.AloneRuns.{at_run}
use Rattle.step_orders.proofs.alone_walks.alone_in_runs.Goals as goal

pub returns-clause-some : goal.returns-clause-some
returns-clause-some c is k r =
    c.in-Some.ensures k r
    ∙ (c.put_alone-next.ensures.alone k r
    ∙ ap (λ z. alone k r c.put_alone-next.new.places.items ++ z) (sym (at_run k r c.args.runs.now c.put_alone-next.result)))
