use Rattle.std.proofs.Common.{◌+◌, ◌++◌, ◌∙◌, ℕ, List, drop, sym, ap}
use Rattle.step_orders.specs.Alone.{alone}
use Rattle.step_orders.specs.Runs.{each_alone}
use Rattle.step_orders.specs.Left.{in_runs}
use Rattle.step_orders.proofs.AloneRuns.{alone_more}
use Rattle.step_orders.proofs.alone_walks.put_elements.Goals as goal

pub loop-at-preserved : goal.loop-at-preserved
loop-at-preserved c =
    let xs : List ℕ = c.args.elements.now in
    let i : ℕ = c.loop-at.at in
    record {
      alone = λ k r.
          c.loop-at.invariant.alone k r
          ∙ (alone_more k r xs c.loop-at.places.items i c.loop-at-test.true
          ∙ ap (λ z. alone k r z ++ in_runs k r (drop (i + 1) (each_alone xs))) (sym c.push_reserved.ensures.items));
      room = c.push_reserved.ensures.capacity ∙ c.loop-at.invariant.room;
    }
