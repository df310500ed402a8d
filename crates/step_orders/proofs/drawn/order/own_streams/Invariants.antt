use Rattle.std.proofs.Common.{◌≡◌, ◌<◌, ℕ, [], length, map, get_or}
use Rattle.schedule_steps.specs.Drawn.{own}
use Rattle.step_orders.specs.declared.own_steps.OwnSteps.{OwnSteps}
use Rattle.step_orders.specs.OwnLeft.{own_left}
use Rattle.step_orders.proofs.drawn.order.own_streams.Given as goal

abbrev pub invariant-loop-rank : goal.invariant-loop-rank
invariant-loop-rank g l = record {
  count : length l.streams.items ≡ l.rank;
  own : (r : ℕ) → r < l.rank
      → get_or (map (λ (s : OwnSteps g.row.S.Denot g.S.Shape). own_left (g.S.Shape.outline s.shape.now) (g.S.Shape.group s.shape.now) s.rank s.here) l.streams.items) r []
      ≡ own (g.S.Shape.outline l.shape) (g.S.Shape.group l.shape) r;
}
