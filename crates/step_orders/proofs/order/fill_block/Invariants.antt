use Rattle.std.proofs.Common.{◌≡◌, ◌+◌, ◌≤◌, ◌/◌, max, length}
use Rattle.std.specs.Prelude.{◌==◌}
use Rattle.schedule_steps.specs.Drawn.{numbers}
use Rattle.step_orders.proofs.order.fill_block.Given as goal

abbrev pub invariant-loop-place : goal.invariant-loop-place
invariant-loop-place l = record {
  places : l.places.items ≡ numbers (λ x. x / l.size == l.block) l.place;
  count : length l.places.items + l.first ≡ l.place;
  most : l.place ≤ max l.first l.past;
}
