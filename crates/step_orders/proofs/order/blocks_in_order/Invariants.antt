use Rattle.std.proofs.Common.{◌≡◌, true}
use Rattle.schedule_steps.specs.Drawn.{numbers}
use Rattle.step_orders.proofs.order.blocks_in_order.Given as goal

abbrev pub invariant-loop-block : goal.invariant-loop-block
invariant-loop-block l = l.blocks.items ≡ numbers (λ b. true) l.block
