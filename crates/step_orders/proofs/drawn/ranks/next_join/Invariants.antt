use Rattle.std.proofs.Common.{◌≡◌, ◌<◌, ◌≤◌, ◌-◌, ℕ, true}
use Rattle.step_orders.proofs.drawn.ranks.next_join.Given as goal

abbrev pub invariant-loop-item : goal.invariant-loop-item
invariant-loop-item g l = record {
  after : l.from ≤ l.item;
  within : l.item ≤ (g.S.Shape.outline l.shape).items;
  free : (j : ℕ) → l.from ≤ j → j < l.item → (g.S.Shape.outline l.shape).is_free j ≡ true;
}

abbrev pub decreases-loop-item : goal.decreases-loop-item
decreases-loop-item g l = (g.S.Shape.outline l.shape).items - l.item
