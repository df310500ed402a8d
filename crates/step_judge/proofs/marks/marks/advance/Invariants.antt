use Rattle.std.proofs.Common.{◌≡◌, ◌-◌, ◌<◌, ◌≤◌, ℕ, get_or}
use Rattle.std.specs.Prelude.{◌⊎◌}
use Rattle.step_judge.specs.Item.{Item, Complete}
use Rattle.step_judge.proofs.marks.marks.advance.Given as goal

abbrev pub invariant-loop-here : goal.invariant-loop-here
invariant-loop-here l = record {
  same : l.items ≡ l.fn.items;
  from : l.from ≤ l.here;
  within : (l.here ≤ l.to) ⊎ (l.here ≡ l.from);
  passed : (k : ℕ) (d : Item) → l.from ≤ k → k < l.here → Complete (get_or l.fn.items k d) l.rank;
}

abbrev pub decreases-loop-here : goal.decreases-loop-here
decreases-loop-here l = l.to - l.here
