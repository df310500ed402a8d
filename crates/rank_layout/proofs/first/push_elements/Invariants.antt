use Rattle.std.proofs.Common.{◌≡◌, ◌-◌, ◌≤◌, ◌*◌, ◌++◌, length, take, drop, flat_map}
use Rattle.rank_layout.proofs.first.push_elements.Given as goal

abbrev pub invariant-loop-done : goal.invariant-loop-done
invariant-loop-done l = record {
  within : l.done ≤ length l.elements;
  put : l.cells.items ≡ l.fn.cells.items ++ flat_map (λ x. take l.dim (drop (x * l.dim) l.values)) (take l.done l.elements);
}

abbrev pub decreases-loop-done : goal.decreases-loop-done
decreases-loop-done l = length l.elements - l.done
