use Rattle.std.proofs.Common.{◌≡◌, ◌≤◌}
use Rattle.lemmas.specs.Below.{count_below}
use Rattle.bound_program.specs.Values.{bound_of}
use Rattle.chain_model.specs.Counts.{begins_at}
use Rattle.chain_needs.proofs.counting.chain_count.Given as goal

abbrev pub invariant-loop-item : goal.invariant-loop-item
invariant-loop-item l = (l.count ≤ l.item) × (l.count ≡ count_below l.item (begins_at (bound_of l.bound)))
