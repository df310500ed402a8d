use Rattle.std.proofs.Common.{◌≡◌, ◌≢◌, ◌<◌, ℕ, true, false, get_or}
use Rattle.std.specs.List.{Contains}
use Rattle.renumber.specs.Neighbours.{has_target, are_neighbours}
use Rattle.renumber.proofs.breadth_order.neighbours.unseen_neighbours.Given as goal

abbrev pub invariant-loop-having : goal.invariant-loop-having
invariant-loop-having l = record {
  near : (y : ℕ) → Contains l.found.items y → are_neighbours l.mesh l.map l.element y ≡ true;
  all : (k y : ℕ) → k < l.having-index → has_target l.mesh l.map (get_or l.having-items k 0) y ≡ true → y ≢ l.element → get_or l.seen y false ≡ false → Contains l.found.items y;
}
