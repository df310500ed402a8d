use Rattle.std.proofs.Common.{◌≡◌, ◌<◌, ◌-◌, ℕ, true, false, length, get_or}
use Rattle.partition.proofs.growth.least_free.Given as goal

abbrev pub invariant-loop-least : goal.invariant-loop-least
invariant-loop-least l = (y : ℕ) → y < l.least → get_or l.seen y false ≡ true

abbrev pub decreases-loop-least : goal.decreases-loop-least
decreases-loop-least l = length l.seen - l.least
