use Rattle.std.proofs.Common.{◌≡◌, ◌≤◌, ◌*◌, sum, take}
use Rattle.loop_plan.proofs.places.total.Given as goal

abbrev pub invariant-loop-number : goal.invariant-loop-number
invariant-loop-number l = (l.total ≡ sum (take l.number-index l.numbers)) × (l.total ≤ l.number-index * 4294967295)
