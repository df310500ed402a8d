use Rattle.std.proofs.Common.{◌≡◌, ◌<◌, ℕ, length, get_or}
use Rattle.loop_plan.specs.Values.{plan_of}
use Rattle.rank_layout.specs.Tables.{places_on}
use Rattle.rank_layout.proofs.place_table.place_table.Given as goal

abbrev pub invariant-loop-rank : goal.invariant-loop-rank
invariant-loop-rank l = (length l.places.items ≡ l.rank) × ((r : ℕ) → r < l.rank → get_or l.places.items r 0 ≡ places_on (plan_of l.plan) r)
