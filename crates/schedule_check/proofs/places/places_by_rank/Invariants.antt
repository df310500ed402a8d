use Rattle.std.proofs.Common.{◌≡◌, ◌<◌, ℕ, length, get_or}
use Rattle.step_judge.specs.Item.{no_run}
use Rattle.loop_plan.specs.Pairs.{sets_of, core_in}
use Rattle.schedule_check.specs.NewPlaces.{AreNewPlaces, blocks_of, inner_of}
use Rattle.schedule_check.proofs.places.places_by_rank.Given as goal

abbrev pub invariant-loop-rank : goal.invariant-loop-rank
invariant-loop-rank l = record {
  count : length l.places.items ≡ l.rank;
  places : (r : ℕ) → r < l.rank → AreNewPlaces l.fn.size (blocks_of l.site.colours.items r) (inner_of l.site.colours.items r) (core_in (sets_of l.ranks r) l.fn.set) (get_or l.places.items r no_run);
}
