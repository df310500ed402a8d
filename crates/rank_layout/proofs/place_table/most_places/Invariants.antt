use Rattle.std.proofs.Common.{◌≡◌, ℕ, map, take}
use Rattle.std.specs.Prelude.{slice_index}
use Rattle.loop_plan.specs.Values.{SitePlanValue, entries_of}
use Rattle.rank_layout.specs.Tables.{most}
use Rattle.rank_layout.proofs.place_table.most_places.Given as goal

abbrev pub invariant-loop-place : goal.invariant-loop-place
invariant-loop-place l = l.most ≡ most (map (λ (e : ℕ × SitePlanValue). slice_index e.1.places l.rank) (take l.place (entries_of l.plan.sites)))
