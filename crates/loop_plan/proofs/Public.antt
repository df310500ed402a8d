-- What proofs of other crates use of this one: laws of its definitions, and nothing of its code.

-- The standard order has as many steps as are counted item by item.
pub use Rattle.loop_plan.proofs.StepsCounted.{same_sum}
-- The number of steps, item by item.
pub use Rattle.loop_plan.proofs.StepTotals.{sum_of_list, steps_counted}
-- Which numbers stand in a list of those below a bound.
pub use Rattle.loop_plan.proofs.Numbers.{is_listed, not_listed}
-- Items by their numbers, and the bits behind each.
pub use Rattle.loop_plan.proofs.Behind.{item_read, traced}
-- A bound program's loops and dats are in range.
pub use Rattle.loop_plan.proofs.Ranges.{in_range}
-- Messages go where something is exported.
pub use Rattle.loop_plan.proofs.Exporting.{executed_few, executed_held, sets_counted}
-- Lines by parts with a space in front.
pub use Rattle.loop_plan.proofs.Lines.{line_is_spaced}
-- One rank's sets and maps, read from the local meshes.
pub use Rattle.loop_plan.proofs.SetReads.{sets_at, own_within, maps_at, own_read, originals_read}
-- Plans of loops, one more.
pub use Rattle.loop_plan.proofs.SitePlanning.{one_each, plans_kept, plans_added, set_fits, args_are, no_plan}
-- Plans are proper.
pub use Rattle.loop_plan.proofs.Planning.{sets_had}
-- A plan that is made of the right parts is proper.
pub use Rattle.loop_plan.proofs.ProperPlan.{loop_below, loop_runs, is_proper}
-- The plan of a loop, read by its number.
pub use Rattle.loop_plan.proofs.PlanReads.{site_read, site_none}
-- Lines of a plan text, one more.
pub use Rattle.loop_plan.proofs.PlanLines.{halos_more, sites_more, items_more}
-- The text of a whole plan, and what a proper plan has for its lines.
pub use Rattle.loop_plan.proofs.PlanWriting.{exchanges_are_dats}
-- What is read of local meshes is read of their lists.
pub use Rattle.loop_plan.proofs.AlikeMeshes.{length_same, sets_same, rows_same, places_same, halo_line_same}
-- Lists by number, and vectors of given items.
pub use Rattle.loop_plan.proofs.plan_exists.Built.{table, length_table, table_at, vec_of, items_are}
-- Tests that tell where places and blocks conflict.
pub use Rattle.loop_plan.proofs.plan_exists.Tests.{within, within_is, between, between_is}
