use Rattle.std.proofs.Common.{◌≡◌, ◌<◌, ℕ, length, false}
use Rattle.std.specs.Prelude.{slice_index_or}
use Rattle.mesh_decl.specs.Mesh.{dat_count}
use Rattle.bound_program.specs.Values.{bound_of}
use Rattle.loop_plan.specs.Needs.{stale_before}
use Rattle.loop_plan.specs.ItemPlans.{AreItemPlans}
use Rattle.loop_plan.proofs.items.item_plans.Given as goal

abbrev pub invariant-loop-item : goal.invariant-loop-item
invariant-loop-item l =
    (length l.plans.items ≡ l.item)
    × (length l.dirty ≡ dat_count l.bound.mesh)
    × AreItemPlans (bound_of l.bound) l.halos l.item l.plans.items
    × ((d : ℕ) → d < dat_count l.bound.mesh → slice_index_or l.dirty d false ≡ stale_before (bound_of l.bound) l.item d)
