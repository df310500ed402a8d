-- The marks of an item of a plan, nothing of it taken.
use Rattle.std.specs.Prelude.{◌≡◌, ℕ, true, List}
use Rattle.local_mesh.specs.declared.types.RankMesh.{RankMesh}
use Rattle.bound_program.specs.Values.{BoundValue}
use Rattle.step_judge.specs.Item.{Item, pair_at, place_of}
use Rattle.step_judge.specs.Fresh.{IsFreshItem}
use Rattle.loop_plan.specs.Values.{PlanValue, item_plan}
use Rattle.loop_plan.specs.StepOutline.{step_outline}
use Rattle.schedule_check.specs.Froms.{froms, tos}

-- marks of which nothing is taken, whose messages stand in the order of the plan
pub record AreItemMarks (b : BoundValue) (meshes : List RankMesh) (p : PlanValue) (k : ℕ) (w : Item) : Type 0 where
  pub fresh : IsFreshItem (step_outline b meshes p) k w
  pub pairs : (s r : ℕ) → w.free ≡ true → place_of w s r ≡ pair_at (froms (item_plan p k).pairs) (tos (item_plan p k).pairs) s r
