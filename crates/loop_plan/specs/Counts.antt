-- What the number of steps rests on.
use Rattle.std.specs.Prelude.{◌≡◌, ℕ, ◌<◌, true, List, length}
use Rattle.local_mesh.specs.declared.types.RankMesh.{RankMesh}
use Rattle.bound_program.specs.Values.{BoundValue}
use Rattle.loop_plan.specs.Values.{PlanValue, item_plan, site_plan}
use Rattle.loop_plan.specs.Needs.{item_at}
use Rattle.loop_plan.specs.Pairs.{passes, pairs_below}
use Rattle.loop_plan.specs.StepOutline.{is_free, loop_at}

-- the messages of each item are the pairs that pass, and each loop that runs has a number of places by rank
pub record Counts (b : BoundValue) (meshes : List RankMesh) (p : PlanValue) : Type 0 where
  pub pairs : (k : ℕ) → k < length b.trace → is_free (item_at b k) ≡ true
      → (item_plan p k).pairs ≡ pairs_below (passes b.mesh meshes (item_plan p k).exchange) p.ranks p.ranks
  pub places : (k : ℕ) → k < length b.trace → is_free (item_at b k) ≡ true → length (site_plan p (loop_at b meshes p k)).places ≡ p.ranks
