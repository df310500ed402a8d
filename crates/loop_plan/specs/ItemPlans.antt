-- What the plan of an item holds.
use Rattle.std.specs.Prelude.{◌≡◌, ℕ, ◌<◌, List, map, length, slice_index_or}
use Rattle.lemmas.specs.Below.{listed}
use Rattle.mesh_decl.specs.Mesh.{dat_count}
use Rattle.local_mesh.specs.declared.halo_lists.types.Halos.{Halos}
use Rattle.local_mesh.specs.declared.types.RankMesh.{RankMesh}
use Rattle.bound_program.specs.Values.{BoundValue}
use Rattle.loop_plan.specs.declared.types.ItemPlan.{ItemPlan}
use Rattle.loop_plan.specs.Values.{ItemPlanValue, item_plan_of, no_item_plan}
use Rattle.loop_plan.specs.Needs.{exchanged_at}
use Rattle.loop_plan.specs.Pairs.{passes, pairs_below}
use Rattle.loop_plan.specs.Exports.{passes_by_exports}

-- the plan of item k
abbrev pub plan_in : List ItemPlan → ℕ → ItemPlanValue
plan_in plans k = slice_index_or (map item_plan_of plans) k no_item_plan

-- by one bit a dat and the lists of exports, the exchanges and messages of item k
pub record IsItemPlan (b : BoundValue) (h : Halos) (k : ℕ) (i : ItemPlanValue) : Type 0 where
  pub exchange : i.exchange ≡ listed (dat_count b.mesh) (exchanged_at b k)
  pub pairs : i.pairs ≡ pairs_below (passes_by_exports b.mesh h i.exchange) h.ranks h.ranks

-- the plans of the first items
abbrev pub AreItemPlans : BoundValue → Halos → ℕ → List ItemPlan → Type 0
AreItemPlans b h n plans = (k : ℕ) → k < n → IsItemPlan b h k (plan_in plans k)

-- by one bit a dat and the local meshes, the exchanges and messages of item k
pub record IsPlanned (b : BoundValue) (meshes : List RankMesh) (k : ℕ) (i : ItemPlanValue) : Type 0 where
  pub exchange : i.exchange ≡ listed (dat_count b.mesh) (exchanged_at b k)
  pub pairs : i.pairs ≡ pairs_below (passes b.mesh meshes i.exchange) (length meshes) (length meshes)

-- the plans of all items
pub record ArePlanned (b : BoundValue) (meshes : List RankMesh) (plans : List ItemPlan) : Type 0 where
  pub count : length plans ≡ length b.trace
  pub each : (k : ℕ) → k < length b.trace → IsPlanned b meshes k (plan_in plans k)
