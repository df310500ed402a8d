-- What a loop's plan is made from, beside the ranks.
use Rattle.std.specs.Prelude.{◌≡◌, ◌<◌, ℕ, List, length, slice_index_or}
use Rattle.local_mesh.specs.declared.types.RankMesh.{RankMesh}
use Rattle.bound_program.specs.Classes.{scatters}
use Rattle.bound_program.specs.Values.{BoundValue}
use Rattle.bound_program.specs.Fits.{site_at}
use Rattle.loop_plan.specs.declared.alike.PlanKey.{PlanKey}
use Rattle.loop_plan.specs.SharedPlans.{SitePlanValue, SharedValue, plan_at, entries_of}
use Rattle.loop_plan.specs.Places.{reducing}
use Rattle.loop_plan.specs.SitePlans.{IsLeastPlan, ArePlans}

-- the plan of loop s is made from this
pub record IsKey (b : BoundValue) (s : ℕ) (k : PlanKey) : Type 0 where
  pub set : (site_at b s).set ≡ k.set
  pub scattering : scatters (site_at b s).args ≡ k.scattering
  pub merged : reducing (site_at b s).args ≡ k.merged.items

module _ (b : BoundValue) (size : ℕ) where
  -- each loop whose plan is made from this has this plan, in blocks of this size
  abbrev pub IsPlanFrom : List RankMesh → PlanKey → SitePlanValue → Type 0
  IsPlanFrom meshes k l = (s : ℕ) → IsKey b s k → IsLeastPlan b meshes size s l

  -- Of the loops below n, those that run as Free ones have plans in such blocks, each made from its key.
  pub record AreMade (meshes : List RankMesh) (n : ℕ) (v : SharedValue) (keys : List PlanKey) : Type 0 where
    pub count : length keys ≡ length v.plans
    pub each : (k : ℕ) (d : PlanKey) → k < length keys → IsPlanFrom meshes (slice_index_or keys k d) (plan_at v.plans k)
    pub plans : ArePlans b meshes size n (entries_of v)
