-- The runs of the places of loops, by rank.
use Rattle.std.specs.Prelude.{◌≡◌, ◌<◌, ℕ, List, [], Vec, Some, ◌⊎◌, length, map, nat_eq, slice_index_or, unwrap_or}
use Rattle.std.specs.Map.{lookup}
use Rattle.std.specs.declared.alloc.Global.{Global}
use Rattle.local_mesh.specs.declared.types.RankMesh.{RankMesh}
use Rattle.colouring.specs.declared.types.Colours.{Colours}
use Rattle.bound_program.specs.Values.{BoundValue, Free}
use Rattle.schedule_steps.specs.Outline.{Outline}
use Rattle.step_orders.specs.Order.{IsColoured}
use Rattle.step_orders.specs.ElementRuns.{runs_of}
use Rattle.loop_plan.specs.SharedPlans.{SharedValue, plan_at}
use Rattle.loop_plan.specs.Values.{PlanValue}
use Rattle.loop_plan.specs.Needs.{item_at}
use Rattle.loop_plan.specs.StepOutline.{step_outline}

-- the colours of a rank's blocks
abbrev pub blocks_in : List Colours → ℕ → List ℕ
blocks_in cs r = slice_index_or (map (λ (c : Colours). c.blocks.items) cs) r []

-- the colours of a rank's places
abbrev pub inner_in : List Colours → ℕ → List ℕ
inner_in cs r = slice_index_or (map (λ (c : Colours). c.inner.items) cs) r []

-- the runs of a rank
abbrev pub runs_at : List (List (List ℕ)) → ℕ → List (List ℕ)
runs_at runs r = slice_index_or runs r []

-- by rank, those of a slot
abbrev pub slot_runs : List (Vec (List (List ℕ)) Global) → ℕ → List (List (List ℕ))
slot_runs rows k = slice_index_or (map (λ (v : Vec (List (List ℕ)) Global). v.items) rows) k []

-- by rank the runs of places with these colours, in blocks of this size
pub record AreRunsOf (ranks block g : ℕ) (cs : List Colours) (v : List (List (List ℕ))) : Type 0 where
  pub count : length v ≡ ranks
  pub runs : (o : Outline) (k r : ℕ) → r < ranks → IsColoured o k r block (blocks_in cs r) (inner_in cs r)
      → runs_at v r ≡ runs_of o g k r

-- Of each slot there are no runs yet, or those of its plan; loops below n have theirs.
pub record AreSlotRuns (ranks block g : ℕ) (v : SharedValue) (n : ℕ) (runs : List (Vec (List (List ℕ)) Global)) : Type 0 where
  pub each : (k : ℕ) → (slot_runs runs k ≡ []) ⊎ AreRunsOf ranks block g (plan_at v.plans k).colours (slot_runs runs k)
  pub loops : (s k : ℕ) → s < n → lookup (nat_eq s) v.slots ≡ Some k
      → AreRunsOf ranks block g (plan_at v.plans k).colours (slot_runs runs k)

-- the slot of a loop that has a plan
abbrev pub slot_of : List (ℕ × ℕ) → ℕ → ℕ
slot_of slots s = unwrap_or (lookup (nat_eq s) slots) 0

-- by rank the runs of loop s, if an item runs it as a Free one
pub record AreLoopRuns (b : BoundValue) (meshes : List RankMesh) (p : PlanValue) (g s : ℕ) (v : List (List (List ℕ))) : Type 0 where
  pub count : (k : ℕ) → k < length b.trace → item_at b k ≡ Free s → length v ≡ length meshes
  pub runs : (k r : ℕ) → k < length b.trace → item_at b k ≡ Free s → r < length meshes
      → runs_at v r ≡ runs_of (step_outline b meshes p) g k r
