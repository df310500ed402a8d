-- The tables from which the orders of a plan's steps are read.
use Rattle.std.specs.Prelude.{◌≡◌, ◌<◌, ◌^◌, ℕ, true, List, Vec, Some, length, nat_eq}
use Rattle.std.specs.Map.{lookup}
use Rattle.std.specs.declared.alloc.Global.{Global}
use Rattle.local_mesh.specs.declared.types.RankMesh.{RankMesh}
use Rattle.schedule_steps.specs.Outline.{Outline}
use Rattle.schedule_steps.specs.Drawn.{numbers}
use Rattle.lemmas.specs.Below.{row}
use Rattle.bound_program.specs.Values.{BoundValue, Free}
use Rattle.loop_plan.specs.SharedPlans.{SharedValue}
use Rattle.loop_plan.specs.Values.{PlanValue}
use Rattle.loop_plan.specs.Needs.{item_at}
use Rattle.loop_plan.specs.StepOutline.{is_free, loop_of, step_outline}
use Rattle.schedule_check.specs.declared.plan_orders.messages.Messages.{Messages}
use Rattle.schedule_check.specs.Messages.{receiver_lists, sender_lists}
use Rattle.schedule_check.specs.Runs.{slot_runs, slot_of, AreLoopRuns}

module _ (b : BoundValue) (meshes : List RankMesh) (p : PlanValue) (v : SharedValue) (g : ℕ) where
  abbrev outline : Outline
  outline = step_outline b meshes p

  -- by item and rank the receivers and the senders, and by slot and rank the runs
  pub record IsShape (messages : List Messages) (runs : List (Vec (List (List ℕ)) Global)) : Type 0 where
    pub few : length b.trace < 2 ^ 32
    pub free_loops : (k : ℕ) → k < length b.trace → is_free (item_at b k) ≡ true
        → loop_of (item_at b k) < length b.sites
    pub ranks : p.ranks ≡ length meshes
    pub items : length messages ≡ length b.trace
    pub receivers : (k s : ℕ) → k < length b.trace → s < p.ranks
        → row (receiver_lists messages k) s ≡ numbers (outline.sends k s) p.ranks
    pub senders : (k r : ℕ) → k < length b.trace → r < p.ranks
        → row (sender_lists messages k) r ≡ numbers (λ s. outline.sends k s r) p.ranks
    pub plans : length runs ≡ length v.plans
    pub slots : (k s : ℕ) → k < length b.trace → item_at b k ≡ Free s → lookup (nat_eq s) v.slots ≡ Some (slot_of v.slots s)
    pub loops : (s : ℕ) → s < length b.sites → AreLoopRuns b meshes p g s (slot_runs runs (slot_of v.slots s))
