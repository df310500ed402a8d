-- The tables of a plan's orders are right.
use Rattle.std.proofs.Common.{◌≡◌, ℕ, ◌<◌, ◌^◌, Bool, true, refl, sym, ap, subst, ◌∙◌, arith, List, length, Vec}
use Rattle.std.specs.Prelude.{All}
use Rattle.std.specs.declared.alloc.Global.{Global}
use Rattle.std.proofs.lemmas.Bool.{false≢true}
use Rattle.std.proofs.lemmas.List.{length-map}
use Rattle.local_mesh.specs.declared.types.RankMesh.{RankMesh}
use Rattle.bound_program.specs.Values.{BoundValue, ItemValue, Free, Reduce, Ordered, Host}
use Rattle.loop_plan.specs.declared.types.Pair.{Pair}
use Rattle.loop_plan.specs.declared.types.ItemPlan.{ItemPlan}
use Rattle.loop_plan.specs.declared.types.Plan.{Plan}
use Rattle.loop_plan.specs.Values.{PlanValue, plan_of, item_plan_of, item_plan}
use Rattle.loop_plan.specs.ItemPlans.{plan_in}
use Rattle.loop_plan.specs.Needs.{item_at, run_of, IsLoopOf, IsInRange}
use Rattle.loop_plan.specs.Pairs.{passes, pairs_below}
use Rattle.loop_plan.specs.Proper.{Proper}
use Rattle.loop_plan.specs.StepOutline.{is_free, loop_of}
use Rattle.schedule_check.specs.declared.plan_orders.messages.Messages.{Messages}
use Rattle.schedule_check.specs.Messages.{HasMessages, receiver_lists, sender_lists}
use Rattle.schedule_check.specs.Runs.{AreSlotRuns}
use Rattle.schedule_check.specs.Shape.{IsShape}
use Rattle.schedule_check.proofs.plan_orders.LoopRuns.{has_slot, are_loop_runs}
use Rattle.schedule_check.proofs.plan_orders.PairsBelow.{receivers_are, senders_are, pairs_within}

free_is : (i : ItemValue) → is_free i ≡ true → i ≡ Free (loop_of i)
free_is (Free s) h = refl
free_is (Reduce s) h = absurd (false≢true h)
free_is (Ordered s) h = absurd (false≢true h)
free_is (Host a) h = absurd (false≢true h)

module _ (b : BoundValue) (meshes : List RankMesh) (plan : Plan) (items : List ItemPlan) (proper : Proper b meshes (plan_of plan)) (e : items ≡ plan.items.items) where
  abbrev p : PlanValue
  p = plan_of plan

  abbrev t : ℕ → ℕ → ℕ → Bool
  t k = passes b.mesh meshes (item_plan p k).exchange

  counted : length items ≡ length b.trace
  counted = ap (λ (z : List ItemPlan). length z) e ∙ (sym (length-map plan.items.items item_plan_of) ∙ proper.items)

  pairs_are : (k : ℕ) → k < length b.trace → (plan_in items k).pairs ≡ pairs_below (t k) p.ranks p.ranks
  unfolding item_plan
  pairs_are k l = ap (λ (z : List ItemPlan). (plan_in z k).pairs) e ∙ proper.pairs k l

  pub pairs_inside : (k : ℕ) → k < length items → All (λ (q : Pair). (q.from < plan.ranks) × (q.to < plan.ranks)) (plan_in items k).pairs
  pairs_inside k l =
      subst (All (λ (q : Pair). (q.from < plan.ranks) × (q.to < plan.ranks))) (sym (pairs_are k (rw (← counted) l)))
      (pairs_within (t k) plan.ranks plan.ranks (omega arith))

  pub is_shape : (g : ℕ) (messages : List Messages) (runs : List (Vec (List (List ℕ)) Global)) → length b.trace < 2 ^ 32 → IsInRange b
      → length messages ≡ length items
      → ((k : ℕ) → k < length items → HasMessages (plan_in items k).pairs plan.ranks (receiver_lists messages k) (sender_lists messages k))
      → length runs ≡ length plan.sites.plans
      → AreSlotRuns (length meshes) plan.block g plan.sites (length b.sites) runs
      → IsShape b meshes p plan.sites g messages runs
  is_shape g messages runs few range count has plans loops = record {
    few = few;
    free_loops = λ k l f. subst (λ z. IsLoopOf (length b.sites) (run_of z)) (free_is (item_at b k) f) (range.loops k l);
    ranks = proper.ranks;
    items = count ∙ counted;
    receivers = λ k s l ls. (lists k l).sent s ls ∙ receivers_are (t k) p.ranks p.ranks s ls;
    senders = λ k r l lr. (lists k l).received r lr ∙ senders_are (t k) p.ranks p.ranks r lr;
    plans = plans;
    slots = λ k s l e. has_slot b meshes plan proper k s l e (subst (λ z. IsLoopOf (length b.sites) (run_of z)) e (range.loops k l));
    loops = λ s l. are_loop_runs b meshes plan g s runs proper l loops;
  }
    where
      lists : (k : ℕ) → k < length b.trace → HasMessages (pairs_below (t k) p.ranks p.ranks) p.ranks (receiver_lists messages k) (sender_lists messages k)
      lists k l =
          subst (λ (z : List Pair). HasMessages z p.ranks (receiver_lists messages k) (sender_lists messages k)) (pairs_are k l)
          (has k (rw counted l))
