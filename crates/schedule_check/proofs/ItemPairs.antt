-- The messages that are read of an item's plan.
use Rattle.std.proofs.Common.{◌≡◌, ◌<◌, ◌≤◌, ◌^◌, ◌∙◌, ℕ, List, length, get_or, map, subst, sym, ap, arith}
use Rattle.std.proofs.lemmas.List.{length-map}
use Rattle.bound_program.specs.Values.{BoundValue}
use Rattle.step_judge.specs.Item.{pair_at}
use Rattle.local_mesh.specs.declared.types.RankMesh.{RankMesh}
use Rattle.loop_plan.specs.declared.types.Pair.{Pair}
use Rattle.loop_plan.specs.declared.types.Plan.{Plan}
use Rattle.loop_plan.specs.declared.types.ItemPlan.{ItemPlan}
use Rattle.loop_plan.specs.Values.{PlanValue, ItemPlanValue, plan_of, item_plan, item_plan_of}
use Rattle.loop_plan.specs.Pairs.{passes, pairs_below}
use Rattle.loop_plan.specs.Proper.{Proper}
use Rattle.schedule_check.specs.Froms.{froms, tos}
use Rattle.schedule_check.proofs.PlanReads.{item_read}
use Rattle.schedule_check.proofs.FreshItems.{froms_below, tos_below, as_many, own_places, few_pairs}

-- an item of a proper plan, and the pairs that were read of it
module _ (b : BoundValue) (meshes : List RankMesh) (plan : Plan) (k : ℕ)
    (proper : Proper b meshes (plan_of plan))
    (below : k < length b.trace)
    (i : ItemPlan) (read : i ≡ get_or plan.items.items k i)
    (pairs : List Pair) (of_item : pairs ≡ (item_plan_of i).pairs)
  where
    abbrev p : PlanValue
    p = plan_of plan

    -- they are the plan's
    pub pairs_here : pairs ≡ (item_plan p k).pairs
    pairs_here =
        let n : length (map item_plan_of plan.items.items) ≡ length plan.items.items = length-map plan.items.items item_plan_of in
        let l : k < length plan.items.items = omega (arith, n, proper.items, below) in
        of_item ∙ ap (λ (z : ItemPlanValue). z.pairs) (item_read plan k i l read)

    -- those between which the item's exchange passes something
    pub pairs_passed : pairs ≡ pairs_below (passes b.mesh meshes (item_plan p k).exchange) p.ranks p.ranks
    pairs_passed = pairs_here ∙ proper.pairs k below

    -- their senders and receivers
    module _ (es er : List ℕ) (from : es ≡ froms pairs) (to : er ≡ tos pairs) where
      pub few_senders : length meshes ≤ 64 → length es < 2 ^ 32
      few_senders h =
          let few : p.ranks ≤ 64 = (let e : p.ranks ≡ length meshes = proper.ranks in omega (arith, h)) in
          subst (λ (z : List ℕ). length z < 2 ^ 32) (sym from)
          (few_pairs (passes b.mesh meshes (item_plan p k).exchange) p.ranks pairs pairs_passed few)

      pub as_many_receivers : length er ≡ length es
      as_many_receivers =
          ap (λ (z : List ℕ). length z) to
          ∙ (as_many (passes b.mesh meshes (item_plan p k).exchange) p.ranks pairs pairs_passed ∙ sym (ap (λ (z : List ℕ). length z) from))

      pub senders_below : (j : ℕ) → j < length es → get_or es j 0 < p.ranks
      senders_below =
          subst (λ (z : List ℕ). (j : ℕ) → j < length z → get_or z j 0 < p.ranks) (sym from)
          (froms_below (passes b.mesh meshes (item_plan p k).exchange) p.ranks pairs pairs_passed)

      pub receivers_below : (j : ℕ) → j < length er → get_or er j 0 < p.ranks
      receivers_below =
          subst (λ (z : List ℕ). (j : ℕ) → j < length z → get_or z j 0 < p.ranks) (sym to)
          (tos_below (passes b.mesh meshes (item_plan p k).exchange) p.ranks pairs pairs_passed)

      -- no two messages have one sender and one receiver
      pub own_pairs : (j : ℕ) → j < length es → pair_at es er (get_or es j 0) (get_or er j 0) ≡ j
      own_pairs =
          subst (λ (z : List ℕ). (j : ℕ) → j < length z → pair_at z er (get_or z j 0) (get_or er j 0) ≡ j) (sym from)
          (subst (λ (z : List ℕ). (j : ℕ) → j < length (froms pairs) → pair_at (froms pairs) z (get_or (froms pairs) j 0) (get_or z j 0) ≡ j)
          (sym to) (own_places (passes b.mesh meshes (item_plan p k).exchange) p.ranks pairs pairs_passed))
