-- Lists of item plans with one more.
use Rattle.std.proofs.Common.{◌≡◌, ◌<◌, ◌+◌, ◌∙◌, ℕ, Bool, false, sym, ap, subst, arith, ⊎_elim, List, [], ◌∷◌, ◌++◌, length, get_or, map}
use Rattle.std.specs.Prelude.{◌&&◌, slice_index_or}
use Rattle.std.proofs.lemmas.Bool.{cases_eq}
use Rattle.std.proofs.lemmas.List.{get_or_push, get_or_append_left, map-append, length-map}
use Rattle.lemmas.specs.Below.{listed}
use Rattle.lemmas.proofs.Below.{listed_agree}
use Rattle.mesh_decl.specs.Mesh.{dat_count}
use Rattle.local_mesh.specs.declared.halo_lists.types.Halos.{Halos}
use Rattle.bound_program.specs.Values.{BoundValue}
use Rattle.loop_plan.specs.declared.types.ItemPlan.{ItemPlan}
use Rattle.loop_plan.specs.Values.{ItemPlanValue, item_plan_of, no_item_plan}
use Rattle.loop_plan.specs.Needs.{item_needs, stale_before, exchanged_at}
use Rattle.loop_plan.specs.Pairs.{pairs_below}
use Rattle.loop_plan.specs.Exports.{passes_by_exports}
use Rattle.loop_plan.specs.ItemPlans.{IsItemPlan, AreItemPlans}

pub plans_more : (b : BoundValue) (h : Halos) (n : ℕ) (plans : List ItemPlan) (v : ItemPlan) → length plans ≡ n → AreItemPlans b h n plans
    → IsItemPlan b h n (item_plan_of v) → AreItemPlans b h (n + 1) (plans ++ v ∷ [])
plans_more b h n plans v e a i k l =
    let m : map item_plan_of (plans ++ v ∷ []) ≡ map item_plan_of plans ++ item_plan_of v ∷ [] = map-append item_plan_of plans (v ∷ []) in
    let len : length (map item_plan_of plans) ≡ n = length-map plans item_plan_of ∙ e in
    subst (λ (z : List ItemPlanValue). IsItemPlan b h k (get_or z k no_item_plan)) (sym m)
    (⊎_elim
    (λ (t : k ≡ n). subst (λ z. IsItemPlan b h z (get_or (map item_plan_of plans ++ item_plan_of v ∷ []) z no_item_plan)) (sym t)
    (subst (IsItemPlan b h n) (sym (get_or_push (map item_plan_of plans) (item_plan_of v) no_item_plan n len)) i))
    (λ (t : k ≡ n → ⊥). let lk : k < n = omega arith in let lm : k < length (map item_plan_of plans) = omega arith in
    subst (IsItemPlan b h k) (sym (get_or_append_left (map item_plan_of plans) (item_plan_of v ∷ []) no_item_plan k lm)) (a k lk))
    (cases_eq k n))

-- a plan by the bits before its item
pub by_bits : (b : BoundValue) (h : Halos) (k dats : ℕ) (bits : List Bool) (v : ItemPlan) → dats ≡ dat_count b.mesh
    → ((d : ℕ) → d < dat_count b.mesh → slice_index_or bits d false ≡ stale_before b k d)
    → v.exchange.items ≡ listed dats (λ d. slice_index_or bits d false && item_needs b k d)
    → v.pairs.items ≡ pairs_below (passes_by_exports b.mesh h v.exchange.items) h.ranks h.ranks → IsItemPlan b h k (item_plan_of v)
by_bits b h k dats bits v e q x p = record {
  exchange = x ∙ (ap (λ z. listed z (λ d. slice_index_or bits d false && item_needs b k d)) e
      ∙ listed_agree (dat_count b.mesh) (λ d. slice_index_or bits d false && item_needs b k d) (exchanged_at b k) (λ d m. ap (λ z. z && item_needs b k d) (q d m)));
  pairs = p;
}
