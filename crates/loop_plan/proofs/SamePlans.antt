-- Loops whose plans are made from the same have the same plan.
use Rattle.std.proofs.Common.{◌≡◌, ◌<◌, ◌+◌, ◌∙◌, ℕ, Bool, true, cond, List, [], ◌∷◌, ◌++◌, refl, sym, ap, ap₂, subst, ⊎_elim, arith, length, get_or}
use Rattle.std.proofs.lemmas.Bool.{cases_eq}
use Rattle.std.proofs.lemmas.List.{get_or_append_left, get_or_push, length_push}
use Rattle.local_mesh.specs.declared.types.RankMesh.{RankMesh}
use Rattle.local_mesh.specs.LocalMesh.{executed_in}
use Rattle.bound_program.specs.Values.{BoundValue}
use Rattle.bound_program.specs.Fits.{site_at}
use Rattle.loop_plan.specs.declared.alike.PlanKey.{PlanKey}
use Rattle.loop_plan.specs.SharedPlans.{SitePlanValue, SharedValue, no_site_plan, plan_at, entries_of}
use Rattle.loop_plan.specs.Pairs.{sets_of, own_in}
use Rattle.loop_plan.specs.Places.{reducing, places_of, maps_of, runs_free}
use Rattle.loop_plan.specs.SitePlans.{IsLeastPlan}
use Rattle.loop_plan.specs.SameKeys.{AreSameKeys}
use Rattle.loop_plan.specs.Alike.{IsKey, IsPlanFrom, AreMade}
use Rattle.loop_plan.proofs.SitePlanning.{colours_moved, plans_added}

-- what a plan is made from, from the same
pub key_moved : (b : BoundValue) (s : ℕ) (k l : PlanKey) → AreSameKeys k l → IsKey b s l → IsKey b s k
key_moved b s k l e h = record {
  set = h.set ∙ sym e.set;
  scattering = h.scattering ∙ sym e.scattering;
  merged = h.merged ∙ sym e.merged;
}

module _ (b : BoundValue) (meshes : List RankMesh) (s t : ℕ) (set : (site_at b s).set ≡ (site_at b t).set) where
  places_same : (x y : Bool) → x ≡ y → (r : ℕ)
      → cond x (executed_in (sets_of meshes r) (site_at b s).set) (own_in (sets_of meshes r) (site_at b s).set)
      ≡ cond y (executed_in (sets_of meshes r) (site_at b t).set) (own_in (sets_of meshes r) (site_at b t).set)
  places_same x y e r = ap₂ (λ z (n : ℕ). cond z (executed_in (sets_of meshes r) n) (own_in (sets_of meshes r) n)) e set

-- loops whose plans are made from this have one plan
pub one_for_all : (b : BoundValue) (meshes : List RankMesh) (size s t : ℕ) (k : PlanKey) (l : SitePlanValue)
    → IsKey b s k
    → IsKey b t k
    → IsLeastPlan b meshes size s l
    → IsLeastPlan b meshes size t l
one_for_all b meshes size s t k l h g p = record {
  places_count = p.places_count;
  places = λ r lt. p.places r lt ∙ same r;
  colours_count = p.colours_count;
  colours = λ r d lt. colours_moved b.mesh (maps_of meshes r) (maps_of meshes r) (reducing (site_at b s).args) (reducing (site_at b t).args)
      (places_of meshes (site_at b s) r) (places_of meshes (site_at b t) r) size (get_or l.colours r d)
      refl (h.merged ∙ sym g.merged) (same r) (p.colours r d lt);
}
  where
    same : (r : ℕ) → places_of meshes (site_at b s) r ≡ places_of meshes (site_at b t) r
    same r = places_same b meshes s t (h.set ∙ sym g.set) _ _ (h.scattering ∙ sym g.scattering) r

module _ (b : BoundValue) (meshes : List RankMesh) (size n : ℕ) (v : SharedValue) (keys : List PlanKey) (before : AreMade b size meshes n v keys)
    (runs : runs_free b n ≡ true) where
  -- loop n shares a plan
  pub made_shared : (now : SharedValue) (k : PlanKey) (slot : ℕ) → IsKey b n k → slot < length keys → ((d : PlanKey) → AreSameKeys (get_or keys slot d) k)
      → now.plans ≡ v.plans
      → entries_of now ≡ entries_of v ++ (n, plan_at v.plans slot) ∷ []
      → AreMade b size meshes (n + 1) now keys
  made_shared now k slot h l same plans entries = record {
    count = before.count ∙ ap length (sym plans);
    each = λ i d lt. subst (λ ps. IsPlanFrom b size meshes (get_or keys i d) (plan_at ps i)) (sym plans) (before.each i d lt);
    plans = plans_added b (IsLeastPlan b meshes size) n (entries_of v) (entries_of now) (plan_at v.plans slot) runs
        (before.each slot k l n (key_moved b n (get_or keys slot k) k (same k) h)) entries before.plans;
  }

  -- or has one of its own
  pub made_added : (now : SharedValue) (k : PlanKey) (p : SitePlanValue) (more : List PlanKey) → IsKey b n k → IsLeastPlan b meshes size n p
      → now.plans ≡ v.plans ++ p ∷ []
      → entries_of now ≡ entries_of v ++ (n, p) ∷ []
      → more ≡ keys ++ k ∷ []
      → AreMade b size meshes (n + 1) now more
  made_added now k p more h is plans entries e = record {
    count = ap length e ∙ (length_push keys k ∙ (ap (λ m. m + 1) before.count ∙ (sym (length_push v.plans p) ∙ ap length (sym plans))));
    each = each;
    plans = plans_added b (IsLeastPlan b meshes size) n (entries_of v) (entries_of now) p runs is entries before.plans;
  }
    where
      count : length keys ≡ length v.plans
      count = before.count

      each : (i : ℕ) (d : PlanKey) → i < length more → IsPlanFrom b size meshes (get_or more i d) (plan_at now.plans i)
      each i d lt = subst (λ ps. IsPlanFrom b size meshes (get_or more i d) (plan_at ps i)) (sym plans)
          (subst (λ ks. IsPlanFrom b size meshes (get_or ks i d) (plan_at (v.plans ++ p ∷ []) i)) (sym e) (⊎_elim
          (λ (q : i ≡ length keys).
          subst (λ z. IsPlanFrom b size meshes z (plan_at (v.plans ++ p ∷ []) i)) (sym (get_or_push keys k d i (sym q)))
          (subst (λ z. IsPlanFrom b size meshes k z) (sym (get_or_push v.plans p no_site_plan i (sym (q ∙ count)))) (λ s g. one_for_all b meshes size n s k p h g is)))
          (λ (ne : i ≡ length keys → ⊥).
          (let l : i < length keys = (let m = ap length e ∙ length_push keys k in omega arith) in
          subst (λ z. IsPlanFrom b size meshes z (plan_at (v.plans ++ p ∷ []) i)) (sym (get_or_append_left keys (k ∷ []) d i l))
          (subst (λ z. IsPlanFrom b size meshes (get_or keys i d) z) (sym (get_or_append_left v.plans (p ∷ []) no_site_plan i (omega (arith, count)))) (before.each i d l))))
          (cases_eq i (length keys))))
