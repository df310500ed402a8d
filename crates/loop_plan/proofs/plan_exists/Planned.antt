-- A plan of a program that fits.
use Rattle.std.proofs.Common.{◌≡◌, ◌*◌, ◌<◌, ◌≤◌, ℕ, zero, suc, Bool, List, length, map, refl, sym, ap, ◌∙◌, subst, arith}
use Rattle.std.proofs.lemmas.List.{length-map, length-append}
use Rattle.lemmas.specs.Below.{listed}
use Rattle.mesh_decl.specs.declared.owners.Owners.{Owners}
use Rattle.mesh_decl.specs.declared.owners.Perms.{Perms}
use Rattle.mesh_decl.specs.Mesh.{dat_count}
use Rattle.local_mesh.specs.declared.types.RankMesh.{RankMesh}
use Rattle.bound_program.specs.Values.{BoundValue}
use Rattle.bound_program.specs.Fits.{Fits}
use Rattle.loop_plan.specs.declared.types.Pair.{Pair}
use Rattle.loop_plan.specs.declared.types.ItemPlan.{ItemPlan}
use Rattle.loop_plan.specs.Distributed.{IsDistributed}
use Rattle.loop_plan.specs.Values.{PlanValue, item_plan_of, no_item_plan}
use Rattle.loop_plan.specs.Needs.{exchanged_at}
use Rattle.loop_plan.specs.Pairs.{passes, pair, pairs_below}
use Rattle.loop_plan.specs.ItemPlans.{plan_in, IsPlanned, ArePlanned}
use Rattle.loop_plan.specs.StepCounts.{program_steps}
use Rattle.loop_plan.specs.Proper.{Proper, HasLeastColours}
use Rattle.loop_plan.proofs.ProperPlan.{is_proper, least_are_site_plans, has_least}
use Rattle.loop_plan.proofs.Ranges.{in_range}
use Rattle.loop_plan.proofs.plan_exists.Built.{table, length_table, mapped_at, vec_of, items_are}
use Rattle.loop_plan.proofs.plan_exists.Short.{short_listed, length_few}
use Rattle.loop_plan.proofs.plan_exists.LoopPlans.{loop_plans, are_plans}

-- so many ranks have few pairs
few_pairs : (t : ℕ → ℕ → Bool) (n m : ℕ) → n ≤ 64 → length (pairs_below t n m) ≤ 64 * m
few_pairs t n zero l = omega arith
few_pairs t n (suc m) l =
    let h = few_pairs t n m l in
    let e = length-append (pairs_below t n m) (map (pair m) (listed n (t m))) in
    let f = length-map (listed n (t m)) (pair m) in
    let k = length_few n (t m) in
    omega arith

module _ (b : BoundValue) (meshes : List RankMesh) (size : ℕ) where
  dats_at : ℕ → List ℕ
  dats_at k = listed (dat_count b.mesh) (exchanged_at b k)

  pairs_at : ℕ → List Pair
  pairs_at k = pairs_below (passes b.mesh meshes (dats_at k)) (length meshes) (length meshes)

  item_at : ℕ → ItemPlan
  item_at k = record { exchange = vec_of (dats_at k); pairs = vec_of (pairs_at k) }

  items : List ItemPlan
  items = table (length b.trace) item_at

  plan : PlanValue
  plan = record {
    ranks = length meshes;
    block = size;
    sites = loop_plans b meshes size (length b.sites);
    items = map item_plan_of items;
    steps = program_steps b meshes;
  }

  module _ (o : Owners) (p : Perms) (fits : Fits b) (d : IsDistributed b.mesh o p meshes) (some : 0 < size) where
    few_ranks : length meshes ≤ 64
    few_ranks = let e = d.are_meshes.count in let f = d.are_owners.few_ranks in omega arith

    dat_items : (k : ℕ) → (vec_of (dats_at k)).items ≡ dats_at k
    unfolding dats_at
    dat_items k = items_are (dats_at k) (short_listed (dat_count b.mesh) (exchanged_at b k) fits.mesh.few_dats)

    pair_items : (k : ℕ) → (vec_of (pairs_at k)).items ≡ pairs_at k
    unfolding pairs_at
    pair_items k = items_are (pairs_at k) (
        let h = few_pairs (passes b.mesh meshes (dats_at k)) (length meshes) (length meshes) few_ranks in
        let f = few_ranks in
        omega arith)

    item_is : (k : ℕ) → k < length b.trace → IsPlanned b meshes k (plan_in items k)
    unfolding items item_at dats_at pairs_at
    item_is k l = subst (IsPlanned b meshes k) (sym (mapped_at (length b.trace) item_at item_plan_of k no_item_plan l)) (record {
      exchange = dat_items k;
      pairs = pair_items k ∙ ap (λ z. pairs_below (passes b.mesh meshes z) (length meshes) (length meshes)) (sym (dat_items k));
    })

    are_planned : ArePlanned b meshes items
    unfolding items
    are_planned = record { count = length_table (length b.trace) item_at; each = item_is }

    pub planned : (l : PlanValue) × (l.block ≡ size) × Proper b meshes l × HasLeastColours b meshes l
    unfolding plan
    planned =
        let sites = are_plans b meshes size o p fits d some (length b.sites) (omega arith) in (
          plan,
          refl,
          is_proper b meshes plan items (in_range b fits) refl refl are_planned (least_are_site_plans b meshes size (length b.sites) plan.sites sites) some refl,
          has_least b meshes plan sites,
        )
