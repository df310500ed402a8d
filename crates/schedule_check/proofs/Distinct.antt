-- The local meshes of a distributed mesh name no element twice, and the messages of a proper plan are between its ranks.
use Rattle.std.proofs.Common.{◌≡◌, ◌≢◌, ℕ, Bool, ◌<◌, ◌≤◌, sym, ap, subst, ◌∙◌, arith, List, [], length, get_or, map}
use Rattle.std.proofs.lemmas.List.{get_or-map}
use Rattle.mesh_decl.specs.Mesh.{MeshValue, set_count, set_size}
use Rattle.mesh_decl.specs.Owners.{perm_in}
use Rattle.local_mesh.specs.declared.halo_lists.types.Halos.{Halos}
use Rattle.local_mesh.specs.Halo.{owns, imports_execute, imports_nonexecute}
use Rattle.local_mesh.specs.declared.types.LocalSet.{LocalSet}
use Rattle.local_mesh.specs.declared.types.RankMesh.{RankMesh}
use Rattle.local_mesh.specs.LocalMesh.{originals_in, executed_in, IsLocalSet, IsRankMesh}
use Rattle.local_mesh.proofs.Public.{number_apart}
use Rattle.bound_program.specs.Values.{BoundValue}
use Rattle.loop_plan.specs.declared.types.ItemPlan.{ItemPlan}
use Rattle.loop_plan.specs.Values.{PlanValue, ItemPlanValue, item_plan, item_plan_of, no_item_plan}
use Rattle.loop_plan.specs.ItemPlans.{plan_in}
use Rattle.loop_plan.specs.Pairs.{sets_of, own_in, passes, pairs_below}
use Rattle.loop_plan.specs.Distributed.{Distributed}
use Rattle.loop_plan.specs.Proper.{Proper}
use Rattle.loop_plan.proofs.Public.{own_within, executed_held, sets_counted, exchanges_are_dats}
use Rattle.schedule_check.specs.Mail.{AreDistinct, IsInside}
use Rattle.schedule_check.proofs.Holds.{holds, in_range, pair_holds}
use Rattle.lemmas.proofs.Lists.{element_at}

module _ (g : MeshValue) (h : Halos) (meshes : List RankMesh) (d : Distributed g h meshes) where
  there : (r : ℕ) → r < length meshes → r < d.owners.ranks
  there r l = (let e : length meshes ≡ d.owners.ranks = d.distributed.are_meshes.count in omega arith)

  Apart : List ℕ → Type 0
  Apart xs = (j k : ℕ) → j < k → k < length xs → get_or xs j 0 ≢ get_or xs k 0

  apart : (r t : ℕ) → r < length meshes → t < set_count g → Apart (originals_in (sets_of meshes r) t)
  unfolding sets_of originals_in Apart
  apart r t lr lt =
      let m : (x : RankMesh) × ((e : RankMesh) → get_or meshes r e ≡ x) = element_at meshes r lr in
      let mesh : IsRankMesh g d.owners d.numbers r m.0 = subst (IsRankMesh g d.owners d.numbers r) (m.1 m.0) (d.distributed.are_meshes.ranks r m.0 (there r lr)) in
      let e : get_or (map (λ (x : RankMesh). x.sets.items) meshes) r [] ≡ m.0.sets.items =
      get_or-map (λ (x : RankMesh). x.sets.items) meshes r m.0 [] lr ∙ ap (λ (x : RankMesh). x.sets.items) (m.1 m.0) in
      let n : length m.0.sets.items ≡ set_count g = mesh.sets_count in
      let l : t < length m.0.sets.items = omega arith in
      let s : (x : LocalSet) × ((e : LocalSet) → get_or m.0.sets.items t e ≡ x) = element_at m.0.sets.items t l in
      let is : IsLocalSet g d.owners d.numbers t r s.0 = subst (IsLocalSet g d.owners d.numbers t r) (s.1 s.0) (mesh.sets t s.0 lt) in
      let orig : originals_in (sets_of meshes r) t ≡ s.0.original = ap (λ (z : List LocalSet). get_or (map (λ (x : LocalSet). x.original) z) t []) e
      ∙ (get_or-map (λ (x : LocalSet). x.original) m.0.sets.items t s.0 [] l ∙ ap (λ (x : LocalSet). x.original) (s.1 s.0)) in
      subst (λ (z : List ℕ). (j k : ℕ) → j < k → k < length z → get_or z j 0 ≢ get_or z k 0) (sym orig)
      (number_apart (set_size g t) (perm_in d.numbers t) (λ x. owns d.owners t x r) (λ x. imports_execute g d.owners t x r)
      (λ x. imports_nonexecute g d.owners t x r) s.0.original (d.distributed.are_perms.numbers t lt) is.inverse)

  pub are_distinct : AreDistinct g meshes
  unfolding Apart
  are_distinct = record {
    sets = λ r l. sets_counted g d.owners d.numbers meshes d.distributed.are_perms d.distributed.are_meshes r (there r l);
    own = λ r t l lt. (let a : own_in (sets_of meshes r) t ≤ executed_in (sets_of meshes r) t = own_within (sets_of meshes r) t in
        let b : executed_in (sets_of meshes r) t ≤ length (originals_in (sets_of meshes r) t) =
        executed_held g d.owners d.numbers meshes d.distributed.are_perms d.distributed.are_meshes r t (there r l) lt in omega arith);
    apart = λ r t j k l lt. apart r t l lt j k;
  }

pub are_inside : (b : BoundValue) (meshes : List RankMesh) (p : PlanValue) (items : List ItemPlan) → Proper b meshes p → p.items ≡ map item_plan_of items
    → (k : ℕ) → k < length items → k < length b.trace → IsInside b.mesh meshes (plan_in items k)
unfolding item_plan
are_inside b meshes p items proper e k l lk =
    let same : item_plan p k ≡ plan_in items k = ap (λ z. get_or z k no_item_plan) e in
    let t : ℕ → ℕ → Bool = passes b.mesh meshes (item_plan p k).exchange in
    let pairs : (plan_in items k).pairs ≡ pairs_below t p.ranks p.ranks = ap (λ (z : ItemPlanValue). z.pairs) (sym same) ∙ proper.pairs k lk in
    record {
      dats = exchanges_are_dats b meshes p proper items e k l;
      pairs = λ i q li.
          (let r : ((get_or (plan_in items k).pairs i q).from < p.ranks) × ((get_or (plan_in items k).pairs i q).to < p.ranks) =
          in_range t p.ranks p.ranks (get_or (plan_in items k).pairs i q).from (get_or (plan_in items k).pairs i q).to
          (ap (λ z. holds z (get_or (plan_in items k).pairs i q).from (get_or (plan_in items k).pairs i q).to) (sym pairs) ∙ pair_holds (plan_in items k).pairs i q li) in
          let n : p.ranks ≡ length meshes = proper.ranks in
          ((let a : (get_or (plan_in items k).pairs i q).from < p.ranks = r.0 in omega arith), (let a : (get_or (plan_in items k).pairs i q).to < p.ranks = r.1 in omega arith)));
    }
