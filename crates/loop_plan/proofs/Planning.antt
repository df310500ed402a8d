-- Plans are proper.
use Rattle.std.proofs.Common.{◌≡◌, ◌<◌, ◌+◌, ◌*◌, ◌^◌, ℕ, zero, suc, Bool, cond, refl, sym, ap, ◌∙◌, arith, List, [], ◌∷◌, ◌++◌, length, map}
use Rattle.std.specs.Prelude.{◌||◌, slice_index}
use Rattle.lemmas.specs.Below.{listed}
use Rattle.lemmas.proofs.Below.{listed_agree}
use Rattle.mesh_decl.specs.Mesh.{MeshValue, IsDatAt, set_size, dat_count, dat_set}
use Rattle.local_mesh.specs.declared.halo_lists.types.Halos.{Halos}
use Rattle.local_mesh.specs.declared.types.RankMesh.{RankMesh}
use Rattle.local_mesh.proofs.Public.{listed_within}
use Rattle.bound_program.specs.Values.{ItemValue, Free, Reduce, Ordered, Host, BoundValue}
use Rattle.loop_plan.specs.declared.types.ItemPlan.{ItemPlan}
use Rattle.loop_plan.specs.Needs.{item_at, run_of, exchanged_at, IsLoopOf, IsInRange}
use Rattle.loop_plan.specs.Pairs.{sets_of, imports_from, passes, pair, pairs_below}
use Rattle.loop_plan.specs.Exports.{passes_by_exports, HaveExports, AreDats}
use Rattle.loop_plan.specs.Distributed.{Distributed}
use Rattle.loop_plan.specs.Places.{HaveSets}
use Rattle.loop_plan.specs.StepOutline.{is_free, loop_of}
use Rattle.loop_plan.specs.ItemPlans.{plan_in, AreItemPlans, ArePlanned}
use Rattle.loop_plan.specs.StepCounts.{message_count, place_count, steps_at, program_steps, steps_by, steps_of_plans}
use Rattle.loop_plan.proofs.StepsCounted.{same_sum}
use Rattle.loop_plan.proofs.Exporting.{executed_few, executed_held, sets_counted}
use Rattle.loop_plan.proofs.Pairing.{have_exports, exported_is_imported}

-- ---- messages

pairs_agree : (t u : ℕ → ℕ → Bool) (n m : ℕ) → ((s r : ℕ) → s < m → r < n → t s r ≡ u s r) → pairs_below t n m ≡ pairs_below u n m
pairs_agree t u n zero h = refl
pairs_agree t u n (suc m) h =
    ap (λ z. z ++ map (pair m) (listed n (t m))) (pairs_agree t u n m (λ s r l. h s r (omega arith)))
    ∙ ap (λ (z : List ℕ). pairs_below u n m ++ map (pair m) z) (listed_agree n (t m) (u m) (λ r l. h m r (omega arith) l))

module _ (g : MeshValue) (h : Halos) (meshes : List RankMesh) (d : Distributed g h meshes) where
  ranks_are : h.ranks ≡ length meshes
  ranks_are = d.are_halos.ranks ∙ sym d.distributed.are_meshes.count

  pub exports_had : HaveExports g h
  exports_had = have_exports g d.owners h d.are_halos d.distributed.are_owners

  -- the local meshes are there
  pub sets_had : ((s : ℕ) → set_size g s < 2 ^ 32) → HaveSets g meshes
  sets_had sizes = record {
    few = (let e : length meshes ≡ d.owners.ranks = d.distributed.are_meshes.count in let f = d.distributed.are_owners.few_ranks in omega arith);
    sets = λ r l. sets_counted g d.owners d.numbers meshes d.distributed.are_perms d.distributed.are_meshes r (there r l);
    executed = λ r t l lt. executed_few g d.owners d.numbers meshes d.distributed.are_perms d.distributed.are_meshes r t (there r l) lt (sizes t);
    held = λ r t l lt. executed_held g d.owners d.numbers meshes d.distributed.are_perms d.distributed.are_meshes r t (there r l) lt;
  }
    where
      there : (r : ℕ) → r < length meshes → r < d.owners.ranks
      there r l = let e : length meshes ≡ d.owners.ranks = d.distributed.are_meshes.count in omega arith

  module _ (sets : (e : ℕ) → e < dat_count g → IsDatAt g e) where
    -- between two ranks
    passes_agree : (dats : List ℕ) → AreDats g dats → (s r : ℕ) → s < h.ranks → r < h.ranks
        → passes_by_exports g h dats s r ≡ passes g meshes dats s r
    passes_agree [] a s r ls lr = refl
    passes_agree (e ∷ es) a s r ls lr =
        let q : h.ranks ≡ d.owners.ranks = d.are_halos.ranks in
        ap (λ z. z || passes_by_exports g h es s r)
        (exported_is_imported g d.owners h d.are_halos d.numbers meshes d.distributed.are_perms d.distributed.are_meshes s r (dat_set g e) (omega arith) (omega arith) (sets e (a 0 (omega arith))).set)
        ∙ ap (λ z. imports_from (sets_of meshes s) (sets_of meshes r) (dat_set g e) || z) (passes_agree es (λ k l. a (suc k) (omega arith)) s r ls lr)

    pub pairs_are : (dats : List ℕ) → AreDats g dats
        → pairs_below (passes_by_exports g h dats) h.ranks h.ranks ≡ pairs_below (passes g meshes dats) (length meshes) (length meshes)
    pairs_are dats a =
        pairs_agree (passes_by_exports g h dats) (passes g meshes dats) h.ranks h.ranks (λ s r. passes_agree dats a s r)
        ∙ ap (λ z. pairs_below (passes g meshes dats) z z) ranks_are

module _ (b : BoundValue) (h : Halos) (meshes : List RankMesh) where
  -- plans by exports are those by the local meshes
  pub are_planned : Distributed b.mesh h meshes
      → ((e : ℕ) → e < dat_count b.mesh → IsDatAt b.mesh e)
      → (plans : List ItemPlan)
      → length plans ≡ length b.trace
      → AreItemPlans b h (length b.trace) plans
      → ArePlanned b meshes plans
  are_planned d sets plans count each = record {
    count = count;
    each = λ k l. record {
      exchange = (each k l).exchange;
      pairs = (each k l).pairs ∙ pairs_are b.mesh h meshes d sets (plan_in plans k).exchange
          (listed_within (dat_count b.mesh) (dat_count b.mesh) (exchanged_at b k) (plan_in plans k).exchange (each k l).exchange refl);
    };
  }

-- ---- the number of steps

module _ (b : BoundValue) (meshes : List RankMesh) where
  by_item : (i : ItemValue) (m n : ℕ) (totals : List ℕ)
      → m ≡ n
      → IsLoopOf (length b.sites) (run_of i)
      → ((s : ℕ) → s < length b.sites → slice_index totals s ≡ place_count b meshes s)
      → steps_by (run_of i) m totals ≡ cond (is_free i) (2 * n + 2 * place_count b meshes (loop_of i)) 1
  by_item (Free s) m n totals e l t = let q : slice_index totals s ≡ place_count b meshes s = t s l in omega arith
  by_item (Ordered s) m n totals e l t = refl
  by_item (Reduce s) m n totals e l t = refl
  by_item (Host a) m n totals e l t = refl

  pub steps_are : IsInRange b → (plans : List ItemPlan) (totals : List ℕ)
      → ArePlanned b meshes plans
      → ((s : ℕ) → s < length b.sites → slice_index totals s ≡ place_count b meshes s)
      → steps_of_plans b plans totals (length b.trace) ≡ program_steps b meshes
  steps_are range plans totals planned t = same_sum
      (λ k. steps_by (run_of (item_at b k)) (length (plan_in plans k).pairs) totals)
      (steps_at b meshes)
      (length b.trace)
      (λ k l. by_item (item_at b k) (length (plan_in plans k).pairs) (message_count b meshes k) totals (messages k l) (range.loops k l) t)
    where
      messages : (k : ℕ) → k < length b.trace → length (plan_in plans k).pairs ≡ message_count b meshes k
      messages k l =
          ap length (planned.each k l).pairs
          ∙ ap (λ (z : List ℕ). length (pairs_below (passes b.mesh meshes z) (length meshes) (length meshes))) (planned.each k l).exchange
