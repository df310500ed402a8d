-- A plan that is made of the right parts is proper.
use Rattle.std.proofs.Common.{◌≡◌, ◌<◌, ◌+◌, ◌*◌, ℕ, Bool, true, false, cond, sum, refl, sym, ap, subst, ◌∙◌, arith, ⊎_elim, List, Vec, length, get_or, map}
use Rattle.std.specs.Prelude.{nat_eq, slice_index, slice_index_or}
use Rattle.std.specs.Map.{lookup}
use Rattle.std.specs.declared.alloc.Global.{Global}
use Rattle.std.proofs.lemmas.Bool.{cases_lt, false≢true, eq-eqb}
use Rattle.std.proofs.lemmas.List.{length-map}
use Rattle.std.proofs.lemmas.List.Folds.{list_any_at}
use Rattle.mesh_decl.specs.Mesh.{MeshValue}
use Rattle.local_mesh.specs.declared.types.RankMesh.{RankMesh}
use Rattle.schedule_steps.specs.Peaks.{step_count}
use Rattle.colouring.specs.declared.types.IncArg.{IncArg}
use Rattle.colouring.specs.declared.types.Colours.{Colours}
use Rattle.colouring.specs.Colours.{ConflictWithin, AreColours}
use Rattle.colouring.proofs.Public.{blocks_differ}
use Rattle.bound_program.specs.Values.{Exit, ItemValue, Free, Reduce, Ordered, Host, BoundValue}
use Rattle.bound_program.specs.Fits.{site_at}
use Rattle.loop_plan.specs.declared.types.ItemPlan.{ItemPlan}
use Rattle.loop_plan.specs.Values.{SitePlanValue, PlanValue, item_plan, item_plan_of, no_item_plan, site_plan, or_none}
use Rattle.loop_plan.specs.Needs.{item_at, run_of, IsLoopOf, IsInRange}
use Rattle.loop_plan.specs.Pairs.{passes, pairs_below}
use Rattle.loop_plan.specs.Places.{reducing, places_of, maps_of, runs_loop, runs_free}
use Rattle.loop_plan.specs.Counted.{sum_below}
use Rattle.loop_plan.specs.Counts.{Counts}
use Rattle.loop_plan.specs.StepOutline.{is_free, loop_of, loop_at, step_outline, item_step_count}
use Rattle.loop_plan.specs.ItemPlans.{plan_in, ArePlanned}
use Rattle.loop_plan.specs.StepCounts.{message_count, place_count, steps_at, program_steps}
use Rattle.loop_plan.specs.SitePlans.{IsLeastPlan, ArePlans, AreSitePlans}
use Rattle.loop_plan.specs.Proper.{Separate, IsSitePlan, Proper, HasLeastColours}
use Rattle.loop_plan.proofs.History.{are_exchanges}
use Rattle.loop_plan.proofs.StepsCounted.{same_sum}
use Rattle.loop_plan.proofs.StepTotals.{sum_of_list, steps_counted}

-- ---- least colours keep conflicts apart

module _ (g : MeshValue) (maps : List (Vec ℕ Global)) (args : List IncArg) (places size : ℕ) (c : Colours) where
  turned : (x y : ℕ) → ConflictWithin g maps args size x y → ConflictWithin g maps args size y x
  turned x y k = (sym k.0, (k.1.1, k.1.0, k.1.3, k.1.2, sym k.1.4, sym k.1.5))

  pub are_separate : AreColours g maps args places size c → Separate g maps args places size c
  are_separate a = record {
    blocks_count = a.blocks_count;
    inner_count = a.inner_count;
    blocks = λ x y lx ly ne k. blocks_differ g maps args places size c a x y ne k;
    inner = λ x y lx ly ne k. ⊎_elim
        (λ (l : x < y). (a.inner y ly).free x l k)
        (λ (l : _). λ e. (a.inner x lx).free y (let n : x ≡ y → ⊥ = ne in omega arith) (turned x y k) (sym e))
        (cases_lt x y);
  }

-- ---- loops that run

loop_free : (i : ItemValue) → is_free i ≡ true → i ≡ Free (loop_of i)
loop_free (Free s) h = refl
loop_free (Reduce s) h = absurd (false≢true h)
loop_free (Ordered s) h = absurd (false≢true h)
loop_free (Host a) h = absurd (false≢true h)

module _ (b : BoundValue) (range : IsInRange b) where
  pub loop_below : (k : ℕ) → k < length b.trace → is_free (item_at b k) ≡ true → loop_of (item_at b k) < length b.sites
  loop_below k l f = subst (λ z. IsLoopOf (length b.sites) (run_of z)) (loop_free (item_at b k) f) (range.loops k l)

  pub loop_runs : (k : ℕ) → k < length b.trace → is_free (item_at b k) ≡ true → runs_free b (loop_of (item_at b k)) ≡ true
  unfolding item_at
  loop_runs k l f =
      let i : ItemValue = get_or b.trace k (Host Exit) in
      list_any_at (runs_loop (loop_of i)) b.trace k (Host Exit) l
      (ap (runs_loop (loop_of i)) (loop_free i f) ∙ eq-eqb (loop_of i) (loop_of i) refl)

-- ---- the plan

module _
    (b : BoundValue) (meshes : List RankMesh) (p : PlanValue) (plans : List ItemPlan)
    (range : IsInRange b)
    (ranks : p.ranks ≡ length meshes)
    (items : p.items ≡ map item_plan_of plans)
    (planned : ArePlanned b meshes plans)
    (sites : AreSitePlans b meshes p.block (length b.sites) p.sites)
  where
    item_is : (k : ℕ) → item_plan p k ≡ plan_in plans k
    unfolding item_plan
    item_is k = ap (λ (z : List _). slice_index_or z k no_item_plan) items

    site_is : (s : ℕ) → s < length b.sites → runs_free b s ≡ true → IsSitePlan b meshes p.block s (site_plan p s)
    unfolding site_plan
    site_is s l r = sites.plans s l r

    pairs_are : (k : ℕ) → k < length b.trace → (item_plan p k).pairs ≡ pairs_below (passes b.mesh meshes (item_plan p k).exchange) p.ranks p.ranks
    pairs_are k l =
        ap (λ z. z.pairs) (item_is k)
        ∙ ((planned.each k l).pairs
        ∙ (ap (λ z. pairs_below (passes b.mesh meshes z.exchange) (length meshes) (length meshes)) (sym (item_is k))
        ∙ ap (λ z. pairs_below (passes b.mesh meshes (item_plan p k).exchange) z z) (sym ranks)))

    counts : Counts b meshes p
    counts = record {
      pairs = λ k l f. pairs_are k l;
      places = λ k l f. (site_is (loop_at b meshes p k) (loop_below b range k l f) (loop_runs b range k l f)).places_count ∙ sym ranks;
    }

    places_are : (s : ℕ) → s < length b.sites → runs_free b s ≡ true → sum (site_plan p s).places ≡ place_count b meshes s
    places_are s l r =
        let i = site_is s l r in
        sym (sum_of_list (site_plan p s).places)
        ∙ (ap (sum_below (slice_index (site_plan p s).places)) i.places_count
        ∙ same_sum (slice_index (site_plan p s).places) (places_of meshes (site_at b s)) (length meshes) i.places)

    messages_are : (k : ℕ) → k < length b.trace → length (item_plan p k).pairs ≡ message_count b meshes k
    messages_are k l =
        ap (λ z. length z.pairs) (item_is k)
        ∙ (ap length (planned.each k l).pairs
        ∙ ap (λ (z : List ℕ). length (pairs_below (passes b.mesh meshes z) (length meshes) (length meshes))) (planned.each k l).exchange)

    by_kind : (k : ℕ) → k < length b.trace → (t : Bool) → is_free (item_at b k) ≡ t
        → cond t (2 * length (item_plan p k).pairs + 2 * sum (site_plan p (loop_at b meshes p k)).places) 1
        ≡ cond t (2 * message_count b meshes k + 2 * place_count b meshes (loop_of (item_at b k))) 1
    by_kind k l true f =
        let x = messages_are k l in
        let y = places_are (loop_of (item_at b k)) (loop_below b range k l f) (loop_runs b range k l f) in
        ap (λ z. 2 * z + 2 * sum (site_plan p (loop_at b meshes p k)).places) x ∙ ap (λ z. 2 * message_count b meshes k + 2 * z) y
    by_kind k l false f = refl

    pub all_steps : step_count (step_outline b meshes p) ≡ program_steps b meshes
    all_steps =
        steps_counted b meshes p counts
        ∙ same_sum (item_step_count b meshes p) (steps_at b meshes) (length b.trace) (λ k l. by_kind k l (is_free (item_at b k)) refl)

    pub is_proper : 0 < p.block → p.steps ≡ program_steps b meshes → Proper b meshes p
    is_proper block steps = record {
      ranks = ranks;
      block = block;
      steps = steps ∙ sym all_steps;
      items = count;
      exchanges = are_exchanges b range p count (λ k l. ap (λ z. z.exchange) (item_is k) ∙ (planned.each k l).exchange);
      pairs = pairs_are;
      sites = sites.keys;
      loops = site_is;
    }
      where
        count : length p.items ≡ length b.trace
        count = ap length items ∙ (length-map plans item_plan_of ∙ planned.count)

-- ---- with least colours

module _ (b : BoundValue) (meshes : List RankMesh) where
  pub least_is_site_plan : (size s : ℕ) (l : SitePlanValue) → IsLeastPlan b meshes size s l → IsSitePlan b meshes size s l
  least_is_site_plan size s l i = record {
    places_count = i.places_count;
    places = i.places;
    colours_count = i.colours_count;
    colours = λ n d m. are_separate b.mesh (maps_of meshes n) (reducing (site_at b s).args) (places_of meshes (site_at b s) n) size
        (slice_index_or l.colours n d) (i.colours n d m);
  }

  pub least_are_site_plans : (size n : ℕ) (es : List (ℕ × SitePlanValue)) → ArePlans b meshes size n es → AreSitePlans b meshes size n es
  least_are_site_plans size n es a = record {
    keys = a.keys;
    plans = λ s l r. least_is_site_plan size s (or_none (lookup (nat_eq s) es)) (a.plans s l r);
  }

  pub has_least : (p : PlanValue) → ArePlans b meshes p.block (length b.sites) p.sites → HasLeastColours b meshes p
  unfolding site_plan
  has_least p sites s r d l run m = (sites.plans s l run).colours r d m
