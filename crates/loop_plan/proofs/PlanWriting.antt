-- The text of a whole plan, and what a proper plan has for its lines.
use Rattle.std.proofs.Common.{◌≡◌, ◌+◌, ◌<◌, ◌≤◌, ℕ, zero, suc, Bool, true, cond, refl, sym, ap, subst, ◌∙◌, arith, List, [], ◌∷◌, ◌++◌, append-nil, length, get_or, take, map}
use Rattle.std.specs.Prelude.{All, Some, nat_eq, slice_get, slice_index_or, codes}
use Rattle.std.specs.Map.{lookup}
use Rattle.std.specs.List.{flat_map}
use Rattle.std.specs.Fmt.{decimal}
use Rattle.std.proofs.lemmas.Bool.{eq-eqb, ne_eqb}
use Rattle.std.proofs.lemmas.Grind.{flat_map-append}
use Rattle.std.proofs.lemmas.List.{get_or-map, length-map, take_all, take_more}
use Rattle.std.proofs.lemmas.Option.{get_or_from_slice_get}
use Rattle.lemmas.specs.Below.{count_below, listed}
use Rattle.lemmas.proofs.Below.{length_listed, at_listed}
use Rattle.op_num.specs.Lines.{line_of, text_of_lines}
use Rattle.mesh_decl.specs.Mesh.{MeshValue, set_count, dat_count}
use Rattle.local_mesh.specs.declared.types.RankMesh.{RankMesh}
use Rattle.local_mesh.proofs.Public.{listed_within}
use Rattle.bound_program.specs.Values.{ItemValue, BoundValue}
use Rattle.loop_plan.specs.declared.types.ItemPlan.{ItemPlan}
use Rattle.loop_plan.specs.Values.{ItemPlanValue, SitePlanValue, PlanValue, item_plan, site_plan, or_none, item_plan_of, no_item_plan}
use Rattle.loop_plan.specs.Needs.{exchanges}
use Rattle.loop_plan.specs.Exports.{AreDats}
use Rattle.loop_plan.specs.Places.{runs_free}
use Rattle.loop_plan.specs.ItemPlans.{plan_in}
use Rattle.loop_plan.specs.SitePlans.{IsByRank}
use Rattle.loop_plan.specs.Proper.{IsSitePlan, Proper}
use Rattle.loop_plan.specs.PlanText.{Line, all_halo_lines, loop_lines, item_lines, plan_lines, plan_text}
use Rattle.loop_plan.proofs.PlanLines.{text_more, texts_more}

-- ---- loops

-- the lines of one loop more
pub entries_more : (es : List (ℕ × SitePlanValue)) (k : ℕ) (e : ℕ × SitePlanValue) (old between now : List ℕ)
    → k < length es
    → slice_get es k ≡ Some e
    → between ≡ old ++ text_of_lines (flat_map loop_lines (take k es))
    → now ≡ between ++ text_of_lines (loop_lines e)
    → now ≡ old ++ text_of_lines (flat_map loop_lines (take (k + 1) es))
entries_more es k e old between now l at b n =
    texts_more old between now (flat_map loop_lines (take k es)) (loop_lines e) b n
    ∙ ap (λ (z : List Line). old ++ text_of_lines z)
    (ap (λ (z : List Line). flat_map loop_lines (take k es) ++ z) (sym (append-nil (loop_lines e)))
    ∙ (sym (flat_map-append loop_lines (take k es) (e ∷ []))
    ∙ ap (flat_map loop_lines) (ap (λ z. take k es ++ z ∷ []) (sym (get_or_from_slice_get es k e e at)) ∙ sym (take_more es k e l))))

-- the plan of an entry is by rank
pub by_rank_at : (es : List (ℕ × SitePlanValue)) (k : ℕ) (x : ℕ × SitePlanValue)
    → All (λ e. IsByRank e.1) es
    → k < length es
    → slice_get es k ≡ Some x
    → IsByRank x.1
by_rank_at es k x a l at = subst (λ (z : ℕ × SitePlanValue). IsByRank z.1) (get_or_from_slice_get es k x x at) (a k x l)

-- ---- items

pub plan_read : (plans : List ItemPlan) (k : ℕ) (x : ItemPlan) → k < length plans → (get_or plans k x).exchange.items ≡ (plan_in plans k).exchange
plan_read plans k x l = sym (ap (λ (z : ItemPlanValue). z.exchange) (get_or-map item_plan_of plans k x no_item_plan l))

-- the lines of all items
pub items_all : (g : MeshValue) (k : ℕ) (is : List ItemValue) (ps : List ItemPlanValue) (old now : List ℕ)
    → length is ≤ k
    → length ps ≤ k
    → now ≡ old ++ text_of_lines (item_lines g 0 (take k is) (take k ps))
    → now ≡ old ++ text_of_lines (item_lines g 0 is ps)
items_all g k is ps old now li lp n =
    n
    ∙ (ap (λ z. old ++ text_of_lines (item_lines g 0 z (take k ps))) (take_all k is li)
    ∙ ap (λ z. old ++ text_of_lines (item_lines g 0 is z)) (take_all k ps lp))

-- ---- what a proper plan has

-- what is listed stands at one place
listed_once : (n i k : ℕ) (p : ℕ → Bool) → i < length (listed n p) → k < length (listed n p)
    → get_or (listed n p) i 0 ≡ get_or (listed n p) k 0
    → i ≡ k
listed_once n i k p li lk e =
    sym (at_listed n i 0 p (rw (← length_listed n p) li)).2
    ∙ (ap (λ z. count_below z p) e ∙ (at_listed n k 0 p (rw (← length_listed n p) lk)).2)

-- the look-up of a key that no earlier entry has
lookup_at : {X : Type 0} (es : List (ℕ × X)) (k : ℕ) (d : ℕ × X) → k < length es
    → ((i : ℕ) → i < k → (get_or es i d).0 ≡ (get_or es k d).0 → ⊥)
    → lookup (nat_eq (get_or es k d).0) es ≡ Some (get_or es k d).1
lookup_at [] k d l h = absurd (omega arith)
lookup_at (e ∷ es) zero d l h = ap (λ z. cond z (Some e.1) (lookup (nat_eq e.0) es)) (eq-eqb e.0 e.0 refl)
lookup_at (e ∷ es) (suc k) d l h =
    ap (λ z. cond z (Some e.1) (lookup (nat_eq (get_or es k d).0) es)) (ne_eqb (get_or es k d).0 e.0 (λ q. h 0 (omega arith) (sym q)))
    ∙ lookup_at es k d (omega arith) (λ i m. h (suc i) (omega arith))

module _ (b : BoundValue) (meshes : List RankMesh) (p : PlanValue) (proper : Proper b meshes p) where
  keys_are : (k : ℕ) (d : ℕ × SitePlanValue) → k < length p.sites → get_or (listed (length b.sites) (runs_free b)) k 0 ≡ (get_or p.sites k d).0
  keys_are k d l = ap (λ (z : List ℕ). get_or z k 0) (sym proper.sites) ∙ get_or-map (λ (e : ℕ × SitePlanValue). e.0) p.sites k d 0 l

  within : (k : ℕ) → k < length p.sites → k < length (listed (length b.sites) (runs_free b))
  within k l =
      let e : length (listed (length b.sites) (runs_free b)) ≡ length p.sites = ap (λ (z : List ℕ). length z) (sym proper.sites) ∙ length-map p.sites (λ (e : ℕ × SitePlanValue). e.0) in
      omega arith

  plan_is : (k : ℕ) (d : ℕ × SitePlanValue) → k < length p.sites → site_plan p (get_or p.sites k d).0 ≡ (get_or p.sites k d).1
  unfolding site_plan
  plan_is k d l = ap or_none (lookup_at p.sites k d l (λ i m e.
      let q : i ≡ k = listed_once (length b.sites) i k (runs_free b) (within i (omega arith)) (within k l) (keys_are i d (omega arith) ∙ (e ∙ sym (keys_are k d l))) in
      omega arith))

  -- each entry is the plan of a loop that runs as a Free one
  entry_is : (k : ℕ) (d : ℕ × SitePlanValue) → k < length p.sites → IsSitePlan b meshes p.block (get_or p.sites k d).0 (get_or p.sites k d).1
  entry_is k d l =
      let at = at_listed (length b.sites) k 0 (runs_free b) (rw (← length_listed (length b.sites) (runs_free b)) (within k l)) in
      let s : ℕ = (get_or p.sites k d).0 in
      subst (IsSitePlan b meshes p.block s) (plan_is k d l)
      (proper.loops s (subst (λ z. z < length b.sites) (keys_are k d l) at.0) (subst (λ z. runs_free b z ≡ true) (keys_are k d l) at.1))

  pub are_by_rank : length meshes ≤ 64 → All (λ e. IsByRank e.1) p.sites
  are_by_rank few k d l =
      let i = entry_is k d l in
      record {
        count = i.places_count ∙ sym i.colours_count;
        few = (let q = i.places_count in omega arith);
      }

  dats_at : (k : ℕ) → k < length b.trace → AreDats b.mesh (slice_index_or p.items k no_item_plan).exchange
  unfolding item_plan
  dats_at k l = listed_within (dat_count b.mesh) (dat_count b.mesh) (exchanges b p k) (item_plan p k).exchange (proper.exchanges.in_order k l) refl

  pub exchanges_are_dats : (plans : List ItemPlan) → p.items ≡ map item_plan_of plans
      → (k : ℕ) → k < length plans → AreDats b.mesh (plan_in plans k).exchange
  exchanges_are_dats plans e k l =
      let q : length p.items ≡ length plans = ap (λ (z : List ItemPlanValue). length z) e ∙ length-map plans item_plan_of in
      subst (λ (z : List ItemPlanValue). AreDats b.mesh (slice_index_or z k no_item_plan).exchange) e (dats_at k (omega (arith, q, l, proper.items)))

-- ---- the text

-- the parts of the text, one after the other
pub plan_put : (b : BoundValue) (meshes : List RankMesh) (p : PlanValue) (start first head halos sites items now : List ℕ)
    → start ≡ []
    → first ≡ start ++ codes "op2plan 1\n"
    → head ≡ first ++ line_of (codes "ranks" ∷ decimal p.ranks ∷ codes "block" ∷ decimal p.block ∷ [])
    → halos ≡ head ++ text_of_lines (all_halo_lines b.mesh meshes (set_count b.mesh))
    → sites ≡ halos ++ text_of_lines (flat_map loop_lines p.sites)
    → items ≡ sites ++ text_of_lines (item_lines b.mesh 0 b.trace p.items)
    → now ≡ items ++ codes "done\n"
    → now ≡ plan_text b meshes p
plan_put b meshes p start first head halos sites items now e f a h s i n =
    let l1 : Line = codes "op2plan" ∷ codes "1" ∷ [] in
    let l2 : Line = codes "ranks" ∷ decimal p.ranks ∷ codes "block" ∷ decimal p.block ∷ [] in
    let hs : List Line = all_halo_lines b.mesh meshes (set_count b.mesh) in
    let ss : List Line = flat_map loop_lines p.sites in
    let is : List Line = item_lines b.mesh 0 b.trace p.items in
    let p1 = text_more start first head (l1 ∷ []) l2 f a in
    let p2 = texts_more start head halos (l1 ∷ l2 ∷ []) hs p1 h in
    let p3 = texts_more start halos sites ((l1 ∷ l2 ∷ []) ++ hs) ss p2 s in
    let p4 = texts_more start sites items (((l1 ∷ l2 ∷ []) ++ hs) ++ ss) is p3 i in
    text_more start items now ((((l1 ∷ l2 ∷ []) ++ hs) ++ ss) ++ is) (codes "done" ∷ []) p4 n
    ∙ ap (λ (z : List ℕ). z ++ text_of_lines (plan_lines b meshes p)) e
