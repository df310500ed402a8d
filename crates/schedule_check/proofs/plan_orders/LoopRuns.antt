-- The runs of a loop that an item runs.
use Rattle.std.proofs.Common.{◌≡◌, ◌+◌, ◌⊎◌, inr, ℕ, zero, suc, ◌<◌, Bool, true, false, cond, refl, sym, ap, subst, ◌∙◌, arith, ⊎_elim, List, [], ◌∷◌, length, get_or, set, map, None, Some, nat_eq, Vec}
use Rattle.std.specs.Prelude.{◌||◌, ◌&&◌, nat_lt, slice_index, unwrap_or}
use Rattle.std.specs.Map.{lookup}
use Rattle.std.specs.Option.{option_map}
use Rattle.std.specs.declared.alloc.Global.{Global}
use Rattle.std.specs.List.{list_any}
use Rattle.std.proofs.lemmas.Bool.{cases_Bool, cases_eq, false≢true, lt-ltb, eqb-true, eq-eqb, or_cases}
use Rattle.std.proofs.lemmas.List.{get_or-set_same, get_or-set_other, length-map, map-set}
use Rattle.std.proofs.lemmas.Map.Made.{lookup-map_values}
use Rattle.std.proofs.lemmas.Option.{none-some, same_Some}
use Rattle.std.proofs.Math.Bool.{or-false}
use Rattle.std.proofs.lemmas.List.Folds.{list_any-append, list_any_at}
use Rattle.lemmas.specs.Below.{listed}
use Rattle.local_mesh.specs.declared.types.RankMesh.{RankMesh}
use Rattle.colouring.specs.declared.types.Colours.{Colours}
use Rattle.bound_program.specs.Values.{BoundValue, Exit, Free, Host}
use Rattle.step_orders.specs.Order.{IsColoured}
use Rattle.loop_plan.specs.declared.types.Plan.{Plan}
use Rattle.loop_plan.specs.SharedPlans.{SharedValue, plan_at, entry_at}
use Rattle.loop_plan.specs.Values.{SitePlanValue, PlanValue, entries_of, plan_of, or_none, site_plan}
use Rattle.loop_plan.specs.Needs.{item_at}
use Rattle.loop_plan.specs.Places.{runs_free, runs_loop}
use Rattle.loop_plan.specs.Proper.{IsSitePlan, Proper}
use Rattle.loop_plan.specs.StepOutline.{step_outline, loop_of}
use Rattle.schedule_check.specs.Runs.{blocks_in, inner_in, slot_runs, slot_of, AreRunsOf, AreSlotRuns, AreLoopRuns}
use Rattle.loop_plan.proofs.Public.{is_listed, site_read}
use Rattle.schedule_check.proofs.plan_orders.TableReads.{at_read}

-- ---- loops with a plan run as Free ones

found_key : {A : Type 0} (s : ℕ) (es : List (ℕ × A)) (x : A) → Some x ≡ lookup (nat_eq s) es → list_any (nat_eq s) (map (λ e. e.0) es) ≡ true
found_key s [] x h = cc
found_key s (e ∷ es) x h = ⊎_elim
    (λ (t : nat_eq s e.0 ≡ true). ap (λ b. b || list_any (nat_eq s) (map (λ i. i.0) es)) t)
    (λ (t : nat_eq s e.0 ≡ false). ap (λ b. b || list_any (nat_eq s) (map (λ i. i.0) es)) t
    ∙ found_key s es x (h ∙ ap (λ b. cond b (Some e.1) (lookup (nat_eq s) es)) t))
    (cases_Bool (nat_eq s e.0))

in_listed : (s n : ℕ) (t : ℕ → Bool) → list_any (nat_eq s) (listed n t) ≡ true → (s < n) × (t s ≡ true)
in_listed s zero t h = absurd (false≢true h)
in_listed s (suc n) t h = ⊎_elim
    (λ (e : list_any (nat_eq s) (listed n t) ≡ true). (let r : (s < n) × (t s ≡ true) = in_listed s n t e in ((let l : s < n = r.0 in omega arith), r.1)))
    (λ (e : list_any (nat_eq s) (cond (t n) (n ∷ []) []) ≡ true). last (t n) refl e)
    (or_cases (list_any (nat_eq s) (listed n t)) (list_any (nat_eq s) (cond (t n) (n ∷ []) [])) (sym (list_any-append (nat_eq s) (listed n t) (cond (t n) (n ∷ []) [])) ∙ h))
  where
    last : (b : Bool) → t n ≡ b → list_any (nat_eq s) (cond b (n ∷ []) []) ≡ true → (s < suc n) × (t s ≡ true)
    last true e i =
        let same : s ≡ n = eqb-true s n (sym (or-false (nat_eq s n)) ∙ i) in
        ((omega arith), ap t same ∙ e)
    last false e i = absurd (false≢true i)

keys_same : (plans : List SitePlanValue) (es : List (ℕ × ℕ)) → map (λ e. e.0) (map (entry_at plans) es) ≡ map (λ e. e.0) es
keys_same plans [] = refl
keys_same plans (e ∷ es) = ap (λ z. e.0 ∷ z) (keys_same plans es)

-- a key that is there is found
key_found : (s : ℕ) (es : List (ℕ × ℕ)) → list_any (nat_eq s) (map (λ e. e.0) es) ≡ true → lookup (nat_eq s) es ≡ Some (slot_of es s)
key_found s [] h = absurd (false≢true h)
key_found s (e ∷ es) h = ⊎_elim
    (λ (t : nat_eq s e.0 ≡ true). ap (λ b. cond b (Some e.1) (lookup (nat_eq s) es)) t ∙ ap (λ b. Some (unwrap_or (cond b (Some e.1) (lookup (nat_eq s) es)) 0)) (sym t))
    (λ (t : nat_eq s e.0 ≡ false). ap (λ b. cond b (Some e.1) (lookup (nat_eq s) es)) t
    ∙ key_found s es (sym (ap (λ b. b || list_any (nat_eq s) (map (λ i. i.0) es)) t) ∙ h)
    ∙ ap (λ b. Some (unwrap_or (cond b (Some e.1) (lookup (nat_eq s) es)) 0)) (sym t))
    (cases_Bool (nat_eq s e.0))

pub has_plan : (b : BoundValue) (meshes : List RankMesh) (p : Plan) (s : ℕ) (found : SitePlanValue) → Proper b meshes (plan_of p)
    → Some found ≡ lookup (nat_eq s) (entries_of p.sites)
    → IsSitePlan b meshes p.block s found
has_plan b meshes p s found proper h =
    let key : list_any (nat_eq s) (map (λ e. e.0) (entries_of p.sites)) ≡ true = found_key s (entries_of p.sites) found h in
    let r : (s < length b.sites) × (runs_free b s ≡ true) = in_listed s (length b.sites) (runs_free b) (sym (ap (λ z. list_any (nat_eq s) z) proper.sites) ∙ key) in
    subst (IsSitePlan b meshes p.block s) (sym (site_read p s found h)) (proper.loops s r.0 r.1)

-- ---- the colours of a loop are those of the outline

some_at : (xs : List Colours) (r : ℕ) → r < length xs → (x : Colours) × (x ≡ get_or xs r x)
some_at [] r l = absurd (omega arith)
some_at (x ∷ xs) zero l = (x, refl)
some_at (x ∷ xs) (suc r) l = some_at xs r (omega arith)

module _ (b : BoundValue) (meshes : List RankMesh) (p : PlanValue) (s : ℕ) (plan : IsSitePlan b meshes p.block s (site_plan p s)) where
  abbrev cs : List Colours
  cs = (site_plan p s).colours

  inner_count : (r : ℕ) → r < length meshes → length (inner_in cs r) ≡ slice_index (site_plan p s).places r
  inner_count r lt =
      let n : length cs ≡ length meshes = plan.colours_count in
      let x : (x : Colours) × (x ≡ get_or cs r x) = some_at cs r (omega arith) in
      ap (λ (z : List ℕ). length z) (at_read (λ (c : Colours). c.inner.items) [] cs r x.0 (omega arith) x.1)
      ∙ (ap (λ (z : Colours). length z.inner.items) x.1 ∙ ((plan.colours r x.0 lt).inner_count ∙ sym (plan.places r lt)))

  pub coloured : (k r : ℕ) → item_at b k ≡ Free s → r < length meshes
      → IsColoured (step_outline b meshes p) k r p.block (blocks_in cs r) (inner_in cs r)
  coloured k r e lt =
      let at : loop_of (item_at b k) ≡ s = ap loop_of e in
      record {
        count = ap (λ z. slice_index (site_plan p z).places r) at ∙ sym (inner_count r lt);
        runs = λ x lx. ap (λ z. nat_lt x (slice_index (site_plan p z).places r) && true) at
            ∙ (ap (λ z. nat_lt x z && true) (sym (inner_count r lt)) ∙ ap (λ b. b && true) (lt-ltb x (length (inner_in cs r)) lx));
        block = λ x lx. refl;
        block_colour = λ c. ap (λ z. slice_index (blocks_in (site_plan p z).colours r) c) at;
        colour = λ x lx. ap (λ z. slice_index (inner_in (site_plan p z).colours r) x) at;
      }

-- ---- a loop without a plan is run by no item

runs_here : (b : BoundValue) (k s : ℕ) → k < length b.trace → item_at b k ≡ Free s → runs_free b s ≡ true
unfolding item_at
runs_here b k s l e = list_any_at (runs_loop s) b.trace k (Host Exit) l (ap (runs_loop s) e ∙ eq-eqb s s refl)

-- a loop that an item runs has a slot
pub has_slot : (b : BoundValue) (meshes : List RankMesh) (p : Plan) → Proper b meshes (plan_of p)
    → (k s : ℕ) → k < length b.trace → item_at b k ≡ Free s → s < length b.sites → lookup (nat_eq s) p.sites.slots ≡ Some (slot_of p.sites.slots s)
has_slot b meshes p proper k s l e ls =
    key_found s p.sites.slots
    (ap (list_any (nat_eq s)) (sym (keys_same p.sites.plans p.sites.slots) ∙ proper.sites)
    ∙ (is_listed s (length b.sites) (runs_free b) ls ∙ runs_here b k s l e))

-- the plan of a loop is that of its slot
pub slot_plan : (p : Plan) (s k : ℕ) → lookup (nat_eq s) p.sites.slots ≡ Some k → plan_at p.sites.plans k ≡ site_plan (plan_of p) s
unfolding site_plan
slot_plan p s k h = sym (ap or_none (lookup-map_values (plan_at p.sites.plans) (nat_eq s) p.sites.slots ∙ ap (option_map (plan_at p.sites.plans)) h))

-- a plan that is found is that of its slot
pub slot_found : (v : SharedValue) (s k : ℕ) (found : SitePlanValue) → Some k ≡ lookup (nat_eq s) v.slots → Some found ≡ lookup (nat_eq s) (entries_of v)
    → plan_at v.plans k ≡ found
slot_found v s k found h f =
    same_Some (plan_at v.plans k) found (ap (option_map (plan_at v.plans)) h ∙ sym (lookup-map_values (plan_at v.plans) (nat_eq s) v.slots) ∙ sym f)

-- and a loop that has a slot has a plan
pub not_both : (v : SharedValue) (s k : ℕ) → Some k ≡ lookup (nat_eq s) v.slots → None ≡ lookup (nat_eq s) (entries_of v) → ⊥
not_both v s k h n = none-some (plan_at v.plans k) (n ∙ lookup-map_values (plan_at v.plans) (nat_eq s) v.slots ∙ sym (ap (option_map (plan_at v.plans)) h))

-- the runs of its slot are a loop's
pub are_loop_runs : (b : BoundValue) (meshes : List RankMesh) (p : Plan) (g s : ℕ) (runs : List (Vec (List (List ℕ)) Global))
    → Proper b meshes (plan_of p)
    → s < length b.sites
    → AreSlotRuns (length meshes) p.block g p.sites (length b.sites) runs
    → AreLoopRuns b meshes (plan_of p) g s (slot_runs runs (slot_of p.sites.slots s))
are_loop_runs b meshes p g s runs proper ls are = record {
  count = λ k l e. (here k l e).count;
  runs = λ k r l e lr. (here k l e).runs (step_outline b meshes (plan_of p)) k r lr
      (subst (λ (z : SitePlanValue). IsColoured (step_outline b meshes (plan_of p)) k r p.block (blocks_in z.colours r) (inner_in z.colours r))
      (sym (slot_plan p s (slot_of p.sites.slots s) (has_slot b meshes p proper k s l e ls)))
      (coloured b meshes (plan_of p) s (proper.loops s ls (runs_here b k s l e)) k r e lr));
}
  where
    here : (k : ℕ) → k < length b.trace → item_at b k ≡ Free s
        → AreRunsOf (length meshes) p.block g (plan_at p.sites.plans (slot_of p.sites.slots s)).colours (slot_runs runs (slot_of p.sites.slots s))
    here k l e = are.loops s (slot_of p.sites.slots s) ls (has_slot b meshes p proper k s l e ls)

-- ---- runs of a slot

abbrev items : Vec (List (List ℕ)) Global → List (List (List ℕ))
items v = v.items

slot_set : (runs : List (Vec (List (List ℕ)) Global)) (slot : ℕ) (new : Vec (List (List ℕ)) Global) → slot < length runs → slot_runs (set runs slot new) slot ≡ new.items
slot_set runs slot new l =
    ap (λ z. get_or z slot []) (map-set items runs slot new)
    ∙ get_or-set_same (map items runs) slot new.items [] (omega (arith, length-map runs items))

slot_other : (runs : List (Vec (List (List ℕ)) Global)) (slot k : ℕ) (new : Vec (List (List ℕ)) Global) → (k ≡ slot → ⊥) → slot_runs (set runs slot new) k ≡ slot_runs runs k
slot_other runs slot k new ne = ap (λ z. get_or z k []) (map-set items runs slot new) ∙ get_or-set_other (map items runs) slot k new.items [] ne

module _ (ranks block g : ℕ) (v : SharedValue) (n : ℕ) where
  -- the runs of its slot are put there
  pub runs_put : (runs : List (Vec (List (List ℕ)) Global)) (slot : ℕ) (new : Vec (List (List ℕ)) Global) → slot < length runs
      → Some slot ≡ lookup (nat_eq n) v.slots
      → AreRunsOf ranks block g (plan_at v.plans slot).colours new.items
      → AreSlotRuns ranks block g v n runs → AreSlotRuns ranks block g v (n + 1) (set runs slot new)
  runs_put runs slot new ls is right are = record {
    each = λ k. ⊎_elim (λ (e : k ≡ slot). inr (here k e))
        (λ (ne : k ≡ slot → ⊥). subst (λ z. (z ≡ []) ⊎ AreRunsOf ranks block g (plan_at v.plans k).colours z) (sym (there k ne))
        (are.each k)) (cases_eq k slot);
    loops = λ s k l h. ⊎_elim
        (λ (e : k ≡ slot). here k e)
        (λ (ne : k ≡ slot → ⊥). ⊎_elim
        (λ (e : s ≡ n). absurd (ne (sym (same_Some slot k (is ∙ (ap (λ z. lookup (nat_eq z) v.slots) (sym e) ∙ h))))))
        (λ (other : s ≡ n → ⊥). subst (AreRunsOf ranks block g (plan_at v.plans k).colours) (sym (there k ne)) (are.loops s k (omega arith) h))
        (cases_eq s n))
        (cases_eq k slot);
  }
    where
      here : (k : ℕ) → k ≡ slot → AreRunsOf ranks block g (plan_at v.plans k).colours (slot_runs (set runs slot new) k)
      here k e = subst (λ z. AreRunsOf ranks block g (plan_at v.plans z).colours (slot_runs (set runs slot new) z)) (sym e)
          (subst (AreRunsOf ranks block g (plan_at v.plans slot).colours) (sym (slot_set runs slot new ls)) right)

      there : (k : ℕ) → (k ≡ slot → ⊥) → slot_runs (set runs slot new) k ≡ slot_runs runs k
      there k ne = slot_other runs slot k new ne
