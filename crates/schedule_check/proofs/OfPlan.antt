-- The checker's marks and cells are those of its plan, at the start and behind each step.
use Rattle.std.proofs.Common.{◌≡◌, ℕ, ◌<◌, Bool, true, refl, sym, ap, subst, ◌∙◌, arith, List, [], length, get_or, map, Err}
use Rattle.std.specs.Prelude.{◌↔◌, slice_index, slice_index_or, Result, Ok, OnOk, OnErr}
use Rattle.std.proofs.lemmas.Bool.{ltb-true}
use Rattle.std.proofs.lemmas.List.{get_or-map, length-map}
use Rattle.local_mesh.specs.declared.types.RankMesh.{RankMesh}
use Rattle.schedule_steps.specs.declared.step.Step.{Step}
use Rattle.schedule_steps.specs.Outline.{Outline}
use Rattle.schedule_steps.specs.declared.step.Step.TheVariants.{Send, Recv, Begin, End, Join}
use Rattle.schedule_steps.specs.Steps.{IsStep}
use Rattle.schedule_steps.specs.Judged.{is_step}
use Rattle.step_judge.specs.declared.marks.load.Load.{Load}
use Rattle.step_judge.specs.Item.{pair_at}
use Rattle.step_judge.specs.Marked.{Marked, item_at, outline_of, taken}
use Rattle.step_judge.proofs.Public.{pair_found, own, judged_well}
use Rattle.step_judge.specs.declared.refusal.ScheduleRefusal.{ScheduleRefusal}
use Rattle.step_judge.specs.Verdicts.{judged}
use Rattle.step_judge.specs.Wanted.{AreMarksOf}
use Rattle.step_judge.specs.Checking.{Checking, cells_in, cells_of, step_cells, TakesStep}
use Rattle.bound_program.specs.Values.{BoundValue}
use Rattle.loop_plan.specs.declared.types.Pair.{Pair}
use Rattle.loop_plan.specs.declared.types.ItemPlan.{ItemPlan}
use Rattle.loop_plan.specs.Values.{PlanValue, ItemPlanValue, item_plan, item_plan_of, no_item_plan}
use Rattle.loop_plan.specs.ItemPlans.{plan_in}
use Rattle.loop_plan.specs.Pairs.{passes}
use Rattle.loop_plan.specs.Proper.{Proper}
use Rattle.loop_plan.specs.StepOutline.{step_outline}
use Rattle.schedule_check.specs.Froms.{froms, tos}
use Rattle.schedule_check.specs.ItemMarks.{AreItemMarks}
use Rattle.schedule_check.specs.Mail.{cells_between, row_of}
use Rattle.schedule_check.specs.PlanChecking.{PlanChecking, checking, IsOfPlan, TakesPlanStep}
use Rattle.schedule_check.proofs.Holds.{holds, found, below_holds, no_pair}
use Rattle.schedule_check.proofs.Rooms.{same_load}

-- ---- behind a step

module _ (c : PlanChecking) (d : Checking) (s : Step) (of : IsOfPlan c) where
  abbrev next : PlanChecking
  next = checking c.bound c.meshes c.plan d

  -- the cells of the step's message
  step_of : (u : Step) → is_step (outline_of c.steps.marks) u ≡ true → step_cells (cells_of c.steps) u ≡ step_cells (λ k a r. cells_between c.bound.mesh c.meshes (item_plan c.plan k).exchange a r) u
  step_of (Send k a r) h = of.cells k a r h
  step_of (Recv k r a) h = of.cells k a r h
  step_of (Begin k r x) h = refl
  step_of (End k r x) h = refl
  step_of (Join k) h = refl

  takes_after : TakesStep c.steps d s → is_step (outline_of c.steps.marks) s ≡ true → TakesPlanStep c next s
  takes_after t h = record {
    bound = refl;
    meshes = refl;
    plan = refl;
    marks = t.marks.marks;
    load = t.load ∙ same_load (cells_of c.steps) (λ k a r. cells_between c.bound.mesh c.meshes (item_plan c.plan k).exchange a r) s c.steps.load (step_of s h);
  }

  pub takes_plan : (r : Result (Unit {0}) ScheduleRefusal)
      → ((o : Outline) → AreMarksOf o c.steps.marks → r ≡ judged o (taken c.steps.marks) s)
      → OnOk r (TakesStep c.steps d s)
      → OnOk r (TakesPlanStep c next s)
  takes_plan (Ok u) a t = takes_after t (judged_well (outline_of c.steps.marks) (taken c.steps.marks) s (a (outline_of c.steps.marks) (own c.steps.marks))).0
  takes_plan (Err e) a t = tt

  pub kept_plan : (r : Result (Unit {0}) ScheduleRefusal) → OnErr r (d ≡ c.steps) → OnErr r (next ≡ c)
  kept_plan (Ok u) t = tt
  kept_plan (Err e) t = ap (checking c.bound c.meshes c.plan) t

-- ---- at the start

module _ (b : BoundValue) (meshes : List RankMesh) (p : PlanValue) (v : Marked) (rows : List (List ℕ)) (items : List ItemPlan)
    (proper : Proper b meshes p)
    (same : p.items ≡ map item_plan_of items)
    (marks : AreMarksOf (step_outline b meshes p) v)
    (each : (k : ℕ) → k < length b.trace → AreItemMarks b meshes p k (item_at v k))
    (cells : (k : ℕ) → k < length items → slice_index_or rows k [] ≡ row_of b.mesh meshes (plan_in items k))
    (tests : (n : Outline) (s : Step) → (is_step n s ≡ true) ↔ IsStep n s)
  where
    plan_same : (k : ℕ) → plan_in items k ≡ item_plan p k
    unfolding item_plan
    plan_same k = ap (λ z. get_or z k no_item_plan) (sym same)

    cell : (k s r : ℕ) → IsStep (outline_of v) (Send k s r) → cells_in rows v k s r ≡ cells_between b.mesh meshes (item_plan p k).exchange s r
    cell k s r st =
        let pairs : List Pair = (item_plan p k).pairs in
        let t : ℕ → ℕ → Bool = passes b.mesh meshes (item_plan p k).exchange in
        let ni : length v.items ≡ length b.trace = marks.alike.items in
        let nr : v.ranks ≡ p.ranks = marks.alike.ranks in
        let lk : k < length b.trace = (let a : k < length v.items = st.0 in omega arith) in
        let m : AreItemMarks b meshes p k (item_at v k) = each k lk in
        let held : holds pairs s r ≡ true =
        ap (λ z. holds z s r) (proper.pairs k lk)
        ∙ (below_holds t p.ranks p.ranks s r (let a : r < v.ranks = st.3 in omega arith) (let a : s < v.ranks = st.2 in omega arith)
        ∙ (sym (m.fresh.links s r st.1 (let a : s < v.ranks = st.2 in omega arith) (let a : r < v.ranks = st.3 in omega arith)) ∙ st.4)) in
        let i : ℕ = pair_at (froms pairs) (tos pairs) s r in
        let li : i < length (froms pairs) = ltb-true i (length (froms pairs)) (found pairs s r ∙ held) in
        let lp : i < length pairs = subst (λ z. i < z) (length-map pairs (λ (q : Pair). q.from)) li in
        let there : (get_or (froms pairs) i 0 ≡ s) × (get_or (tos pairs) i 0 ≡ r) =
        pair_found (froms pairs) (tos pairs) s r (length-map pairs (λ (q : Pair). q.to) ∙ sym (length-map pairs (λ (q : Pair). q.from))) li in
        let from : (get_or pairs i no_pair).from ≡ s = sym (get_or-map (λ (q : Pair). q.from) pairs i no_pair 0 lp) ∙ there.0 in
        let to : (get_or pairs i no_pair).to ≡ r = sym (get_or-map (λ (q : Pair). q.to) pairs i no_pair 0 lp) ∙ there.1 in
        let n : length p.items ≡ length items = ap (λ (z : List ItemPlanValue). length z) same ∙ length-map items item_plan_of in
        let row : slice_index_or rows k [] ≡ row_of b.mesh meshes (item_plan p k) =
        cells k (let e : length p.items ≡ length b.trace = proper.items in omega arith) ∙ ap (row_of b.mesh meshes) (plan_same k) in
        ap (λ z. slice_index (slice_index_or rows k []) z) (m.pairs s r st.1)
        ∙ (ap (λ (z : List ℕ). slice_index z i) row
        ∙ (get_or-map (λ (q : Pair). cells_between b.mesh meshes (item_plan p k).exchange q.from q.to) pairs i no_pair 0 lp
        ∙ (ap (λ z. cells_between b.mesh meshes (item_plan p k).exchange z (get_or pairs i no_pair).to) from ∙ ap (λ z. cells_between b.mesh meshes (item_plan p k).exchange s z) to)))

    pub of_plan_new : (l : Load) → IsOfPlan (checking b meshes p record { marks = v; cells = rows; load = l })
    of_plan_new l = record { marks = marks; cells = λ k s r h. cell k s r ((tests (outline_of v) (Send k s r)).0 h) }
