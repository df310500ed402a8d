use Rattle.std.proofs.Common.{◌≡◌, ◌∙◌, List, ap, subst}
use Rattle.std.specs.Prelude.{Result, Ok, Err, IfErr}
use Rattle.local_mesh.specs.declared.types.RankMesh.{RankMesh}
use Rattle.schedule_steps.specs.declared.step.Step.{Step}
use Rattle.bound_program.specs.Values.{BoundValue, bound_of}
use Rattle.loop_plan.specs.Values.{PlanValue}
use Rattle.loop_plan.specs.Planned.{PlannedValue}
use Rattle.schedule_check.specs.declared.whole.Unaccepted.{Unaccepted}
use Rattle.schedule_check.specs.Whole.{IsUnaccepted}
use Rattle.rank_exec.proofs.planned_run.orders.judge_list.Goals as goal

if_err : {T E : Type 0} {P Q : E → Type 0} (r : Result T E) → ((e : E) → P e → Q e) → IfErr r P → IfErr r Q
if_err (Ok v) f h = h
if_err (Err e) f h = f e h

-- the same refusal of a list that is the same
one_refusal : {b d : BoundValue} {m n : List RankMesh} {p q : PlanValue} {l k : List Step} (come : List Step) (u : Unaccepted)
    → b ≡ d → m ≡ n → p ≡ q → l ≡ k → IsUnaccepted b m p l come u → IsUnaccepted d n q k come u
one_refusal {b} {d} {m} {n} {p} {q} {l} {k} come u eb em ep el h =
    subst (λ z. IsUnaccepted d n q z come u) el
    (subst (λ z. IsUnaccepted d n z l come u) ep
    (subst (λ z. IsUnaccepted d z p l come u) em
    (subst (λ z. IsUnaccepted z m p l come u) eb h)))

pub new-requires-clause-ranks : goal.new-requires-clause-ranks
new-requires-clause-ranks c =
    let d = c.planned.inside.distribution in
    let h = c.planned.invariant in
    rw c.deref.ensures.value (d.halos, record { owners = d.owners; numbers = h.numbers; are_halos = h.are_halos; distributed = h.distributed })

pub returns-clause-unaccepted : goal.returns-clause-unaccepted
returns-clause-unaccepted c =
    let new = c.in_ok-checker.ensures in
    let view = c.planned.view_is in
    let bound = new.bound ∙ ap (λ (v : PlannedValue). bound_of v.bound) view in
    let meshes = new.meshes ∙ (c.deref.ensures.value ∙ ap (λ (v : PlannedValue). v.distribution.ranks.items) view) in
    let plan = new.plan ∙ ap (λ (v : PlannedValue). v.plan) view in
    if_err c.take_all-judged.result
    (λ u h. (c.take_all-judged.new.steps, one_refusal c.take_all-judged.new.steps u bound meshes plan c.new-2.ensures h))
    c.take_all-judged.ensures.unaccepted
