-- What is said of a distributed program's parts is said of the parts that it was made of.
use Rattle.std.proofs.Common.{Bool, List, subst, sym}
use Rattle.mesh_decl.specs.declared.owners.Owners.{Owners}
use Rattle.local_mesh.specs.declared.types.RankMesh.{RankMesh}
use Rattle.schedule_steps.specs.declared.step.Step.{Step}
use Rattle.bound_program.specs.Values.{BoundValue, bound_of}
use Rattle.loop_plan.specs.Values.{PlanValue}
use Rattle.loop_plan.specs.StepOutline.{step_outline}
use Rattle.bound_plan.specs.Memories.{dump_of}
use Rattle.loop_plan.specs.Planned.{PlannedValue}
use Rattle.rank_program.specs.declared.program.DistributedProgram.{DistributedProgram}
use Rattle.rank_exec.specs.declared.running.Outcome.{Outcome}
use Rattle.rank_program.specs.Sound.{program_in, plan_in}
use Rattle.rank_program.specs.Runnables.{IsProgramOf}
use Rattle.rank_exec.specs.Runs.{IsRunBy}
use Rattle.schedule_check.specs.Mail.{plan_cells}
use Rattle.rank_exec.specs.declared.planned_run.orders.Order.{Order}
use Rattle.rank_exec.specs.Orders.{InOrder, CanTake}

-- the outcome is that of the steps in the order
abbrev pub Told : Order → Bool → Outcome → BoundValue → Owners → List RankMesh → PlanValue → Type 0
Told order dumps out b o meshes p =
    (l : List Step) → InOrder (step_outline b meshes p) order l → IsRunBy b (dump_of dumps b o meshes p l) out

-- the order's steps can be taken
abbrev Taken : Order → BoundValue → List RankMesh → PlanValue → Type 0
Taken order b meshes p = CanTake (step_outline b meshes p) (plan_cells b meshes p) order

module _ (v : PlannedValue) (c : DistributedProgram) (is : IsProgramOf v c) (order : Order) where
  abbrev b : BoundValue
  b = bound_of v.bound

  abbrev o : Owners
  o = v.distribution.owners

  abbrev meshes : List RankMesh
  meshes = v.distribution.ranks.items

  pub told : (dumps : Bool) (out : Outcome) → Told order dumps out (program_in c) c.owners.now c.meshes.now (plan_in c) → Told order dumps out b o meshes v.plan
  told dumps out t =
      subst (λ z. Told order dumps out b o meshes z) is.of_plan
      (subst (λ z. Told order dumps out b o z (plan_in c)) is.of_meshes
      (subst (λ z. Told order dumps out b z c.meshes.now (plan_in c)) is.of_owners
      (subst (λ z. Told order dumps out z c.owners.now c.meshes.now (plan_in c)) is.of_bound t)))

  pub can_take : Taken order b meshes v.plan → Taken order (program_in c) c.meshes.now (plan_in c)
  can_take t =
      subst (λ z. Taken order z c.meshes.now (plan_in c)) (sym is.of_bound)
      (subst (λ z. Taken order b z (plan_in c)) (sym is.of_meshes)
      (subst (λ z. Taken order b meshes z) (sym is.of_plan) t))
