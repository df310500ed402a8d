-- A checker of a plan: which of its steps are taken, and what is open and under way.
use Rattle.std.specs.Prelude.{◌≡◌, ℕ, Bool, true, false, List}
use Rattle.local_mesh.specs.declared.types.RankMesh.{RankMesh}
use Rattle.schedule_steps.specs.Outline.{Outline}
use Rattle.schedule_steps.specs.declared.step.Step.{Step}
use Rattle.schedule_steps.specs.declared.step.Step.TheVariants.{Send}
use Rattle.schedule_steps.specs.Steps.{IsStep}
use Rattle.schedule_steps.specs.Turns.{marked}
use Rattle.schedule_steps.specs.Judged.{is_step}
use Rattle.step_judge.specs.Load.{loaded, no_load}
use Rattle.step_judge.specs.Marked.{outline_of, taken}
use Rattle.step_judge.specs.Wanted.{AreMarksOf}
use Rattle.step_judge.specs.Checking.{Checking, cells_of}
use Rattle.bound_program.specs.Values.{BoundValue}
use Rattle.loop_plan.specs.Values.{PlanValue}
use Rattle.loop_plan.specs.StepOutline.{step_outline}
use Rattle.schedule_check.specs.Mail.{plan_cells}

-- a plan with the steps that are taken
pub record PlanChecking : Type 0 where
  pub bound : BoundValue
  pub meshes : List RankMesh
  pub plan : PlanValue
  pub steps : Checking

-- a checker of a plan, by its parts
abbrev pub checking : BoundValue → List RankMesh → PlanValue → Checking → PlanChecking
checking b meshes p steps = record { bound = b; meshes = meshes; plan = p; steps = steps }

module _ (c : PlanChecking) where
  -- what the steps of the plan depend on
  abbrev pub outline_in : Outline
  outline_in = step_outline c.bound c.meshes c.plan

  -- the steps taken so far
  abbrev pub taken_in : Step → Bool
  taken_in = taken c.steps.marks

  -- item, sender, receiver: how many cells a message has
  abbrev pub cells_in : ℕ → ℕ → ℕ → ℕ
  cells_in = plan_cells c.bound c.meshes c.plan

  -- the marks are those of the plan's steps, and the cells those of its messages
  pub record IsOfPlan : Type 0 where
    pub marks : AreMarksOf outline_in c.steps.marks
    pub cells : (k s r : ℕ) → is_step (outline_of c.steps.marks) (Send k s r) ≡ true → cells_of c.steps k s r ≡ cells_in k s r

-- behind the step the plan is the same, and the step is taken and counted
pub record TakesPlanStep (c d : PlanChecking) (s : Step) : Type 0 where
  pub bound : d.bound ≡ c.bound
  pub meshes : d.meshes ≡ c.meshes
  pub plan : d.plan ≡ c.plan
  pub marks : (t : Step) → taken_in d t ≡ marked s (taken_in c) t
  pub load : d.steps.load ≡ loaded (cells_in c) s c.steps.load

-- a checker of this plan, of which no step is taken
pub record IsNew (b : BoundValue) (ms : List RankMesh) (p : PlanValue) (c : PlanChecking) : Type 0 where
  pub bound : c.bound ≡ b
  pub meshes : c.meshes ≡ ms
  pub plan : c.plan ≡ p
  pub marks : (t : Step) → IsStep (outline_in c) t → taken_in c t ≡ false
  pub load : c.steps.load ≡ no_load
