-- What taking a whole list of steps answers.
use Rattle.std.specs.Prelude.{◌≡◌, Bool, List, [], ◌∷◌, ◌++◌, length, Err}
use Rattle.local_mesh.specs.declared.types.RankMesh.{RankMesh}
use Rattle.schedule_steps.specs.Outline.{Outline}
use Rattle.schedule_steps.specs.declared.step.Step.{Step}
use Rattle.schedule_steps.specs.declared.peak.Peak.{Peak}
use Rattle.schedule_steps.specs.Steps.{Accepted}
use Rattle.schedule_steps.specs.Turns.{nothing_taken}
use Rattle.schedule_steps.specs.Peaks.{IsPeak}
use Rattle.step_judge.specs.declared.refusal.ScheduleRefusal.{ScheduleRefusal}
use Rattle.step_judge.specs.Verdicts.{judged, ended}
use Rattle.step_judge.specs.TakenAll.{TakenAll}
use Rattle.bound_program.specs.Values.{BoundValue}
use Rattle.loop_plan.specs.Values.{PlanValue}
use Rattle.loop_plan.specs.StepOutline.{step_outline}
use Rattle.schedule_check.specs.declared.whole.Unaccepted.{Unaccepted}
use Rattle.schedule_check.specs.Mail.{plan_cells}

-- the plan accepts the list, and this is its peak
pub record IsWhole (b : BoundValue) (meshes : List RankMesh) (p : PlanValue) (l : List Step) (k : Peak) : Type 0 where
  pub accepted : Accepted (step_outline b meshes p) l
  pub peak : IsPeak (plan_cells b meshes p) l k

-- where m is taken, the first step of the list is refused, or, where there is none, the end
abbrev pub IsRefusedNext : Outline → (Step → Bool) → List Step → ScheduleRefusal → Type 0
IsRefusedNext o m [] e = ended o m ≡ Err e
IsRefusedNext o m (s ∷ l) e = judged o m s ≡ Err e

-- what is still to come behind the first step
abbrev pub behind : List Step → List Step
behind [] = []
behind (s ∷ l) = l

-- The plan doesn't accept the list: from where no step is taken its front is taken step by step, and what comes next is refused;
-- its number is that of the steps before it, and `come` is what stands behind it.
pub record IsUnaccepted (b : BoundValue) (meshes : List RankMesh) (p : PlanValue) (l come : List Step) (u : Unaccepted) : Type 0 where
  pub front : List Step
  pub rest : List Step
  pub split : l ≡ front ++ rest
  pub number : u.step ≡ length front
  pub after : Step → Bool
  pub took : TakenAll (step_outline b meshes p) nothing_taken front after
  pub refused : IsRefusedNext (step_outline b meshes p) after rest u.refusal
  pub left : come ≡ behind rest
  pub unaccepted : Accepted (step_outline b meshes p) l → ⊥
