-- A bound program with its mesh on several ranks and its plan there.
use Rattle.mesh_decl.specs.declared.owners.Perms.{Perms}
use Rattle.local_mesh.specs.Halos.{AreHalos}
use Rattle.partition.specs.declared.distribute.types.Distribution.{Distribution}
use Rattle.schedule_steps.specs.Outline.{Outline}
use Rattle.bound_program.specs.declared.programs.Bound.{Bound}
use Rattle.bound_program.specs.Values.{bound_of}
use Rattle.bound_program.specs.Fits.{Fits}
use Rattle.loop_plan.specs.Values.{PlanValue}
use Rattle.loop_plan.specs.Distributed.{IsDistributed}
use Rattle.loop_plan.specs.Proper.{Proper}
use Rattle.loop_plan.specs.StepOutline.{step_outline}

-- a bound program, its mesh on ranks, and its plan there
pub record PlannedValue : Type 0 where
  pub bound : Bound
  pub distribution : Distribution
  pub plan : PlanValue

-- the program keeps what every bound program does, the distribution is one of its mesh by some new numbers, and the plan is one of the
-- program on these ranks
pub record FitTogether (p : PlannedValue) : Type 0 where
  pub fits : Fits (bound_of p.bound)
  pub numbers : Perms
  pub distributed : IsDistributed p.bound.mesh p.distribution.owners numbers p.distribution.ranks.items
  pub are_halos : AreHalos p.bound.mesh p.distribution.owners p.distribution.halos
  pub proper : Proper (bound_of p.bound) p.distribution.ranks.items p.plan

-- the steps of the plan
abbrev pub outline_of : PlannedValue → Outline
outline_of p = step_outline (bound_of p.bound) p.distribution.ranks.items p.plan
