-- The orders in which the steps of a plan are taken.
use Rattle.std.specs.Prelude.{◌≡◌, ◌≤◌, ℕ, Bool, List}
use Rattle.schedule_steps.specs.Outline.{Outline}
use Rattle.schedule_steps.specs.declared.step.Step.{Step}
use Rattle.schedule_steps.specs.Steps.{Accepted}
use Rattle.schedule_steps.specs.Peaks.{IsPeak}
use Rattle.schedule_steps.specs.Standard.{standard}
use Rattle.schedule_steps.specs.Drawn.{IsDrawn}
use Rattle.bound_program.specs.Values.{bound_of}
use Rattle.loop_plan.specs.Planned.{PlannedValue}
use Rattle.schedule_check.specs.Mail.{plan_cells}
use Rattle.bound_plan.specs.Memories.{dump_of}
use Rattle.rank_exec.specs.declared.planned_run.orders.Order.{Order}
use Rattle.rank_exec.specs.declared.planned_run.orders.Order.TheVariants.{Standard, Drawn, Listed}

-- the list is that of the plan's steps in this order
abbrev pub InOrder : Outline → Order → List Step → Type 0
InOrder o (Standard g) l = l ≡ standard o g
InOrder o (Drawn g seed) l = IsDrawn o g seed l
InOrder o (Listed s k) l = l ≡ s.now

-- By item, sender and receiver a message has so many cells: groups are of at least one place, and a list is accepted and has this peak.
abbrev pub CanTake : Outline → (ℕ → ℕ → ℕ → ℕ) → Order → Type 0
CanTake o cells (Standard g) = 1 ≤ g
CanTake o cells (Drawn g seed) = 1 ≤ g
CanTake o cells (Listed s k) = Accepted o s.now × IsPeak cells s.now k

-- by item, sender and receiver, how many cells a message of a plan has
abbrev pub message_cells_of : PlannedValue → ℕ → ℕ → ℕ → ℕ
message_cells_of p = plan_cells (bound_of p.bound) p.distribution.ranks.items p.plan

-- what the ranks hold after these steps of a plan, written out where it is asked for
abbrev pub planned_dump : Bool → PlannedValue → List Step → List ℕ
planned_dump dumps p l = dump_of dumps (bound_of p.bound) p.distribution.owners p.distribution.ranks.items p.plan l
