-- What is known of the plan of a bound program on its ranks.
use Rattle.std.specs.Prelude.{◌≡◌, Ok}
use Rattle.op_outside.specs.Outside.{Files}
use Rattle.mesh_decl.specs.declared.owners.Owners.{Owners}
use Rattle.mesh_decl.specs.declared.owners.Perms.{Perms}
use Rattle.partition.specs.Parts.{Parts}
use Rattle.bound_program.specs.Values.{BoundValue}
use Rattle.loop_plan.specs.Planned.{PlannedValue}
use Rattle.plan_cert.specs.declared.types.CertRefusal.{CertRefusal}
use Rattle.plan_cert.specs.declared.types.CertRefusal.TheVariants as cert
use Rattle.command_words.specs.Refusal.{Steps, Refusal, BadPlan, BeyondLimit}
use Rattle.command_words.specs.Words.{Options}
use Rattle.command_words.specs.Lines.{Answer}
use Rattle.answers.specs.Judgements as judged
use Rattle.answers.specs.Judgements.{Colouring, NumbersOf, PartsOf, OwnersOf, ColouringOf, PlanIs}

-- the mesh on ranks and the plan there, as the judgements have them
abbrev pub planned_of : PlannedValue → judged.Planned
planned_of p = record { distribution = p.distribution; plan = p.plan }

-- nothing is answered of a plan, so that all answers are refusals that came before
abbrev pub Unplanned : judged.Planned → Answer → Type 0
Unplanned p a = ⊥

-- by the options, over the files of a partition and a plan, these are the mesh on ranks and the plan there
pub record IsPlannedIn (o : Options) (b : BoundValue) (p : judged.Planned) (files : Files) : Type 0 where
  pub numbers : Perms
  pub parts : Parts
  pub owners : Owners
  pub colouring : Colouring
  pub numbered : NumbersOf o b (Ok numbers)
  pub parted : PartsOf o.parting files (Ok parts)
  pub owned : OwnersOf o.ranks b parts (Ok owners)
  pub coloured : ColouringOf o.blocks files (Ok colouring)
  pub planned : PlanIs colouring b owners numbers (Ok p)

-- what the refusal of a plan text is as one of the program; want of memory is none
abbrev pub SaysPlan : CertRefusal → Refusal → Type 0
SaysPlan (cert.Header line) r = r ≡ BadPlan 1 line
SaysPlan (cert.Ranks line) r = r ≡ BadPlan 2 line
SaysPlan (cert.Halo line) r = r ≡ BadPlan 3 line
SaysPlan (cert.Site line) r = r ≡ BadPlan 4 line
SaysPlan (cert.Item line) r = r ≡ BadPlan 5 line
SaysPlan (cert.BlockConflict line) r = r ≡ BadPlan 6 line
SaysPlan (cert.InnerConflict line) r = r ≡ BadPlan 7 line
SaysPlan (cert.End line) r = r ≡ BadPlan 8 line
SaysPlan (cert.TooManySteps steps) r = r ≡ BeyondLimit Steps steps
SaysPlan cert.OutOfMemory r = ⊥
