-- A planned program as the machine reads it.
use Rattle.std.specs.Prelude.{◌≡◌, List}
use Rattle.local_mesh.specs.declared.lists.LocalLists.{LocalLists}
use Rattle.local_mesh.specs.Lists.{AreLocalLists}
use Rattle.bound_program.specs.Values.{bound_of}
use Rattle.loop_plan.specs.Planned.{PlannedValue}
use Rattle.rank_program.specs.declared.program.DistributedProgram.{DistributedProgram}
use Rattle.rank_program.specs.Sound.{program_in, plan_in}

-- by set, the local numbers of what its ranks own, export and import
abbrev pub HasLocalLists : PlannedValue → List LocalLists → Type 0
HasLocalLists p table = AreLocalLists p.bound.mesh p.distribution.owners p.distribution.halos p.distribution.ranks.items table

-- it is this program, on these ranks
pub record IsProgramOf (p : PlannedValue) (c : DistributedProgram) : Type 0 where
  pub of_bound : program_in c ≡ bound_of p.bound
  pub of_owners : c.owners.now ≡ p.distribution.owners
  pub of_meshes : c.meshes.now ≡ p.distribution.ranks.items
  pub of_plan : plan_in c ≡ p.plan
