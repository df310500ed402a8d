-- That a run on several ranks is one: where kernels, owners and local meshes lie in memory is nothing to it, nor which of its plans
-- with the same colours it has.
use Rattle.std.specs.Prelude.{◌≡◌, ℕ, Bool, List, map, Option, Some, None}
use Rattle.kernel_model.specs.declared.types.kernels.RKernel.{RKernel}
use Rattle.kernel_model.specs.View.{rkernel_of}
use Rattle.mesh_decl.specs.declared.owners.Owners.{Owners}
use Rattle.local_mesh.specs.declared.types.RankMesh.{RankMesh}
use Rattle.schedule_steps.specs.declared.step.Step.{Step}
use Rattle.bound_program.specs.Values.{BoundValue}
use Rattle.run_model.specs.Kernels.{kernel_at}
use Rattle.run_model.specs.Programs.{program_of}
use Rattle.loop_plan.specs.Values.{PlanValue}
use Rattle.loop_plan.specs.OnePlan.{AreAlike}
use Rattle.bound_plan.specs.Memories.{dump_of}

-- both are missing, or have one tree
abbrev pub SameTree : Option RKernel → Option RKernel → Type 0
SameTree None None = Unit {0}
SameTree (Some k) (Some l) = rkernel_of k ≡ rkernel_of l
SameTree None (Some l) = ⊥
SameTree (Some k) None = ⊥

-- the program with other kernels
abbrev pub with_kernels : BoundValue → List RKernel → BoundValue
with_kernels b ks = record b { kernels = ks }

-- kernels with the same trees have them in the same places
abbrev pub KernelsAreOne : Type 0
KernelsAreOne = (ks ls : List RKernel) → map rkernel_of ks ≡ map rkernel_of ls → (n : ℕ) → SameTree (kernel_at ks n) (kernel_at ls n)

-- with such kernels a program is one
abbrev pub ProgramsAreOne : Type 0
ProgramsAreOne =
    (b : BoundValue) (ks : List RKernel) → map rkernel_of b.kernels ≡ map rkernel_of ks → program_of b ≡ program_of (with_kernels b ks)

-- kernels with the same trees, the same owners, and plans that are alike
pub record SameRuns (b : BoundValue) (ks : List RKernel) (o u : Owners) (meshes others : List RankMesh) (p q : PlanValue) : Type 0 where
  pub kernels : map rkernel_of b.kernels ≡ map rkernel_of ks
  pub ranks : o.ranks ≡ u.ranks
  pub owners : o.sets.items ≡ u.sets.items
  pub plans : AreAlike b meshes others p q

-- by the same steps such runs have one dump
abbrev pub DumpsAreOne : Type 0
DumpsAreOne =
    (b : BoundValue) (ks : List RKernel) (o u : Owners) (meshes others : List RankMesh) (p q : PlanValue)
    → SameRuns b ks o u meshes others p q
    → (dumps : Bool) (steps : List Step)
    → dump_of dumps b o meshes p steps ≡ dump_of dumps (with_kernels b ks) u others q steps
