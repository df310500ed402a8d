-- A plan text with colours of others gives one plan, or has one line that is refused first. What is said of two lists of local meshes
-- is of those that are the same as lists.
use Rattle.std.specs.Prelude.{◌≡◌, ℕ, ◌≤◌, ◌<◌, ◌^◌, ◌⊎◌, true, List, All, length, map}
use Rattle.mesh_decl.specs.declared.owners.Owners.{Owners}
use Rattle.mesh_decl.specs.declared.owners.Perms.{Perms}
use Rattle.colouring.specs.declared.types.Colours.{Colours}
use Rattle.local_mesh.specs.declared.types.RankMesh.{RankMesh}
use Rattle.local_mesh.specs.Values.{rank_mesh_value}
use Rattle.bound_program.specs.Values.{BoundValue}
use Rattle.bound_program.specs.Fits.{Fits}
use Rattle.loop_plan.specs.Distributed.{IsDistributed}
use Rattle.loop_plan.specs.Values.{PlanValue, site_plan}
use Rattle.loop_plan.specs.Places.{runs_free}
use Rattle.loop_plan.specs.Proper.{Proper, HasLeastColours}
use Rattle.loop_plan.specs.StepCounts.{program_steps}
use Rattle.loop_plan.specs.PlanText.{plan_text}
use Rattle.loop_plan.specs.OnePlan.{AreAlike}
use Rattle.plan_cert.specs.Certified.{Certified, IsRefused}

-- one line is the first that is refused, and by one number
abbrev pub RefusalsAreOne : Type 0
RefusalsAreOne =
    (b : BoundValue) (meshes others : List RankMesh) (bytes : List ℕ) (number other line later : ℕ)
    → map rank_mesh_value meshes ≡ map rank_mesh_value others
    → IsRefused b meshes bytes number line
    → IsRefused b others bytes other later
    → (number ≡ other) × (line ≡ later)

-- a text that gives a plan has no such line
abbrev pub NoneIsRefused : Type 0
NoneIsRefused =
    (b : BoundValue) (meshes others : List RankMesh) (bytes : List ℕ) (p : PlanValue) (number line : ℕ)
    → map rank_mesh_value meshes ≡ map rank_mesh_value others
    → Certified b meshes bytes p
    → IsRefused b others bytes number line
    → ⊥

-- two plans that a text gives are alike
abbrev pub PlansAreAlike : Type 0
PlansAreAlike =
    (b : BoundValue) (meshes others : List RankMesh) (bytes : List ℕ) (p q : PlanValue)
    → map rank_mesh_value meshes ≡ map rank_mesh_value others
    → Certified b meshes bytes p
    → Certified b others bytes q
    → AreAlike b meshes others p q

-- a plan that a text gives has as many steps as the program
abbrev pub CertifiedHaveSteps : Type 0
CertifiedHaveSteps =
    (b : BoundValue) (meshes : List RankMesh) (bytes : List ℕ) (p : PlanValue)
    → Fits b
    → Certified b meshes bytes p
    → p.steps ≡ program_steps b meshes

-- a plan that is proper has as many steps as the program
abbrev pub ProperHaveSteps : Type 0
ProperHaveSteps =
    (b : BoundValue) (meshes : List RankMesh) (p : PlanValue)
    → Fits b
    → Proper b meshes p
    → p.steps ≡ program_steps b meshes

-- a text gives a plan, or a line of it is refused
abbrev pub SomeOutcome : Type 0
SomeOutcome =
    (b : BoundValue) (o : Owners) (n : Perms) (meshes : List RankMesh) (bytes : List ℕ)
    → Fits b
    → IsDistributed b.mesh o n meshes
    → ((p : PlanValue) × Certified b meshes bytes p) ⊎ ((number : ℕ) × (line : ℕ) × IsRefused b meshes bytes number line)

-- each colour of the loops that run is below 2 ^ 32
abbrev pub HasShortColours : BoundValue → PlanValue → Type 0
HasShortColours b p =
    (s : ℕ) → s < length b.sites → runs_free b s ≡ true
    → All (λ (c : Colours). All (λ k. k < 2 ^ 32) c.blocks.items × All (λ k. k < 2 ^ 32) c.inner.items) (site_plan p s).colours

-- so are least colours
abbrev pub LeastAreShort : Type 0
LeastAreShort =
    (b : BoundValue) (o : Owners) (n : Perms) (meshes : List RankMesh) (p : PlanValue)
    → Fits b
    → IsDistributed b.mesh o n meshes
    → Proper b meshes p
    → HasLeastColours b meshes p
    → HasShortColours b p

-- the text of a plan gives that plan
abbrev pub WrittenAreCertified : Type 0
WrittenAreCertified =
    (b : BoundValue) (meshes : List RankMesh) (p : PlanValue)
    → Proper b meshes p
    → p.block ≤ 65536
    → HasShortColours b p
    → Certified b meshes (plan_text b meshes p) p

-- what a text gives, and why it gives none, rests on a program's mesh, loops and items alone
pub record NoKernelIsRead : Type 0 where
  pub certified : (b c : BoundValue) (meshes : List RankMesh) (bytes : List ℕ) (p : PlanValue)
      → b.mesh ≡ c.mesh → b.sites ≡ c.sites → b.trace ≡ c.trace
      → Certified b meshes bytes p → Certified c meshes bytes p
  pub refused : (b c : BoundValue) (meshes : List RankMesh) (bytes : List ℕ) (number line : ℕ)
      → b.mesh ≡ c.mesh → b.sites ≡ c.sites → b.trace ≡ c.trace
      → IsRefused b meshes bytes number line → IsRefused c meshes bytes number line
