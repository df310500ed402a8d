-- What is judged of some of a text's lines: they fit what is awaited, or one is the first that is refused.
use Rattle.std.specs.Prelude.{◌≡◌, ℕ, suc, ◌+◌, ◌<◌, List, ◌++◌, Result, Ok, Err, length}
use Rattle.op_num.specs.CutLines.{Unread}
use Rattle.local_mesh.specs.declared.types.RankMesh.{RankMesh}
use Rattle.bound_program.specs.Values.{BoundValue}
use Rattle.loop_plan.specs.Values.{PlanValue}
use Rattle.loop_plan.specs.StepCounts.{max_steps, program_steps}
use Rattle.plan_cert.specs.declared.types.CertRefusal.{CertRefusal}
use Rattle.plan_cert.specs.declared.types.CertRefusal.TheVariants.{Header, Ranks, Halo, Site, Item, BlockConflict, InnerConflict, End, TooManySteps, OutOfMemory}
use Rattle.plan_cert.specs.Awaited.{Awaited, ColourLists, FitLines}
use Rattle.plan_cert.specs.Certified.{all, Certified, RefusedAmong, IsRefused}

-- what the refusal of a line says: its number and the line; want of memory says nothing, and too many steps are of no line
abbrev pub Says : CertRefusal → (ℕ → ℕ → Type 0) → Type 0
Says (Header line) P = P 1 line
Says (Ranks line) P = P 2 line
Says (Halo line) P = P 3 line
Says (Site line) P = P 4 line
Says (Item line) P = P 5 line
Says (BlockConflict line) P = P 6 line
Says (InnerConflict line) P = P 7 line
Says (End line) P = P 8 line
Says (TooManySteps steps) P = ⊥
Says OutOfMemory P = Unit {0}

module _ (b : BoundValue) (meshes : List RankMesh) where
  -- these awaited lines are taken, with these colours
  pub record FitsAmong (size : ℕ) (xs : List Awaited) (old new : Unread) (colours : List ColourLists) : Type 0 where
    pub lines : List (List ℕ)
    pub split : old.rest ≡ all lines ++ new.rest
    pub fit : FitLines b meshes size xs lines colours
    pub taken : new.taken ≡ old.taken + length lines

  -- one of them is the first that is refused
  abbrev pub RefusesAmong : (size : ℕ) → List Awaited → Unread → CertRefusal → Type 0
  RefusesAmong size xs old e =
      Says e (λ number line. (before : ℕ) × (line ≡ old.taken + suc before) × RefusedAmong b meshes size xs old.rest number before)

  -- the one or the other
  abbrev pub JudgesAmong : {X : Type 0}
      → (size : ℕ) → List Awaited → Unread → Unread → (X → List ColourLists) → Result X CertRefusal → Type 0
  JudgesAmong size xs old new colours (Ok x) = FitsAmong size xs old new (colours x)
  JudgesAmong size xs old new colours (Err e) = RefusesAmong size xs old e

  -- Why a text gives no plan: its first line that is refused; or it gives one with more steps than the limit.
  abbrev pub IsRefusedBy : (bytes : List ℕ) → CertRefusal → Type 0
  IsRefusedBy bytes (Header line) = IsRefused b meshes bytes 1 line
  IsRefusedBy bytes (Ranks line) = IsRefused b meshes bytes 2 line
  IsRefusedBy bytes (Halo line) = IsRefused b meshes bytes 3 line
  IsRefusedBy bytes (Site line) = IsRefused b meshes bytes 4 line
  IsRefusedBy bytes (Item line) = IsRefused b meshes bytes 5 line
  IsRefusedBy bytes (BlockConflict line) = IsRefused b meshes bytes 6 line
  IsRefusedBy bytes (InnerConflict line) = IsRefused b meshes bytes 7 line
  IsRefusedBy bytes (End line) = IsRefused b meshes bytes 8 line
  IsRefusedBy bytes (TooManySteps steps) =
      (p : PlanValue) × Certified b meshes bytes p × (steps ≡ p.steps) × (steps ≡ program_steps b meshes) × (max_steps < steps)
  IsRefusedBy bytes OutOfMemory = Unit {0}
