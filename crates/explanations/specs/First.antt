-- The first loop of a source that gives a judgement.
use Rattle.std.specs.Prelude.{◌≡◌, ◌≤◌, ◌↔◌, ℕ, List, ◌∷◌, ◌++◌, map, length, All, Bool, IsTrue, Option, Some, None}
use Rattle.std.specs.List.{find}
use Rattle.std.specs.Str.{bytes_eq}
use Rattle.c_tree.specs.declared.lexer.tokens.Pos.{Pos}
use Rattle.kernel_model.specs.declared.types.kernels.RKernel.{RKernel}
use Rattle.kernel_model.specs.Obeys.{Mode, mode_at}
use Rattle.kernel_model.specs.Refusals.{Rule, IsRefusal, number_of}
use Rattle.explanations.specs.declared.error_loops.judgements.Judgement.{Judgement}
use Rattle.explanations.specs.Placed.{place_of}
use Rattle.explanations.specs.Calls.{Call}
use Rattle.explanations.specs.Modes.{mode_by}

-- the kernel of this name
abbrev pub kernel_named : List RKernel → (name : List ℕ) → Option RKernel
kernel_named kernels name = find (λ (k : RKernel). bytes_eq k.name name) kernels

-- a kernel takes as many parameters as there are modes, which are those of a loop: at most 16, each of a dim of at most 64
pub record CanBeJudged (k : RKernel) (modes : List Mode) : Type 0 where
  pub takes : length modes ≡ k.params
  pub few : length modes ≤ 16
  pub small : (a : ℕ) → (mode_at modes a).dim ≤ 64

-- the kernel that is used so breaks the rule of the judgement at its place, and that is the first rule that it breaks
abbrev pub IsRefusedSo : Judgement → RKernel → List Mode → Type 0
IsRefusedSo j k modes =
    (rule : Rule) × (at : Pos) × IsRefusal k modes rule at × (j ≡ record { number = number_of rule; at = place_of at })

-- this says whether it does
abbrev pub SaysSo : Judgement → RKernel → List Mode → Bool → Type 0
SaysSo j k modes b = IsTrue b ↔ IsRefusedSo j k modes

-- a loop with this kernel gives the judgement
pub record GivesBy (j : Judgement) (k : RKernel) (c : Call) : Type 0 where
  pub judged : CanBeJudged k (map mode_by c.args)
  pub refused : IsRefusedSo j k (map mode_by c.args)

-- a loop gives the judgement, with its kernel
pub record Gives (kernels : List RKernel) (j : Judgement) (c : Call) (k : RKernel) : Type 0 where
  pub is : kernel_named kernels c.kernel ≡ Some k
  pub by : GivesBy j k c

-- the kernel of a loop that gives the judgement, or none of one that doesn't
abbrev pub IsGiving : List RKernel → Judgement → Call → Option RKernel → Type 0
IsGiving kernels j c (Some k) = Gives kernels j c k
IsGiving kernels j c None = (k : RKernel) → Gives kernels j c k → ⊥

-- of these loops, this is the first that gives the judgement
pub record StandsFirst (kernels : List RKernel) (j : Judgement) (calls : List Call) (c : Call) (k : RKernel) : Type 0 where
  pub earlier : List Call
  pub later : List Call
  pub whole : calls ≡ earlier ++ c ∷ later
  pub before : All (λ e. IsGiving kernels j e None) earlier
  pub gives : Gives kernels j c k

-- the first of these loops that gives the judgement, with its kernel, or none where none does
abbrev pub IsFirst : List RKernel → Judgement → List Call → Option (Call × RKernel) → Type 0
IsFirst kernels j calls (Some f) = StandsFirst kernels j calls f.0 f.1
IsFirst kernels j calls None = All (λ e. IsGiving kernels j e None) calls
