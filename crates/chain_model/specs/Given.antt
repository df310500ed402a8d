-- The laws of the lower crates on which the proofs rest.
use Rattle.kernel_model.specs.declared.types.faults.KernelFault.{KernelFault}
use Rattle.std.specs.Prelude.{ℕ, Bool}
use Rattle.schedule_model.specs.Setup.{Setup}
use Rattle.schedule_model.specs.Laws.{Lawful}
use Rattle.schedule_model.specs.Sequential.{sequential}
use Rattle.loop_plan.specs.Laws.{NumbersExist, OutcomesFit, DistributionsExist, PlansExist}
use Rattle.bound_plan.specs.Laws.{SetupsAreLawful}
use Rattle.chain_model.specs.Slicing.{Slicing}
use Rattle.chain_model.specs.Held.{NeedsOwn, StoresHold}
use Rattle.chain_model.specs.Machine.{ChainAgrees, chain_machine}
use Rattle.chain_model.specs.ChainLaws.{AreSlices, KeepsNeeds, sliced}

-- a program has a plan on the ranks of any owners
pub record PlanLaws : Type 0 where
  pub numbers : NumbersExist
  pub outcomes : OutcomesFit
  pub distributions : DistributionsExist
  pub plans : PlansExist
  pub lawful : SetupsAreLawful

-- what chains of a lawful setup do
pub record ChainLaws : Type 0 where
  pub agrees : (p : Setup KernelFault) (needs : ℕ → ℕ → ℕ → ℕ → Bool) (executes : ℕ → ℕ → ℕ → Bool)
      → Lawful p
      → AreSlices p needs executes
      → ChainAgrees (sliced p needs executes) (sequential p.program) (chain_machine (sliced p needs executes))
  pub kept : (p : Setup KernelFault) (needs : ℕ → ℕ → ℕ → ℕ → Bool) (executes : ℕ → ℕ → ℕ → Bool)
      → Lawful p
      → AreSlices p needs executes
      → KeepsNeeds (sliced p needs executes)
  pub hold : (c : Slicing KernelFault) → NeedsOwn c → (k : ℕ) → StoresHold c k
