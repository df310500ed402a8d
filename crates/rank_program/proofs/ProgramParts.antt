-- What holds of a program holds of the parts that it is made of.
use Rattle.std.proofs.Common.{◌≡◌, ℕ, List, sym, subst}
use Rattle.rank_program.specs.declared.program.DistributedProgram.{DistributedProgram}
use Rattle.rank_program.specs.declared.tasks.Task.{Task}
use Rattle.rank_program.specs.declared.tasks.Targets.{Targets}
use Rattle.rank_program.specs.Sound.{Takes, targeted_in}

module _ {p d : DistributedProgram} (are : p ≡ d) where
  pub takes_of : {k e cs ws : ℕ} → Takes d k e cs ws → Takes p k e cs ws
  takes_of {k} {e} {cs} {ws} takes = subst (λ z. Takes z k e cs ws) (sym are) takes

  pub targeted_of : (k : ℕ) (tasks : List Task) (targets : List Targets) → targeted_in d k tasks targets → targeted_in p k tasks targets
  targeted_of k tasks targets targeted = subst (λ z. targeted_in z k tasks targets) (sym are) targeted
