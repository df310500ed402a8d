use Rattle.std.proofs.Common.{◌≡◌, List, []}
use Rattle.schedule_steps.specs.declared.step.Step.{Step}
use Rattle.schedule_steps.specs.Drawn.{numbers, is_early}
use Rattle.step_orders.specs.Rests.{rests}
use Rattle.step_orders.proofs.drawn.turns.is_any_early.Given as goal

abbrev pub invariant-loop-rank : goal.invariant-loop-rank
invariant-loop-rank l = record { none : (tails : List (List Step)) → numbers (λ r. is_early l.fn.join (rests l.fn.heads tails r)) l.rank ≡ [] }
