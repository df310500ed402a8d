use Rattle.std.proofs.Common.{◌≡◌}
use Rattle.explanations.specs.Cuts.{parts, parts_to_come}
use Rattle.explanations.specs.Words.{behind_at}
use Rattle.explanations.proofs.Finding.{left}
use Rattle.explanations.proofs.places.behind_at.Given as goal

abbrev pub invariant-loop-rest : goal.invariant-loop-rest
invariant-loop-rest l = behind_at (parts 32 l.words) ≡ behind_at (parts_to_come 32 l.rest)

abbrev pub decreases-loop-rest : goal.decreases-loop-rest
decreases-loop-rest l = left l.rest
