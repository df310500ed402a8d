use Rattle.std.proofs.Common.{◌≡◌}
use Rattle.std.specs.List.{find}
use Rattle.explanations.specs.Cuts.{parts_to_come}
use Rattle.explanations.specs.Texts.{texts_of, explains}
use Rattle.explanations.proofs.meanings.Trying.{left}
use Rattle.explanations.proofs.meanings.finding.explaining_in.Given as goal

abbrev pub invariant-loop-rest : goal.invariant-loop-rest
invariant-loop-rest l = find (explains l.line) (texts_of l.table) ≡ find (explains l.line) (parts_to_come 10 l.rest)

abbrev pub decreases-loop-rest : goal.decreases-loop-rest
decreases-loop-rest l = left l.rest
