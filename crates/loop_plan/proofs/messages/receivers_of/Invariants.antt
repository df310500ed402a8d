use Rattle.std.proofs.Common.{length}
use Rattle.std.specs.Prelude.{nat_lt}
use Rattle.lemmas.specs.Below.{row}
use Rattle.loop_plan.proofs.Collecting.{Collected}
use Rattle.loop_plan.proofs.messages.receivers_of.Given as goal

abbrev pub invariant-loop-rank : goal.invariant-loop-rank
invariant-loop-rank l = Collected l.receivers (λ r. nat_lt 0 (length (row l.exports r))) l.rank
