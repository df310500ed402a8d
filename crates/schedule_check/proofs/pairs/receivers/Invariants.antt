use Rattle.std.proofs.Common.{◌≡◌, take}
use Rattle.schedule_check.specs.Froms.{tos}
use Rattle.schedule_check.proofs.pairs.receivers.Given as goal

abbrev pub invariant-loop-pair : goal.invariant-loop-pair
invariant-loop-pair l = l.receivers.items ≡ tos (take l.pair-index l.pairs)
