use Rattle.std.proofs.Common.{◌≡◌, take}
use Rattle.schedule_check.specs.Froms.{froms}
use Rattle.schedule_check.proofs.pairs.senders.Given as goal

abbrev pub invariant-loop-pair : goal.invariant-loop-pair
invariant-loop-pair l = l.senders.items ≡ froms (take l.pair-index l.pairs)
