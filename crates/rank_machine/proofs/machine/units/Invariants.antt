use Rattle.std.proofs.Common.{◌≡◌, take}
use Rattle.rank_state.specs.Starting.{units}
use Rattle.rank_machine.proofs.machine.units.Given as goal

abbrev pub invariant-loop-how : goal.invariant-loop-how
invariant-loop-how l = l.row.items ≡ units (take l.how-index l.slots)
