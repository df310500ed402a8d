use Rattle.std.proofs.Common.{◌≡◌, map, take}
use Rattle.rank_state.specs.Starting.{units}
use Rattle.rank_state.proofs.Public.{lists}
use Rattle.rank_machine.proofs.machine.units_of_ranks.Given as goal

abbrev pub invariant-loop-memory : goal.invariant-loop-memory
invariant-loop-memory l = lists l.rows.items ≡ map (λ m. units l.slots) (take l._memory-index l.memories)
