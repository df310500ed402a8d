use Rattle.std.proofs.Common.{false, [], get_or}
use Rattle.partition.proofs.TurnSteps.{IsTurn}
use Rattle.partition.proofs.turns.derive_rest.Given as goal

abbrev pub invariant-loop-turn : goal.invariant-loop-turn
invariant-loop-turn l = IsTurn l.mesh l.ranks l.turn (λ s. get_or l.initial.known.items s false) (λ s. get_or l.initial.sets.items s []) l.sets.items l.known.items
