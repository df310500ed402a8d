use Rattle.rank_state.proofs.rank_memory.Moving.{Halfway}
use Rattle.rank_state.proofs.rank_memory.mail.letters.compact.Given as goal

abbrev pub invariant-loop-i : goal.invariant-loop-i
invariant-loop-i l = Halfway l.fn.letters l.fn.cells l.kept l.i l.end l.letters l.cells
