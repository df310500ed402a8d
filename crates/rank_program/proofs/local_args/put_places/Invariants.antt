use Rattle.std.proofs.Common.{◌≡◌, take}
use Rattle.rank_program.specs.LocalArgs.{places_in}
use Rattle.rank_program.proofs.local_args.put_places.Given as goal

abbrev pub invariant-loop-i : goal.invariant-loop-i
invariant-loop-i l = l.places ≡ places_in l.place (take l.i l.args) l.fn.places
