use Rattle.std.proofs.Common.{◌≡◌, ◌++◌, map}
use Rattle.bound_program.specs.Values.{item_of}
use Rattle.run_model.specs.Windows.{numbers}
use Rattle.checkpoint.specs.Cut.{says_dat}
use Rattle.checkpoint.proofs.heads.say_dats.Given as goal

abbrev pub invariant-loop-dat : goal.invariant-loop-dat
invariant-loop-dat l = map item_of l.trace.items ≡ map item_of l.initial.trace.items ++ map says_dat (numbers l.dat)
