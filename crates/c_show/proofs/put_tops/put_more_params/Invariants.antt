use Rattle.std.proofs.Common.{◌≡◌, drop, reverse}
use Rattle.c_show.specs.Ahead.{more_params_first}
use Rattle.c_show.proofs.put_tops.put_more_params.Given as goal

abbrev pub invariant-loop-i : goal.invariant-loop-i
invariant-loop-i l = reverse l.out.items ≡ more_params_first (drop l.i l.params) (reverse l.initial.out.items)
