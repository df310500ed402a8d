use Rattle.std.proofs.Common.{◌≡◌, drop, reverse}
use Rattle.c_show.specs.Ahead.{args_first}
use Rattle.c_show.proofs.put_calls.put_args.Given as goal

abbrev pub invariant-loop-i : goal.invariant-loop-i
invariant-loop-i l = reverse l.out.items ≡ args_first (drop l.i l.args) (reverse l.initial.out.items)
