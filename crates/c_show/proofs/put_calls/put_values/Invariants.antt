use Rattle.std.proofs.Common.{◌≡◌, drop, map, reverse}
use Rattle.c_tree.specs.View.{expr_of}
use Rattle.c_show.specs.Ahead.{values_first}
use Rattle.c_show.proofs.put_calls.put_values.Given as goal

abbrev pub invariant-loop-i : goal.invariant-loop-i
invariant-loop-i l = reverse l.out.items ≡ values_first (map expr_of (drop l.i l.values)) (reverse l.initial.out.items)
