use Rattle.std.proofs.Common.{◌≡◌, drop, map, reverse}
use Rattle.c_tree.specs.View.{declr_of}
use Rattle.c_show.specs.Ahead.{more_declrs_first}
use Rattle.c_show.proofs.put_statements.put_more_declrs.Given as goal

abbrev pub invariant-loop-i : goal.invariant-loop-i
invariant-loop-i l = reverse l.out.items ≡ more_declrs_first (map declr_of (drop l.i l.declrs)) (reverse l.initial.out.items)
