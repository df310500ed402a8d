use Rattle.std.proofs.Common.{◌≡◌, drop, map, reverse}
use Rattle.c_tree.specs.View.{top_of}
use Rattle.c_show.specs.Ahead.{tops_first}
use Rattle.c_show.proofs.put_tops.put_tops.Given as goal

abbrev pub invariant-loop-i : goal.invariant-loop-i
invariant-loop-i l = reverse l.out.items ≡ tops_first (map top_of (drop l.i l.tops)) (reverse l.initial.out.items)
