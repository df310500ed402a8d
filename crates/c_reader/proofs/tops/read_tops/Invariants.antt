use Rattle.std.proofs.Common.{◌≡◌, ◌-◌, length, map}
use Rattle.c_tree.specs.View.{top_of}
use Rattle.c_reader.specs.Rows.{until, with_front}
use Rattle.c_reader.specs.Whole.{begins_main, top_at}
use Rattle.c_reader.specs.Kinds.{kinds}
use Rattle.c_reader.proofs.tops.read_tops.Given as goal

abbrev pub invariant-loop-count : goal.invariant-loop-count
invariant-loop-count l =
    until (begins_main (kinds l.tokens)) (top_at (kinds l.tokens)) (length l.tokens) l.at ≡ with_front (map top_of l.all.items)
    (until (begins_main (kinds l.tokens)) (top_at (kinds l.tokens)) (length l.tokens - l.count) l.next)
