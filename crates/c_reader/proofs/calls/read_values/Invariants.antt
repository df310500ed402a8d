use Rattle.std.proofs.Common.{◌≡◌, ◌-◌, length, map}
use Rattle.c_tree.specs.View.{expr_of}
use Rattle.c_reader.specs.Descent.{read}
use Rattle.c_reader.specs.Rows.{behind_commas, with_front}
use Rattle.c_reader.specs.Kinds.{kinds}
use Rattle.c_reader.proofs.calls.read_values.Given as goal

abbrev pub invariant-loop-count : goal.invariant-loop-count
invariant-loop-count l =
    behind_commas (kinds l.tokens) (read (kinds l.tokens) l.depth 0) (length l.tokens) l.at ≡ with_front (map expr_of l.all.items)
    (behind_commas (kinds l.tokens) (read (kinds l.tokens) l.depth 0) (length l.tokens - l.count) l.next)
