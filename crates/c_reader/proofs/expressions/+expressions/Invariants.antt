use Rattle.std.proofs.Common.{◌≡◌, ◌+◌, ◌-◌, ◌*◌}
use Rattle.c_tree.specs.View.{expr_of}
use Rattle.c_reader.specs.Descent.{chain, read as read_at}
use Rattle.c_reader.specs.Kinds.{kinds}
use Rattle.c_reader.proofs.expressions.+expressions.Given as goal

abbrev pub decreases-read : goal.decreases-read
decreases-read l = 5 * l.depth

abbrev pub decreases-read_below : goal.decreases-read_below
decreases-read_below l = 5 * l.depth + 4

abbrev pub decreases-read_chain : goal.decreases-read_chain
decreases-read_chain l = 5 * l.depth + 1

abbrev pub decreases-read_choice : goal.decreases-read_choice
decreases-read_choice l = 5 * l.depth + 1

abbrev pub decreases-read_front : goal.decreases-read_front
decreases-read_front l = 5 * l.depth + 3

abbrev pub decreases-read_led : goal.decreases-read_led
decreases-read_led l = 5 * l.depth + 2

abbrev pub decreases-read_name : goal.decreases-read_name
decreases-read_name l = 5 * l.depth + 2

abbrev pub decreases-read_worded : goal.decreases-read_worded
decreases-read_worded l = 5 * l.depth + 2

-- What is still to be read behind the tree so far is what was to be read behind the first.
abbrev pub invariant-read_chain-loop-count : goal.invariant-read_chain-loop-count
invariant-read_chain-loop-count l =
    chain (kinds l.tokens) (read_at (kinds l.tokens) l.depth) 128 l.min (expr_of l.fn.first) l.fn.at ≡ chain (kinds l.tokens)
    (read_at (kinds l.tokens) l.depth) (128 - l.count) l.min (expr_of l.left) l.next
