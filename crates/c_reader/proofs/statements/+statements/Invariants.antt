use Rattle.std.proofs.Common.{◌≡◌, ◌+◌, ◌-◌, ◌*◌, length, map, slice_get}
use Rattle.c_tree.specs.declared.lexer.tokens.Sign.TheVariants as s
use Rattle.c_tree.specs.View.{stmt_of}
use Rattle.c_reader.specs.Descent.{sign_is}
use Rattle.c_reader.specs.Rows.{until, with_front}
use Rattle.c_reader.specs.Statements.{stmt_at}
use Rattle.c_reader.specs.Kinds.{kinds}
use Rattle.c_reader.proofs.statements.+statements.Given as goal

abbrev pub decreases-read_stmt : goal.decreases-read_stmt
decreases-read_stmt l = 5 * l.depth

abbrev pub decreases-read_led : goal.decreases-read_led
decreases-read_led l = 5 * l.depth + 3

abbrev pub decreases-read_if : goal.decreases-read_if
decreases-read_if l = 5 * l.depth + 2

abbrev pub decreases-read_block : goal.decreases-read_block
decreases-read_block l = 5 * l.depth + 2

abbrev pub decreases-read_for : goal.decreases-read_for
decreases-read_for l = 5 * l.depth + 2

abbrev pub decreases-read_body : goal.decreases-read_body
decreases-read_body l = 5 * l.depth + 1

abbrev pub decreases-read_stmts : goal.decreases-read_stmts
decreases-read_stmts l = 5 * l.depth + 1

-- The statements so far before those that are still to be read are all.
abbrev pub invariant-read_stmts-loop-count : goal.invariant-read_stmts-loop-count
invariant-read_stmts-loop-count l =
    until (λ m. sign_is s.RightBrace (slice_get (kinds l.tokens) m)) (stmt_at (kinds l.tokens) l.depth) (length l.tokens) l.at ≡ with_front
    (map stmt_of l.all.items) (until (λ m. sign_is s.RightBrace (slice_get (kinds l.tokens) m)) (stmt_at (kinds l.tokens) l.depth)
    (length l.tokens - l.count) l.next)
