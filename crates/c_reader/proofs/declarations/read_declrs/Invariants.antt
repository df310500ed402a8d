use Rattle.std.proofs.Common.{◌≡◌, ◌-◌, length, map}
use Rattle.c_tree.specs.declared.lexer.tokens.Sign.TheVariants as s
use Rattle.c_tree.specs.View.{declr_of}
use Rattle.c_reader.specs.Rows.{separated, with_front}
use Rattle.c_reader.specs.Declarations.{declr_at}
use Rattle.c_reader.specs.Kinds.{kinds}
use Rattle.c_reader.proofs.declarations.read_declrs.Given as goal

abbrev pub invariant-loop-count : goal.invariant-loop-count
invariant-loop-count l =
    separated (kinds l.tokens) (declr_at (kinds l.tokens) l.depth l.is_const) s.Semicolon (length l.tokens) l.at ≡ with_front
    (map declr_of l.all.items) (separated (kinds l.tokens) (declr_at (kinds l.tokens) l.depth l.is_const) s.Semicolon
    (length l.tokens - l.count) l.next)
