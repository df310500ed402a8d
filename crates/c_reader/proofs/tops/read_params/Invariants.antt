use Rattle.std.proofs.Common.{◌≡◌, ◌-◌, length, map}
use Rattle.c_tree.specs.declared.lexer.tokens.Sign.TheVariants as s
use Rattle.c_reader.specs.Rows.{separated, with_front}
use Rattle.c_reader.specs.Whole.{param_at}
use Rattle.c_reader.specs.Kinds.{kinds}
use Rattle.c_reader.proofs.tops.read_params.Given as goal

abbrev pub invariant-loop-count : goal.invariant-loop-count
invariant-loop-count l =
    separated (kinds l.tokens) (param_at (kinds l.tokens)) s.RightParen (length l.tokens) l.at ≡ with_front (map (λ x. x) l.all.items)
    (separated (kinds l.tokens) (param_at (kinds l.tokens)) s.RightParen (length l.tokens - l.count) l.next)
