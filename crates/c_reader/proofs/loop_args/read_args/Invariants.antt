use Rattle.std.proofs.Common.{◌≡◌, ◌-◌, length, map}
use Rattle.c_reader.specs.Rows.{behind_commas, with_front}
use Rattle.c_reader.specs.Arguments.{arg_at}
use Rattle.c_reader.specs.Kinds.{kinds}
use Rattle.c_reader.proofs.loop_args.read_args.Given as goal

abbrev pub invariant-loop-count : goal.invariant-loop-count
invariant-loop-count l =
    behind_commas (kinds l.tokens) (arg_at (kinds l.tokens)) (length l.tokens) l.at ≡ with_front (map (λ x. x) l.all.items)
    (behind_commas (kinds l.tokens) (arg_at (kinds l.tokens)) (length l.tokens - l.count) l.next)
