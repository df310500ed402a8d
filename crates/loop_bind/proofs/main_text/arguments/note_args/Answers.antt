use Rattle.std.proofs.Common.{◌∙◌, ap, List}
use Rattle.loop_bind.specs.declared.main_text.arguments.Earlier.{Earlier}
use Rattle.bound_program.specs.Refusals.{least_from}
use Rattle.loop_bind.specs.Arguments.{arg_found}
use Rattle.main_declarations.specs.Walks.{declared_of}
use Rattle.loop_bind.proofs.main_text.ArgTurns.{args_go}
use Rattle.loop_bind.proofs.main_text.arguments.note_args.Goals as goal

pub loop-arg-preserved : goal.loop-arg-preserved
loop-arg-preserved c =
    let places = c.args.source.now.places.now in
    let entries = c.args.source.now.entries.now.entries in
    let k = declared_of c.args.k.now in
    let x = c.arg-item.result in
    args_go places entries k c.args.set c.loop-arg.before.items _ c.args.args.now c.loop-arg.arg-index x c.loop-arg.first _
    c.loop-arg-test.true c.arg-item.is
    (c.note_arg.ensures ∙ ap (λ (b : List Earlier). least_from c.loop-arg.first (arg_found places entries k c.args.set b x))
    c.deref.ensures.value) c.in_ok-add_earlier.ensures ∙ c.loop-arg.invariant
