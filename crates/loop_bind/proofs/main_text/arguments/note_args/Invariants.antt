use Rattle.std.proofs.Common.{◌≡◌, drop, []}
use Rattle.bound_program.specs.Refusals.{least_from}
use Rattle.loop_bind.specs.Arguments.{args_found}
use Rattle.main_declarations.specs.Walks.{declared_of}
use Rattle.loop_bind.proofs.main_text.arguments.note_args.Given as goal

abbrev pub invariant-loop-arg : goal.invariant-loop-arg
invariant-loop-arg l =
    least_from l.first (args_found l.source.places.now l.source.entries.now.entries (declared_of l.k) l.set l.before.items
    (drop l.arg-index l.args)) ≡ least_from l.initial.first
    (args_found l.source.places.now l.source.entries.now.entries (declared_of l.k) l.set [] l.args)
