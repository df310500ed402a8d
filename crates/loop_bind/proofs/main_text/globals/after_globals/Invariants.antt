use Rattle.std.proofs.Common.{◌≡◌, drop}
use Rattle.loop_bind.specs.Arguments.{after_globals}
use Rattle.main_declarations.specs.Walks.{declared_of}
use Rattle.loop_bind.proofs.main_text.globals.after_globals.Given as goal

abbrev pub invariant-loop-arg : goal.invariant-loop-arg
invariant-loop-arg l =
    after_globals l.source.entries.now.entries (drop l.arg-index l.args) (declared_of l.k) ≡ after_globals l.source.entries.now.entries l.args (declared_of l.initial.k)
