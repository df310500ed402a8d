use Rattle.std.proofs.Common.{◌≡◌, take, map}
use Rattle.loop_bind.specs.Arguments.{arg_of}
use Rattle.main_declarations.specs.Walks.{declared_of}
use Rattle.loop_bind.proofs.main_text.loops.args_of.Given as goal

abbrev pub invariant-loop-arg : goal.invariant-loop-arg
invariant-loop-arg l =
    l.all.items ≡ map (arg_of l.source.places.now l.source.entries.now.entries (declared_of l.k)) (take l.arg-index l.args)
