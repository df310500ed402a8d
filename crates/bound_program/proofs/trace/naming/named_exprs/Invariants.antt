use Rattle.std.proofs.Common.{map, take}
use Rattle.kernel_model.specs.View.{rexpr_of}
use Rattle.bound_program.specs.Naming.{Grows, SpellAll}
use Rattle.bound_program.proofs.trace.naming.named_exprs.Given as goal

abbrev pub invariant-loop-e : goal.invariant-loop-e
invariant-loop-e l = Grows l.fn.names.items l.names.items
    × SpellAll l.names.items (map rexpr_of l.named.items) (map rexpr_of (take l.e-index l.es))
