use Rattle.std.proofs.Common.{◌≡◌, map, take}
use Rattle.c_tree.specs.View.{expr_of}
use Rattle.kernel_model.specs.View.{rexpr_of}
use Rattle.main_declarations.specs.Expressions.{resolved}
use Rattle.main_declarations.specs.Walks.{declared_of}
use Rattle.loop_bind.proofs.main_text.text_walk.resolved_all.Given as goal

abbrev pub invariant-loop-e : goal.invariant-loop-e
invariant-loop-e l = map rexpr_of l.values.items ≡ map (resolved l.source.places.now (declared_of l.k).names) (map expr_of (take l.e-index l.all))
