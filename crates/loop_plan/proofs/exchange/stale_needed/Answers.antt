use Rattle.std.proofs.Common.{◌&&◌, false, ◌∙◌, ap, cond, [], ◌∷◌, ◌++◌}
use Rattle.std.specs.Prelude.{slice_index_or}
use Rattle.lemmas.proofs.Below.{listed_step}
use Rattle.loop_plan.specs.Needs.{needs}
use Rattle.loop_plan.proofs.exchange.stale_needed.Goals as goal

pub loop-dat-preserved : goal.loop-dat-preserved
loop-dat-preserved c =
    listed_step c.push_if.new.numbers.items c.loop-dat.exchange.items c.loop-dat.dat (λ d. slice_index_or c.args.dirty.now d false && needs c.args.args.now d) c.loop-dat.invariant
    (c.in_ok-push_if.ensures ∙ ap (λ z. c.loop-dat.exchange.items ++ cond z (c.loop-dat.dat ∷ []) []) c.is_exchanged.ensures)
