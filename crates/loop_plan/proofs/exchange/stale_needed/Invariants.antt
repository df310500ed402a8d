use Rattle.std.proofs.Common.{◌≡◌}
use Rattle.std.specs.Prelude.{false, ◌&&◌, slice_index_or}
use Rattle.lemmas.specs.Below.{listed}
use Rattle.loop_plan.specs.Needs.{needs}
use Rattle.loop_plan.proofs.exchange.stale_needed.Given as goal

abbrev pub invariant-loop-dat : goal.invariant-loop-dat
invariant-loop-dat l = l.exchange.items ≡ listed l.dat (λ d. slice_index_or l.dirty d false && needs l.args d)
