use Rattle.std.proofs.Common.{◌∙◌, ℕ, ap, arith, List, Vec, length}
use Rattle.std.specs.Prelude.{nat_lt}
use Rattle.std.specs.declared.alloc.Global.{Global}
use Rattle.std.proofs.lemmas.List.{length_push}
use Rattle.lemmas.specs.Below.{row}
use Rattle.loop_plan.specs.Exports.{is_some_exported}
use Rattle.loop_plan.proofs.Collecting.{sets_at_more}
use Rattle.loop_plan.proofs.messages.receivers_by_owner.Goals as goal

pub loop-owner-preserved : goal.loop-owner-preserved
loop-owner-preserved c =
    let xs = c.loop-owner.receivers.items in
    rw c.in_ok-push.ensures.items (
      omega (arith, length_push xs c.receivers_of.result, c.loop-owner.invariant.0),
      sets_at_more xs c.receivers_of.result c.loop-owner.owner (is_some_exported c.args.exports.now) c.loop-owner.invariant.0
          (λ r. c.receivers_of.ensures r ∙ ap (λ (z : List (Vec ℕ Global)). nat_lt 0 (length (row z r))) c.exports_of_owner.ensures)
          c.loop-owner.invariant.1,
    )
