use Rattle.std.proofs.Common.{◌∙◌, sym, ap}
use Rattle.kernel_model.specs.declared.types.statements.RStmt.{RStmt}
use Rattle.kernel_model.specs.Effects.{in_order, effects_of, list_effects}
use Rattle.kernel_model.proofs.fault_order.Rows.{of_block}
use Rattle.kernel_model.proofs.fault_order.statements.+effects_of.Goals as goal

pub loop-inner-init : goal.loop-inner-init
loop-inner-init t c =
    let counts = c.args.counts.now in
    ap (λ x. in_order x (list_effects counts c.deref-inner-items.result.now)) c.none-done.ensures
    ∙ ap (list_effects counts) c.deref-inner-items.ensures.value
    ∙ sym (of_block counts c.in-Block.all)
    ∙ ap (λ (st : RStmt). effects_of counts st) (sym c.in-Block.is)
