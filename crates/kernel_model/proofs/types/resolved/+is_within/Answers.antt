use Rattle.kernel_model.specs.Resolved.{StmtWithin, RowWithin}
use Rattle.kernel_model.proofs.types.Rows.{of_block, whole, turn, never}
use Rattle.kernel_model.proofs.types.resolved.+is_within.Goals as goal

pub loop-inner-init : goal.loop-inner-init
loop-inner-init t c =
    whole (StmtWithin c.args.params c.args.scratch c.args.consts) c.args.st.now c.in-Block.all c.deref-inner-items.result.now c.in-Block.is c.deref-inner-items.ensures.value
    (of_block (StmtWithin c.args.params c.args.scratch c.args.consts) (λ n row. RowWithin c.args.params c.args.scratch c.args.consts row) tt (λ n first rest. (λ h. h, λ h. h)) c.in-Block.all)

pub returns-then-not-is_within : goal.returns-then-not-is_within
returns-then-not-is_within t c =
    never (StmtWithin c.args.params c.args.scratch c.args.consts) (StmtWithin c.args.params c.args.scratch c.args.consts c.args.st.now)
    c.deref-inner-items.result.now c.loop-inner.inner-index c.inner-item.result c.is_within.result c.loop-inner-test.true
    c.inner-item.is c.is_within.ensures c.if-not-is_within.true c.loop-inner.invariant

pub loop-inner-preserved : goal.loop-inner-preserved
loop-inner-preserved t c =
    turn (StmtWithin c.args.params c.args.scratch c.args.consts) (StmtWithin c.args.params c.args.scratch c.args.consts c.args.st.now)
    c.deref-inner-items.result.now c.loop-inner.inner-index c.inner-item.result c.is_within.result c.loop-inner-test.true
    c.inner-item.is c.is_within.ensures c.if-not-is_within.false c.loop-inner.invariant
