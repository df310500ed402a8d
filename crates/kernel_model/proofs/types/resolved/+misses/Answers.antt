use Rattle.std.proofs.Common.{◌≢◌, ◌↔◌, IsTrue, sym, subst}
use Rattle.kernel_model.specs.Resolved.{StoresOnly, RowStoresOnly}
use Rattle.kernel_model.proofs.types.Rows.{of_block, whole, turn, never, both, first_fails, at_part}
use Rattle.kernel_model.proofs.types.resolved.+misses.Goals as goal

pub loop-inner-init : goal.loop-inner-init
loop-inner-init t c =
    whole (StoresOnly (λ j. j ≢ c.args.cell)) c.args.st.now c.in-Block.all c.deref-inner-items.result.now c.in-Block.is c.deref-inner-items.ensures.value
    (of_block (StoresOnly (λ j. j ≢ c.args.cell)) (λ n row. RowStoresOnly (λ j. j ≢ c.args.cell) row) tt (λ n first rest. (λ h. h, λ h. h)) c.in-Block.all)

pub returns-then-not-misses : goal.returns-then-not-misses
returns-then-not-misses t c =
    never (StoresOnly (λ j. j ≢ c.args.cell)) (StoresOnly (λ j. j ≢ c.args.cell) c.args.st.now) c.deref-inner-items.result.now
    c.loop-inner.inner-index c.inner-item.result c.misses.result c.loop-inner-test.true c.inner-item.is c.misses.ensures
    c.if-not-misses.true c.loop-inner.invariant

pub loop-inner-preserved : goal.loop-inner-preserved
loop-inner-preserved t c =
    turn (StoresOnly (λ j. j ≢ c.args.cell)) (StoresOnly (λ j. j ≢ c.args.cell) c.args.st.now) c.deref-inner-items.result.now
    c.loop-inner.inner-index c.inner-item.result c.misses.result c.loop-inner-test.true c.inner-item.is c.misses.ensures
    c.if-not-misses.false c.loop-inner.invariant

pub returns-then-misses : goal.returns-then-misses
returns-then-misses t c =
    both (StoresOnly (λ j. j ≢ c.args.cell) c.in-If.then.value) (StoresOnly (λ j. j ≢ c.args.cell) c.in-If.otherwise.value)
    (StoresOnly (λ j. j ≢ c.args.cell) c.args.st.now) c.misses-in-If.result c.misses-then-misses.result
    (subst (λ st. StoresOnly (λ j. j ≢ c.args.cell) st ↔
    (StoresOnly (λ j. j ≢ c.args.cell) c.in-If.then.value × StoresOnly (λ j. j ≢ c.args.cell) c.in-If.otherwise.value)) (sym c.in-If.is)
    (λ h. h, λ h. h))
    (at_part (StoresOnly (λ j. j ≢ c.args.cell)) c.misses-in-If.result c.deref.result.now c.in-If.then.value c.deref.ensures c.misses-in-If.ensures) c.if-misses.true
    (at_part (StoresOnly (λ j. j ≢ c.args.cell)) c.misses-then-misses.result c.deref-then-misses.result.now c.in-If.otherwise.value c.deref-then-misses.ensures c.misses-then-misses.ensures)

pub returns-else-misses : goal.returns-else-misses
returns-else-misses t c =
    first_fails (StoresOnly (λ j. j ≢ c.args.cell) c.in-If.then.value) (StoresOnly (λ j. j ≢ c.args.cell) c.in-If.otherwise.value)
    (StoresOnly (λ j. j ≢ c.args.cell) c.args.st.now) c.misses-in-If.result
    (subst (λ st. StoresOnly (λ j. j ≢ c.args.cell) st ↔
    (StoresOnly (λ j. j ≢ c.args.cell) c.in-If.then.value × StoresOnly (λ j. j ≢ c.args.cell) c.in-If.otherwise.value)) (sym c.in-If.is)
    (λ h. h, λ h. h))
    (at_part (StoresOnly (λ j. j ≢ c.args.cell)) c.misses-in-If.result c.deref.result.now c.in-If.then.value c.deref.ensures c.misses-in-If.ensures) c.if-misses.false

pub returns-then-counter-cell : goal.returns-then-counter-cell
returns-then-counter-cell t c =
    let d = at_part (StoresOnly (λ j. j ≢ c.args.cell)) c.misses-then-counter-cell.result c.deref-then-counter-cell.result.now
    c.in-For.body.value c.deref-then-counter-cell.ensures c.misses-then-counter-cell.ensures in
    subst (λ st. IsTrue c.misses-then-counter-cell.result ↔ StoresOnly (λ j. j ≢ c.args.cell) st) (sym c.in-For.is) (λ h. (c.if-counter-cell.true, d.0 h), λ h. d.1 h.1)
