use Rattle.std.proofs.Common.{◌≢◌, ◌↔◌, sym, subst}
use Rattle.kernel_model.specs.Resolved.{StoresOnly, CountersKept, RowCountersKept}
use Rattle.kernel_model.proofs.types.Rows.{of_block, whole, turn, never, both, first_fails, at_part}
use Rattle.kernel_model.proofs.types.resolved.+keeps_counters.Goals as goal

pub loop-inner-init : goal.loop-inner-init
loop-inner-init t c =
    whole CountersKept c.args.st.now c.in-Block.all c.deref-inner-items.result.now c.in-Block.is c.deref-inner-items.ensures.value
    (of_block CountersKept (λ n row. RowCountersKept row) tt (λ n first rest. (λ h. h, λ h. h)) c.in-Block.all)

pub returns-then-not-keeps_counters : goal.returns-then-not-keeps_counters
returns-then-not-keeps_counters t c =
    never CountersKept (CountersKept c.args.st.now) c.deref-inner-items.result.now c.loop-inner.inner-index c.inner-item.result
    c.keeps_counters.result c.loop-inner-test.true c.inner-item.is c.keeps_counters.ensures c.if-not-keeps_counters.true
    c.loop-inner.invariant

pub loop-inner-preserved : goal.loop-inner-preserved
loop-inner-preserved t c =
    turn CountersKept (CountersKept c.args.st.now) c.deref-inner-items.result.now c.loop-inner.inner-index c.inner-item.result
    c.keeps_counters.result c.loop-inner-test.true c.inner-item.is c.keeps_counters.ensures c.if-not-keeps_counters.false
    c.loop-inner.invariant

pub returns-then-misses : goal.returns-then-misses
returns-then-misses t c =
    both (StoresOnly (λ j. j ≢ c.in-For.counter) c.in-For.body.value) (CountersKept c.in-For.body.value) (CountersKept c.args.st.now) c.misses.result c.keeps_counters-then-misses.result
    (subst (λ st. CountersKept st ↔ (StoresOnly (λ j. j ≢ c.in-For.counter) c.in-For.body.value × CountersKept c.in-For.body.value)) (sym c.in-For.is) (λ h. h, λ h. h))
    (at_part (StoresOnly (λ j. j ≢ c.in-For.counter)) c.misses.result c.deref-in-For.result.now c.in-For.body.value c.deref-in-For.ensures c.misses.ensures) c.if-misses.true
    (at_part CountersKept c.keeps_counters-then-misses.result c.deref-then-misses.result.now c.in-For.body.value c.deref-then-misses.ensures c.keeps_counters-then-misses.ensures)

pub returns-else-misses : goal.returns-else-misses
returns-else-misses t c =
    first_fails (StoresOnly (λ j. j ≢ c.in-For.counter) c.in-For.body.value) (CountersKept c.in-For.body.value) (CountersKept c.args.st.now) c.misses.result
    (subst (λ st. CountersKept st ↔ (StoresOnly (λ j. j ≢ c.in-For.counter) c.in-For.body.value × CountersKept c.in-For.body.value)) (sym c.in-For.is) (λ h. h, λ h. h))
    (at_part (StoresOnly (λ j. j ≢ c.in-For.counter)) c.misses.result c.deref-in-For.result.now c.in-For.body.value c.deref-in-For.ensures c.misses.ensures) c.if-misses.false
