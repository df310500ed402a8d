use Rattle.std.proofs.Common.{◌∙◌, sym}
use Rattle.cell_numbers.proofs.FreeRuns.{runs_at}
use Rattle.cell_numbers.proofs.blocks.runs_free.Goals as goal

pub returns-then-is_run : goal.returns-then-is_run
returns-then-is_run c =
    sym (runs_at c.deref-item-items.result.now c.args.bound.now.trace.items c.loop-item.item-index c.args.site c.item-item.result
    c.deref-item-items.ensures.value c.loop-item-test.true c.item-item.is (sym c.is_run.ensures ∙ c.if-is_run.true))
