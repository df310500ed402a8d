use Rattle.std.proofs.Common.{◌∙◌, arith}
use Rattle.kernel_runs.proofs.row_batches.batch_tables.WaysPut.{one_more}
use Rattle.kernel_runs.proofs.row_batches.batch_tables.ways.put_ways.Goals.{then-first-a, else-first-a}
use Rattle.kernel_runs.proofs.row_batches.batch_tables.ways.put_ways.Goals as goal

pub loop-a-preserved : goal.loop-a-preserved
loop-a-preserved c =
    let lt = c.loop-a-test.true in
    let numbers = c.loop-a.auto.numbers in
    let ways = c.loop-a.auto.ways in
    one_more c.args.args.now c.args.locals.now c.loop-a.numbers c.loop-a.ways c.loop-a.a c.loop-a.invariant
    (omega (arith, lt, numbers, c.requires.numbers)) (omega (arith, lt, ways, c.requires.ways))
    c.first_way-first.result c.first_way-first.ensures c.if-first-a.ways
    (λ e. elim c.if-first-a.branch [ then-first-a w ↦ w.ways-is ∙ w.via_of.ensures | else-first-a w ↦ absurd (w.if-first-a.false e) ])
    (λ ne. elim c.if-first-a.branch [ then-first-a w ↦ absurd (ne w.if-first-a.true) | else-first-a w ↦ w.ways-is ])
