use Rattle.std.proofs.Common.{refl, arith}
use Rattle.std.specs.Fmt.{decimal}
use Rattle.loop_plan.proofs.Lines.{parts_more}
use Rattle.loop_plan.proofs.writing.put_numbers.Goals as goal

pub loop-number-preserved : goal.loop-number-preserved
loop-number-preserved c =
    parts_more decimal c.args.numbers.now c.loop-number.number-index _ c.args.out.now.items c.loop-number.out.items c.put_number.new.out.items
    (omega (arith, c.loop-number-test.true)) refl c.loop-number.invariant c.in_ok-put_number.ensures
