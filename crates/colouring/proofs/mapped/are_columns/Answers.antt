use Rattle.std.proofs.Common.{◌<◌, ◌≤◌, None, length, arith}
use Rattle.colouring.specs.declared.types.IncArg.{IncArg}
use Rattle.colouring.proofs.Columns.{column_more}
use Rattle.colouring.proofs.mapped.are_columns.Goals as goal

none_there : IncArg
none_there = record { dat = 0; via = None }

pub loop-a-preserved : goal.loop-a-preserved
unfolding none_there
loop-a-preserved c k x lt =
    let l : c.loop-a.a < length c.args.args.now = c.loop-a-test.true in
    column_more c.args.map c.args.args.now c.args.starts.now c.loop-a.a k none_there x l (c.is_column.ensures c.if-not-is_column.false) c.loop-a.invariant lt

pub returns : goal.returns
returns c t k x l =
    let e : length c.args.args.now ≤ c.loop-a.a = c.loop-a-test.false in
    c.loop-a.invariant k x (omega arith)
