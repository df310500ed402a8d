use Rattle.std.proofs.Common.{◌∙◌, sym}
use Rattle.lemmas.proofs.Rows.{row_read}
use Rattle.schedule_check.proofs.plan_orders.TableReads.{row_past}
use Rattle.schedule_check.proofs.plan_orders.messages.list_at.Goals as goal

pub returns-then-rank-lists : goal.returns-then-rank-lists
returns-then-rank-lists c = sym (row_past c.args.lists.now c.args.rank c.if-rank-lists.true)

pub returns : goal.returns
returns c =
    c.deref.ensures.value
    ∙ row_read c.args.lists.now c.args.rank c.index-lists-rank.result c.if-rank-lists.false c.index-lists-rank.is
