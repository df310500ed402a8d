use Rattle.std.proofs.Common.{length, sym}
use Rattle.std.proofs.lemmas.Bool.{eqb-true}
use Rattle.schedule_check.proofs.plan_orders.PairLists.{no_pairs}
use Rattle.schedule_check.proofs.plan_orders.messages.messages_of.Goals as goal

pub returns-then-is_empty : goal.returns-then-is_empty
returns-then-is_empty c = rw (c.new.ensures.items, c.new-then-is_empty.ensures.items) (no_pairs c.args.pairs.now c.args.ranks (eqb-true (length c.args.pairs.now) 0 (sym c.if-is_empty.ensures)))
