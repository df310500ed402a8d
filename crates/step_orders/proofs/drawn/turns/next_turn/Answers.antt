use Rattle.std.proofs.Common.{◌∙◌, length, ap, take}
use Rattle.step_orders.specs.declared.drawn.turns.Turn.TheVariants.{Rank}
use Rattle.step_orders.specs.Rests.{rests, sent_below, is_sent}
use Rattle.step_orders.proofs.drawn.Among.{takes_join, takes_none, takes_step}
use Rattle.step_orders.proofs.drawn.turns.next_turn.Goals as goal

pub returns-then-join-items-clause-turn : goal.returns-then-join-items-clause-turn
returns-then-join-items-clause-turn c = λ tails.
    takes_join (rests c.args.heads.now tails) (is_sent (sent_below c.args.sent.now)) c.args.number c.args.join c.args.items (length c.args.heads.now)
    (c.is_any_early.ensures.no c.if-not-is_any_early.true tails) c.if-join-items.true

pub returns-else-join-items-clause-turn : goal.returns-else-join-items-clause-turn
returns-else-join-items-clause-turn c = λ tails.
    takes_none (rests c.args.heads.now tails) (is_sent (sent_below c.args.sent.now)) c.args.number c.args.join c.args.items (length c.args.heads.now)
    (c.is_any_early.ensures.no c.if-not-is_any_early.true tails) c.if-join-items.false

pub returns-clause-turn : goal.returns-clause-turn
returns-clause-turn c = λ tails.
    ap Rank c.picked.ensures
    ∙ takes_step (rests c.args.heads.now tails) (is_sent (sent_below c.args.sent.now)) c.args.number c.args.join c.args.items (length c.args.heads.now)
    (take c.put_going-count.result c.put_going-count.new.found) (c.is_any_early.ensures.yes c.if-not-is_any_early.false tails) (c.put_going-count.ensures.found tails)
