use Rattle.std.proofs.Common.{get_or}
use Rattle.step_orders.proofs.drawn.Writes.{rest_is, taken, others_kept}
use Rattle.step_orders.proofs.drawn.ranks.take_step.Goals as goal

pub returns-clause-rests : goal.returns-clause-rests
returns-clause-rests g c =
    taken g.T.Steps.left c.args.heads.now c.args.streams.now c.args.rank c.index-streams-rank.result c.next_step.new.self c.next_step.result
    c.requires.rank c.requires.streams
    (rest_is c.next_step.result (g.T.Steps.left (get_or c.args.streams.now c.args.rank c.index-streams-rank.result)) (g.T.Steps.left c.next_step.new.self)
    c.next_step.ensures.some c.next_step.ensures.none)

pub returns-clause-others : goal.returns-clause-others
returns-clause-others g c = λ r ne. others_kept g.T.Steps.left c.args.streams.now c.args.rank c.next_step.new.self r ne
