use Rattle.schedule_steps.specs.Outline.{Outline}
use Rattle.std.proofs.Common.{ℕ}
use Rattle.step_orders.proofs.RankSteps.{own_send, own_recv}
use Rattle.step_orders.proofs.own_walks.next_own_in.Goals as goal

pub returns-then-here-receivers-clause-first : goal.returns-then-here-receivers-clause-first
returns-then-here-receivers-clause-first g c =
    let o : Outline = g.S.Shape.outline c.args.shape.now in
    let n : ℕ = g.S.Shape.group c.args.shape.now in
    own_send o n c.args.rank c.args.item c.args.here.now c.receivers-receivers.result.now c.receivers-receivers.ensures c.if-here-receivers.true

pub returns-then-here-senders-clause-first : goal.returns-then-here-senders-clause-first
returns-then-here-senders-clause-first g c =
    let o : Outline = g.S.Shape.outline c.args.shape.now in
    let n : ℕ = g.S.Shape.group c.args.shape.now in
    own_recv o n c.args.rank c.args.item c.args.here.now c.receivers-receivers.result.now c.senders-senders.result.now
    c.receivers-receivers.ensures c.if-here-receivers.false c.senders-senders.ensures c.if-here-senders.true
