use Rattle.step_orders.proofs.drawn.heads.waits.Goals as goal

pub returns-in-Some : goal.returns-in-Some
returns-in-Some c = λ l. rw c.in-Some.is (c.step_waits.ensures l)
