use Rattle.step_judge.proofs.marks.items.ItemMarks.find.Goals as goal

pub pair_among-requires-clause-rising : goal.pair_among-requires-clause-rising
pair_among-requires-clause-rising c = c.self.invariant.1 c.if-self.true
