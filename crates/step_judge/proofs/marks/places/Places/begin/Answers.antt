use Rattle.step_judge.proofs.marks.Ends.{begin_whole}
use Rattle.step_judge.proofs.marks.places.Places.begin.Goals as goal

pub invariant_of-self : goal.invariant_of-self
invariant_of-self c = begin_whole _ c.args.place c.self.invariant
