use Rattle.step_judge.proofs.marks.AlikeJudged.{steps_alike, earlier_alike}
use Rattle.step_judge.proofs.marks.laws.alike_outlines_judge_alike.Goals as goal

pub returns-clause-steps : goal.returns-clause-steps
returns-clause-steps c = steps_alike

pub returns-clause-earlier : goal.returns-clause-earlier
returns-clause-earlier c = earlier_alike
