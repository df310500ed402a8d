use Rattle.explanations.proofs.error_loops.Judging.{says_so}
use Rattle.explanations.proofs.error_loops.first.says_so.Goals as goal

pub returns : goal.returns
returns c k modes r =
    says_so c.are_same.result c.args.judgement c.in_ok-said.said k modes c.rules_are_broken.ensures.first (c.in_ok-said.ensures k modes r) c.are_same.ensures
