use Rattle.std.proofs.Common.{map}
use Rattle.access_check.specs.Modes.{model_of}
use Rattle.explanations.proofs.error_loops.Judging.{obeys_so}
use Rattle.explanations.proofs.error_loops.first.is_refused_so.Goals as goal

pub returns-in-Ok : goal.returns-in-Ok
returns-in-Ok c =
    obeys_so c.args.judgement c.args.kernel.now (map model_of c.args.modes.now) c.rules_are_broken.ensures.obeys c.in-Ok.ensures.accepted
