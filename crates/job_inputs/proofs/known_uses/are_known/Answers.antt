use Rattle.std.proofs.Common.{rules, Contains}
use Rattle.job_inputs.specs.Known.{use_of}
use Rattle.job_inputs.proofs.Known.{found_use, one_more}
use Rattle.job_inputs.proofs.known_uses.are_known.Goals as goal

pub loop-param-preserved : goal.loop-param-preserved
loop-param-preserved c =
    one_more (λ a. Contains c.args.known.now.keys (use_of c.args.kernel c.args.modes.now a)) c.loop-param.param c.loop-param.invariant
    (found_use c.args.known.now.keys (use_of c.args.kernel c.args.modes.now c.loop-param.param) (search rules))
