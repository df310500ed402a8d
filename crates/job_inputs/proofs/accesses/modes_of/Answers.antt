use Rattle.std.proofs.Common.{rules}
use Rattle.bound_program.specs.Values.{bound_of, site_of}
use Rattle.job_inputs.proofs.Sites.{arg_fits}
use Rattle.job_inputs.proofs.accesses.modes_of.Goals as goal

pub mode_of-requires-clause-arg : goal.mode_of-requires-clause-arg
mode_of-requires-clause-arg c =
    arg_fits (bound_of c.args.bound.now) (site_of c.args.site.now) c.loop-arg.arg-index _ c.requires.site (search rules) (search rules)
