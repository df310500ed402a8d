use Rattle.c_tree.specs.View.{program_of}
use Rattle.name_resolution.proofs.Unique.{only_answer}
use Rattle.name_resolution.proofs.resolving.resolve.Goals as goal

pub returns-clause-only : goal.returns-clause-only
returns-clause-only c = λ o h. only_answer (program_of c.args.program.now) c.outcome.result o h c.outcome.ensures.found
