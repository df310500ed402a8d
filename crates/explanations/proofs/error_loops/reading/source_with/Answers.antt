use Rattle.std.proofs.Common.{Ok, subst}
use Rattle.c_tree.specs.View.{program_of}
use Rattle.kernel_model.specs.View.{resolved_of}
use Rattle.name_resolution.specs.Programs.{Resolves}
use Rattle.explanations.proofs.error_loops.reading.source_with.Goals as goal

pub returns-in-None-clause-none : goal.returns-in-None-clause-none
returns-in-None-clause-none c = λ lexed p types r.
    (rw c.in-None.is at c.in_ok-types.ensures.none) types
    (subst (λ q. Resolves q (Ok (resolved_of types)))
    (c.one_tree.ensures c.args.source.now p (program_of c.args.program) r.reads c.requires.read) r.resolves)
