use Rattle.std.proofs.Common.{◌∙◌, sym, ap}
use Rattle.c_tree.specs.View.{program_of}
use Rattle.name_resolution.specs.Programs.{breaches, refusal_of}
use Rattle.name_resolution.proofs.Programs.{is_resolved_program}
use Rattle.name_resolution.proofs.Least.{none_kept, refuses}
use Rattle.name_resolution.proofs.resolving.outcome.Goals as goal

pub returns-in-Ok-default-None-clause-found : goal.returns-in-Ok-default-None-clause-found
returns-in-Ok-default-None-clause-found c =
    (none_kept (breaches (program_of c.args.program.now)) (sym c.in-Ok-default-None.field-0-1-is ∙ c.in-Ok-default-None.ensures.first), c.in-Ok-default-None.ensures.tree)

pub returns-in-Ok-default-None-clause-resolved : goal.returns-in-Ok-default-None-clause-resolved
returns-in-Ok-default-None-clause-resolved c =
    is_resolved_program (program_of c.args.program.now) c.in-Ok-default-None.resolved
    (none_kept (breaches (program_of c.args.program.now)) (sym c.in-Ok-default-None.field-0-1-is ∙ c.in-Ok-default-None.ensures.first))
    c.in-Ok-default-None.ensures.tree c.in-Ok-default-None.ensures.fits

pub returns-in-Ok-default-Some-clause-found : goal.returns-in-Ok-default-Some-clause-found
returns-in-Ok-default-Some-clause-found c =
    refuses (program_of c.args.program.now) c.in-Ok-default-Some.breach _
    (sym c.in-Ok-default-Some.field-0-1-is ∙ c.in-Ok-default-Some.ensures.first)
    (c.refused.ensures ∙ ap (λ ps. refusal_of ps c.in-Ok-default-Some.breach) c.deref.ensures.value)
