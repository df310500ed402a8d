use Rattle.op_outside.specs.Outside.{Rose, Files}
use Rattle.command_words.specs.Words.{OfSample}
use Rattle.command_words.specs.Lines.{refused}
use Rattle.answers.specs.Answers.{BoundAnswers}
use Rattle.job_inputs.specs.Chains.{Never}
use Rattle.job_inputs.proofs.Chained.{if_err_weaker, stops_always}
use Rattle.job_inputs.proofs.programs.bound_input.Goals as goal

pub returns-in-InFiles-clause-err : goal.returns-in-InFiles-clause-err
returns-in-InFiles-clause-err g c = rw c.in-InFiles.is c.bound_files.ensures.err

pub returns-in-OfSample-clause-err : goal.returns-in-OfSample-clause-err
returns-in-OfSample-clause-err g c =
    rw c.in-OfSample.is (if_err_weaker c.bound_sample.result _ _
    (λ h s. stops_always (g.F.Shelf.told c.args.shelf.now) (Rose (g.F.Shelf.faults c.args.shelf.now) (g.F.Shelf.faults c.args.shelf.now)) c.args.kept.now
    (λ r. (files : Files) → BoundAnswers Never (OfSample c.in-OfSample.side.cells) files (refused r))
    (λ files r. BoundAnswers Never (OfSample c.in-OfSample.side.cells) files (refused r)) h (λ files r k. k files) s) c.bound_sample.ensures.err)
