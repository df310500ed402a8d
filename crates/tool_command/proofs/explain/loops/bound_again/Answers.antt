use Rattle.std.proofs.Common.{◌++◌, [], ◌∙◌, Some, ap}
use Rattle.op_outside.specs.Outside.{Rose}
use Rattle.job_inputs.specs.Readings.{readings_of}
use Rattle.explanations.specs.Held.{lent, held as held_by}
use Rattle.bound_program.specs.Values.{bound_of}
use Rattle.command_words.specs.Values.{input_in}
use Rattle.command_words.specs.Words.{names_from}
use Rattle.command_words.specs.Lines.{refused}
use Rattle.command_words.specs.Halts.{refusal_of}
use Rattle.answers.specs.Answers.{BoundAnswers}
use Rattle.job_inputs.specs.Inputs.{IsBoundIn}
use Rattle.job_inputs.specs.Chains.{Never}
use Rattle.tool_command.proofs.explain.Binding.{found_in, refused_over}
use Rattle.tool_command.proofs.explain.loops.bound_again.Goals as goal

pub returns-in-Ok-clause-some : goal.returns-in-Ok-clause-some
returns-in-Ok-clause-some c =
    let names = names_from (input_in c.args.input) in
    found_in (held_by c.args.held.now) names c.expect_input.new.kept
    (c.in_ok-expect_input.ensures ∙ ap (λ rs. rs ++ readings_of names) c.new-kept.ensures)
    (lent c.lent-shelf.result) c.lent-shelf.ensures c.bound_input.new.kept
    (IsBoundIn (input_in c.args.input) (bound_of c.in-Ok.bound)) c.in-Ok.ensures.ok

pub returns-in-Err-Refused-clause-none : goal.returns-in-Err-Refused-clause-none
returns-in-Err-Refused-clause-none c =
    let names = names_from (input_in c.args.input) in
    let r = c.in-Err-Refused.field-0-0 in
    let told = Some (lent c.lent-shelf.result) in (
      refusal_of r,
      found_in (held_by c.args.held.now) names c.expect_input.new.kept
          (c.in_ok-expect_input.ensures ∙ ap (λ rs. rs ++ readings_of names) c.new-kept.ensures)
          (lent c.lent-shelf.result) c.lent-shelf.ensures []
          (λ files. BoundAnswers Never (input_in c.args.input) files (refused (refusal_of r)))
          (refused_over told c.expect_input.new.kept (λ files r. BoundAnswers Never (input_in c.args.input) files (refused r))
          (Rose 0 0) c.in-Err-Refused.field-0 r c.in-Err-Refused.field-0-is c.in-Err-Refused.ensures.err),
    )
