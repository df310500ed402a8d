use Rattle.std.proofs.Common.{Ok, Err, inl, inr, subst}
use Rattle.bound_program.specs.Values.{bound_of}
use Rattle.command_words.specs.Halts.{refusal_of}
use Rattle.answers.specs.Judgements.{FromText, ChosenIs}
use Rattle.job_inputs.specs.Inputs.{chosen_of}
use Rattle.tool_command.proofs.explain.Binding.{refused_by}
use Rattle.tool_command.proofs.explain.states.told_by_state.Goals as goal

pub returns-in-Ok-clause-ok : goal.returns-in-Ok-clause-ok
returns-in-Ok-clause-ok c =
    let chosen = chosen_of c.in-Ok.chosen in
    inl (
      chosen,
      subst (λ t. ChosenIs (FromText t) (bound_of c.args.bound) (Ok chosen)) c.as_state.ensures.same c.in-Ok.ensures.ok,
      c.in_ok-arguments_of-in-Ok.ensures,
    )

pub returns-in-Err-Refused-clause-ok : goal.returns-in-Err-Refused-clause-ok
returns-in-Err-Refused-clause-ok c =
    let r = c.in-Err-Refused.field-0-0 in
    let text = c.as_state.result.now in
    inr (
      refusal_of r,
      subst (λ t. ChosenIs (FromText t) (bound_of c.args.bound) (Err (refusal_of r))) c.as_state.ensures.same
          (refused_by (λ r. ChosenIs (FromText text) (bound_of c.args.bound) (Err r)) c.in-Err-Refused.field-0 r
          c.in-Err-Refused.field-0-is c.in-Err-Refused.ensures.err),
      c.new.ensures.items,
    )
