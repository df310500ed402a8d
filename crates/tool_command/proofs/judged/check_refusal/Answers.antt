use Rattle.std.proofs.Common.{subst}
use Rattle.op_outside.specs.Memory.{sure_held}
use Rattle.answers.specs.Answers.{Answers}
use Rattle.command_words.specs.Halts.{answer_of}
use Rattle.tool_command.specs.Judged.{check_words}
use Rattle.tool_command.proofs.judged.check_refusal.Goals as goal

pub returns : goal.returns
returns g c =
    let x = answer_of c.in_ok-answer.answer in (
      x,
      subst (λ files. Answers check_words files x) c.in_ok-held.ensures
          (subst (λ words. Answers words (sure_held c.in_ok-held.held) x) c.in_ok-words.ensures c.in_ok-answer.ensures),
      c.refusal_line.ensures,
    )
