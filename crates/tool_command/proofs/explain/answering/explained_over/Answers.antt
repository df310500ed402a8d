use Rattle.std.proofs.Common.{◌++◌, ◌∙◌, map, option_map, option_and_then, string_bytes, refl, ap, subst}
use Rattle.explanations.specs.Held.{held as held_by}
use Rattle.command_words.specs.Halts.{answer_of}
use Rattle.tool_command.specs.ExplainAnswers.{as_source, source_over, said_of}
use Rattle.tool_command.specs.Named.{named_program}
use Rattle.tool_command.specs.Loops.{LoopOf}
use Rattle.tool_command.proofs.explain.answering.explained_over.Goals as goal

pub returns : goal.returns
returns g c =
    let words = map string_bytes c.args.words.now.items in
    let files = held_by c.args.held.now in
    let source = c.source_held-source.ensures.source ∙ ap (option_and_then (λ n. option_and_then as_source (files n))) c.requires.source in
    let x = answer_of c.in_ok-answer.answer in
    let said = c.in_ok-text.ensures ∙ ap (said_of words x) source in
    let loop = c.in_ok-loop_text.loop_text.items in (
      x,
      c.in_ok-answer.ensures.ok,
      c.extend_from_slice.new.self.items,
      (
        loop,
        subst (λ p. LoopOf p files x.line (source_over words files) loop) c.requires.program
            (subst (λ s. LoopOf (option_map named_program c.args.program) files x.line s loop) source
            (subst (λ line. LoopOf (option_map named_program c.args.program) files line (option_map (λ s. s.now) c.source_held-source.result) loop)
            c.line_of.ensures c.in_ok-loop_text.ensures.ok)),
        c.in_ok-extend_from_slice.ensures.items ∙ ap (λ t. t ++ c.deref.result.now) said
            ∙ ap (λ l. said_of words x (source_over words files) ++ l) c.deref.ensures.value,
      ),
      refl,
    )
