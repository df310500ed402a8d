use Rattle.std.proofs.Common.{◌≡◌, ◌++◌, [], map, drop, arith, subst, sym, ap, ◌∙◌, codes, Ok, append-nil}
use Rattle.std.proofs.lemmas.List.{drop_all}
use Rattle.op_num.specs.Lines.{line_of, text_of_lines}
use Rattle.schedule_steps.specs.Spelling.{Spells}
use Rattle.schedule_steps.specs.Reading.{Reads}
use Rattle.schedule_steps.specs.Written.{tokens_of, header, schedule_text, one_a_line, AllFit}
use Rattle.schedule_steps.proofs.text.Written.{whole_text}
use Rattle.schedule_steps.proofs.text.write.write_schedule.Goals as goal

pub returns : goal.returns
returns c =
    let steps = c.args.steps.now in
    let none : drop c.loop-step.step-index c.args.steps.now ≡ [] = drop_all c.loop-step.step-index c.args.steps.now (omega arith) in
    let lines : c.loop-step.out.items ≡ line_of header ++ text_of_lines (map tokens_of c.args.steps.now) =
    sym (append-nil c.loop-step.out.items) ∙ ap (λ xs. c.loop-step.out.items ++ text_of_lines (map tokens_of xs)) (sym none) ∙ c.loop-step.invariant.text in
    let text : c.extend_from_slice-2.new.self.items ≡ schedule_text c.args.steps.now =
    c.in_ok-extend_from_slice-2.ensures.items ∙ ap (λ xs. xs ++ codes "done\n") lines ∙ whole_text steps in
    let fit : AllFit c.args.steps.now = c.loop-step.invariant.numbers (subst AllFit (sym none) tt) in
    record {
      written = text;
      spells = subst (λ bytes. Spells bytes (one_a_line 2 steps)) (sym text) (c.written_is_read.ensures.spells steps fit);
      reads = λ room. subst (λ bytes. Reads bytes (Ok (one_a_line 2 steps))) (sym text) (c.written_is_read.ensures.reads steps fit room);
    }
