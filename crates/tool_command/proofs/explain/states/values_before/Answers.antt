use Rattle.std.proofs.Common.{◌∙◌, subst}
use Rattle.bound_program.specs.Values.{bound_of}
use Rattle.explanations.specs.Faults.{item_in}
use Rattle.explanations.specs.Values.{free_loop_in}
use Rattle.answers.specs.Answers.{Answers}
use Rattle.explanations.specs.Held.{held as held_by}
use Rattle.job_inputs.proofs.Public.{if_ok_weaker}
use Rattle.tool_command.specs.Named.{named_program}
use Rattle.tool_command.specs.Loops.{files_begun, StateTells, ValuesOf}
use Rattle.tool_command.proofs.explain.Telling.{values_are}
use Rattle.tool_command.proofs.explain.states.values_before.Goals as goal

pub returns-clause-ok : goal.returns-clause-ok
returns-clause-ok g c =
    let files = held_by c.args.held.now in
    let b = bound_of c.args.bound in
    let line = c.args.line.now in
    let o = files_begun (named_program c.args.program) in
    let site = c.in-Some-Some.site in
    let item = c.in-Some-Some.item in
    let answer = c.in_ok-out.ensures in
    if_ok_weaker c.told_by_state.result (λ v. StateTells c.deref.result.now b line site v.items)
    (λ v. ValuesOf o files b line (item_in line) (free_loop_in b line) v.items)
    (λ v told. values_are files b line v.items (c.in-Some.source.now, c.in-Some.mesh.now) item site o (item_in line) (free_loop_in b line)
    c.in-Some.ensures c.in-Some-Some.ensures c.in-Some-Some.ensures' (
      answer.0,
      subst (λ words. Answers words files answer.0) c.in_ok-words.ensures answer.1,
      subst (λ out. StateTells out b line site v.items) (c.deref.ensures.value ∙ answer.2) told,
    ))
    c.told_by_state.ensures.ok
