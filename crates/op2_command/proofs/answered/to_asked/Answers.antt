use Rattle.command_words.specs.Words.{ShowsUsage, ShowsVersion, names_from, names_before, names_by, names_in_blocks, names_at, names_of}
use Rattle.command_words.specs.Values.{options_in, chain_options_in, input_in}
use Rattle.answers.specs.Answers.{CommandAnswers}
use Rattle.command_words.specs.Halts.{answer_of}
use Rattle.op2_command.proofs.Chained.{over_all}
use Rattle.job_inputs.proofs.Public.{all_right}
use Rattle.op2_command.proofs.Lent.{state_lent, parting_lent, plan_lent, schedule_lent}
use Rattle.op2_command.proofs.answered.to_asked.Goals as goal

pub to_plan-requires-clause-state : goal.to_plan-requires-clause-state
to_plan-requires-clause-state g c κs within =
    let o = options_in c.in-Plan.options in
    state_lent (g.F.Shelf.lends c.args.shelf.now) (names_from (input_in c.in-Plan.input)) (names_before o.stretch) (names_by o.parting) (names_in_blocks o.blocks) (names_at o.schedule)
    (rw c.in-Plan.is at c.requires.lent)

pub to_plan-requires-clause-parting : goal.to_plan-requires-clause-parting
to_plan-requires-clause-parting g c κs within =
    let o = options_in c.in-Plan.options in
    parting_lent (g.F.Shelf.lends c.args.shelf.now) (names_from (input_in c.in-Plan.input)) (names_before o.stretch) (names_by o.parting) (names_in_blocks o.blocks) (names_at o.schedule)
    (rw c.in-Plan.is at c.requires.lent)

pub to_plan-requires-clause-plan : goal.to_plan-requires-clause-plan
to_plan-requires-clause-plan g c κs within =
    let o = options_in c.in-Plan.options in
    plan_lent (g.F.Shelf.lends c.args.shelf.now) (names_from (input_in c.in-Plan.input)) (names_before o.stretch) (names_by o.parting) (names_in_blocks o.blocks) (names_at o.schedule)
    (rw c.in-Plan.is at c.requires.lent)

pub to_plan-requires-clause-schedule : goal.to_plan-requires-clause-schedule
to_plan-requires-clause-schedule g c κs within =
    let o = options_in c.in-Plan.options in
    schedule_lent (g.F.Shelf.lends c.args.shelf.now) (names_from (input_in c.in-Plan.input)) (names_before o.stretch) (names_by o.parting) (names_in_blocks o.blocks) (names_at o.schedule)
    (rw c.in-Plan.is at c.requires.lent)

pub invariant_of-crew : goal.invariant_of-crew
invariant_of-crew g c = record { some = (rw c.in-Plan.is at c.requires.within).some_workers }

pub returns-in-Plan : goal.returns-in-Plan
returns-in-Plan g c = rw c.in-Plan.is c.to_plan.ensures

pub to_chains-requires-clause-parting : goal.to_chains-requires-clause-parting
to_chains-requires-clause-parting g c =
    all_right (g.F.Shelf.lends c.args.shelf.now) (names_from (input_in c.in-Chains.input)) (names_by (chain_options_in c.in-Chains.options).parting)
    (rw c.in-Chains.is at c.requires.lent)

pub returns-in-Chains : goal.returns-in-Chains
returns-in-Chains g c = rw c.in-Chains.is c.to_chains.ensures

pub returns-in-Convert : goal.returns-in-Convert
returns-in-Convert g c = rw c.in-Convert.is c.converted.ensures

pub returns-in-Translate : goal.returns-in-Translate
returns-in-Translate g c = rw c.in-Translate.is c.translated.ensures

pub returns-in-Restore : goal.returns-in-Restore
returns-in-Restore g c = rw c.in-Restore.is c.restored.ensures

pub returns-in_ok-done-in-Usage : goal.returns-in_ok-done-in-Usage
returns-in_ok-done-in-Usage g c =
    rw c.in-Usage.is (over_all (g.F.Shelf.told c.args.shelf.now) (names_of ShowsUsage) (CommandAnswers ShowsUsage) (answer_of c.in_ok-done-in-Usage.field-0)
    (λ files. c.in_ok-done-in-Usage.ensures))

pub returns-in_ok-done-in-Version : goal.returns-in_ok-done-in-Version
returns-in_ok-done-in-Version g c =
    rw c.in-Version.is (over_all (g.F.Shelf.told c.args.shelf.now) (names_of ShowsVersion) (CommandAnswers ShowsVersion) (answer_of c.in_ok-done-in-Version.field-0)
    (λ files. c.in_ok-done-in-Version.ensures))
