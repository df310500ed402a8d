use Rattle.std.proofs.Common.{Ok, None, subst, sym, ◌∙◌, inr}
use Rattle.partition.specs.Reading.{End, step, finish}
use Rattle.partition.specs.Answered.{LeadsToSet}
use Rattle.op_num.proofs.Public.{run_refused}
use Rattle.partition.proofs.part_text.Running.{step-end, run_done, all_given}
use Rattle.partition.proofs.part_text.read.read.Goals as goal

pub returns-in-None-clause-answers : goal.returns-in-None-clause-answers
returns-in-None-clause-answers c =
    let told = subst (λ o. LeadsToSet c.args.mesh.now c.args.ranks c.deref.result.now c.loop-table.tokens (Ok o) c.next_set.new.tokens) c.in_default.is c.in_ok-set.ensures.leads in
    let leads = subst (λ t. LeadsToSet c.args.mesh.now c.args.ranks t c.loop-table.tokens (Ok None) c.next_set.new.tokens) c.deref.ensures.value told in
    c.loop-table.invariant.runs ∙ all_given c.args.mesh.now c.args.ranks c.loop-table.table.items c.in_ok-sets.sets.items
    c.loop-table.tokens c.next_set.new.tokens c.last.result leads c.last.ensures c.in_ok-sets.ensures
    ∙ run_done c.args.mesh.now c.args.ranks c.in_ok-sets.sets.items c.next_set.new.tokens (sym c.in-None.ensures.token)

pub returns-in-Some-next-clause-answers : goal.returns-in-Some-next-clause-answers
returns-in-Some-next-clause-answers c =
    let told = subst (λ o. LeadsToSet c.args.mesh.now c.args.ranks c.deref.result.now c.loop-table.tokens (Ok o) c.next_set.new.tokens) c.in_default.is c.in_ok-set.ensures.leads in
    let leads = subst (λ t. LeadsToSet c.args.mesh.now c.args.ranks t c.loop-table.tokens (Ok None) c.next_set.new.tokens) c.deref.ensures.value told in
    rw c.line.ensures (inr (c.loop-table.invariant.runs
    ∙ all_given c.args.mesh.now c.args.ranks c.loop-table.table.items c.in_ok-sets.sets.items c.loop-table.tokens c.next_set.new.tokens
    c.last.result leads c.last.ensures c.in_ok-sets.ensures
    ∙ run_refused (step c.args.mesh.now c.args.ranks) finish (End c.in_ok-sets.sets.items) _ _ c.in-Some-next.token _
    (record { first = sym c.in-Some-next.ensures.token; rest = c.in-Some-next.ensures.rest })
    (step-end c.args.mesh.now c.args.ranks c.in_ok-sets.sets.items c.in-Some-next.token)))
