use Rattle.std.proofs.lemmas.Result.{err_from_is_err_and}
use Rattle.op_outside.specs.Outside.{Rose}
use Rattle.bound_program.specs.Values.{bound_of}
use Rattle.command_words.specs.Words.{names_by, names_in_blocks}
use Rattle.command_words.specs.Values.{options_in}
use Rattle.job_inputs.specs.Plans.{planned_of}
use Rattle.job_inputs.proofs.Chained.{if_ok_weaker, if_err_weaker}
use Rattle.job_inputs.proofs.Jobs.{next_first, next_then, both_come}
use Rattle.job_inputs.proofs.job_plans.Planning.{numbers_refused, parts_refused, owners_refused, colouring_refused, plan_refused, plan_found}
use Rattle.job_inputs.proofs.job_plans.planned.planned_on.Goals as goal

pub returns-in_err-perms-clause-err : goal.returns-in_err-perms-clause-err
returns-in_err-perms-clause-err g c =
    let p = err_from_is_err_and c.from_residual.result c.from_residual.ensures.1 in
    rw (p.1, p.2) (numbers_refused (options_in c.args.options.now) (bound_of c.args.bound.now) (g.F.Shelf.told c.args.shelf.now)
    (Rose (g.F.Shelf.faults c.args.shelf.now) (g.F.Shelf.faults c.args.shelf.now)) c.args.kept.now c.in_err-perms.field-0.0 c.in_err-perms.ensures.err)

pub partition_of-requires-clause-next : goal.partition_of-requires-clause-next
partition_of-requires-clause-next g c =
    next_first (names_by (options_in c.args.options.now).parting) (names_in_blocks (options_in c.args.options.now).blocks) c.args.kept.now c.requires.next

pub returns-in_err-partition-clause-err : goal.returns-in_err-partition-clause-err
returns-in_err-partition-clause-err g c =
    let p = err_from_is_err_and c.from_residual-in_err-partition.result c.from_residual-in_err-partition.ensures.1 in
    rw (p.1, p.2) (parts_refused (options_in c.args.options.now) (bound_of c.args.bound.now) (g.F.Shelf.told c.args.shelf.now)
    (Rose (g.F.Shelf.faults c.args.shelf.now) (g.F.Shelf.faults c.partition_of.new.shelf)) c.args.kept.now c.in_ok-perms.perms c.in_ok-perms.ensures.ok
    c.in_err-partition.field-0.0 c.in_err-partition.ensures.err)

pub returns-in_err-owners-clause-err : goal.returns-in_err-owners-clause-err
returns-in_err-owners-clause-err g c =
    let p = err_from_is_err_and c.from_residual-in_err-owners.result c.from_residual-in_err-owners.ensures.1 in
    rw (p.1, p.2) (owners_refused (options_in c.args.options.now) (bound_of c.args.bound.now) (g.F.Shelf.told c.args.shelf.now)
    (Rose (g.F.Shelf.faults c.args.shelf.now) (g.F.Shelf.faults c.partition_of.new.shelf)) c.args.kept.now c.in_ok-perms.perms c.in_ok-perms.ensures.ok
    c.partition_of.new.kept c.in_ok-partition.partition.items c.in_ok-partition.ensures.read
    c.in_err-owners.field-0.0 (rw c.deref.ensures.value at c.in_err-owners.ensures.err))

pub plan_text_of-requires-clause-next : goal.plan_text_of-requires-clause-next
plan_text_of-requires-clause-next g c =
    next_then (names_by (options_in c.args.options.now).parting) (names_in_blocks (options_in c.args.options.now).blocks) c.args.kept.now c.partition_of.new.kept
    c.requires.next c.in_ok-partition.ensures.come

pub returns-in_err-text-clause-err : goal.returns-in_err-text-clause-err
returns-in_err-text-clause-err g c =
    let p = err_from_is_err_and c.from_residual-in_err-text.result c.from_residual-in_err-text.ensures.1 in
    let halts = rw c.in_ok-partition.ensures.calm at (rw c.in_ok-partition.ensures.told at c.in_err-text.ensures.err) in
    rw (p.1, p.2) (colouring_refused (options_in c.args.options.now) (bound_of c.args.bound.now) (g.F.Shelf.told c.args.shelf.now)
    (Rose (g.F.Shelf.faults c.args.shelf.now) (g.F.Shelf.faults c.plan_text_of.new.shelf)) c.args.kept.now c.in_ok-perms.perms c.in_ok-perms.ensures.ok
    c.partition_of.new.kept c.in_ok-partition.partition.items c.in_ok-partition.ensures.read
    c.in_ok-owners.owners (rw c.deref.ensures.value at c.in_ok-owners.ensures.ok) c.in_err-text.field-0.0
    (next_first (names_by (options_in c.args.options.now).parting) (names_in_blocks (options_in c.args.options.now).blocks) c.args.kept.now c.requires.next)
    c.in_ok-partition.ensures.come halts)

pub returns-clause-come : goal.returns-clause-come
returns-clause-come g c =
    if_ok_weaker c.plan_over.result _ _
    (λ p k. both_come (names_by (options_in c.args.options.now).parting) (names_in_blocks (options_in c.args.options.now).blocks) c.args.kept.now
    c.partition_of.new.kept c.plan_text_of.new.kept c.in_ok-partition.ensures.come c.in_ok-text.ensures.come)
    c.plan_over.ensures.of

pub returns-clause-ok : goal.returns-clause-ok
returns-clause-ok g c =
    let seen = rw c.in_ok-partition.ensures.told at c.in_ok-text.ensures.read in
    if_ok_weaker c.plan_over.result _ _
    (λ p is. plan_found (options_in c.args.options.now) (bound_of c.args.bound.now) (g.F.Shelf.told c.args.shelf.now)
    (Rose (g.F.Shelf.faults c.args.shelf.now) (g.F.Shelf.faults c.plan_text_of.new.shelf)) c.args.kept.now c.in_ok-perms.perms c.in_ok-perms.ensures.ok
    c.partition_of.new.kept c.in_ok-partition.partition.items c.in_ok-partition.ensures.read
    c.in_ok-owners.owners (rw c.deref.ensures.value at c.in_ok-owners.ensures.ok) c.plan_text_of.new.kept c.in_ok-text.text.items seen
    (planned_of p) (rw c.deref-2.ensures.value at is))
    c.plan_over.ensures.ok

pub returns-clause-err : goal.returns-clause-err
returns-clause-err g c =
    let seen = rw c.in_ok-partition.ensures.told at c.in_ok-text.ensures.read in
    if_err_weaker c.plan_over.result _ _
    (λ h s. plan_refused (options_in c.args.options.now) (bound_of c.args.bound.now) (g.F.Shelf.told c.args.shelf.now)
    (Rose (g.F.Shelf.faults c.args.shelf.now) (g.F.Shelf.faults c.plan_text_of.new.shelf)) c.args.kept.now c.in_ok-perms.perms c.in_ok-perms.ensures.ok
    c.partition_of.new.kept c.in_ok-partition.partition.items c.in_ok-partition.ensures.read
    c.in_ok-owners.owners (rw c.deref.ensures.value at c.in_ok-owners.ensures.ok) c.plan_text_of.new.kept c.in_ok-text.text.items seen
    h (rw c.deref-2.ensures.value at s))
    c.plan_over.ensures.err
