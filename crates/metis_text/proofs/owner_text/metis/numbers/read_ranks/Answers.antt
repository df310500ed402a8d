use Rattle.std.proofs.Common.{sym, arith}
use Rattle.metis_text.specs.declared.owner_text.metis.refusals.MetisRefusal.TheVariants.{OutOfMemory}
use Rattle.metis_text.specs.Numbers.{ranks_in}
use Rattle.metis_text.proofs.owner_text.metis.Reading.{unranked, taken, refused_on}
use Rattle.metis_text.proofs.owner_text.metis.numbers.read_ranks.Goals as goal

pub returns-in_err-rank_on : goal.returns-in_err-rank_on
returns-in_err-rank_on c =
    let all = ranks_in c.args.ranks c.args.elements c.args.bytes.now in
    refused_on OutOfMemory c.in_err-rank_on.field-0.0 c.from_residual.result _ all c.from_residual.ensures.1
    (unranked c.args.ranks all c.args.elements c.loop-element.element c.loop-element.tokens c.loop-element.found.items c.in-Some.token
    c.in_err-rank_on.field-0.0 (omega (arith, c.loop-element-test.true, c.loop-element.auto.element-end))
    (sym c.in-Some.ensures.token) (sym c.in_err-rank_on.ensures) c.loop-element.invariant)

pub loop-element-preserved : goal.loop-element-preserved
loop-element-preserved c =
    let all = ranks_in c.args.ranks c.args.elements c.args.bytes.now in
    let step = taken c.args.ranks all c.args.elements c.loop-element.element c.loop-element.tokens c.loop-element.found.items c.in-Some.token
    c.in_ok-rank_on.field-0 (omega (arith, c.loop-element-test.true, c.loop-element.auto.element-end))
    (sym c.in-Some.ensures.token) (sym c.in_ok-rank_on.ensures) c.loop-element.invariant in
    rw (c.in-Some.ensures.rest, c.in_ok-push.ensures.items) step
