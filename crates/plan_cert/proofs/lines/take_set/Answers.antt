use Rattle.std.proofs.Common.{◌≡◌, [], ◌∷◌, length, subst, arith}
use Rattle.bound_program.specs.Values.{bound_of}
use Rattle.plan_cert.specs.Awaited.{each_below, awaited_halo, awaited_set}
use Rattle.plan_cert.specs.Judged.{FitsAmong}
use Rattle.plan_cert.proofs.Reading.{fits_none, fits_more, refused_at, passed_on}
use Rattle.plan_cert.proofs.lines.take_set.Goals as goal

pub loop-rank-init : goal.loop-rank-init
loop-rank-init c = λ size. fits_none (bound_of c.args.bound.now) c.args.ranks.now size c.args.lines.now

pub returns-in_err-take_halo : goal.returns-in_err-take_halo
returns-in_err-take_halo c = λ size.
    let b = bound_of c.args.bound.now in
    passed_on b c.args.ranks.now size (awaited_set b c.args.ranks.now c.args.set) c.args.lines.now _ (λ _. []) c.from_residual.result c.in_err-take_halo.field-0.0 c.from_residual.ensures.1
    (refused_at b c.args.ranks.now size (λ r. awaited_halo b c.args.ranks.now c.args.set r ∷ []) c.loop-rank.rank (length c.args.ranks.now)
    c.args.lines.now c.loop-rank.lines [] c.in_err-take_halo.field-0.0 (omega arith) (c.loop-rank.invariant size)
    (c.in_err-take_halo.ensures size))

pub loop-rank-preserved : goal.loop-rank-preserved
loop-rank-preserved c = λ size.
    let b = bound_of c.args.bound.now in
    fits_more b c.args.ranks.now size (λ r. awaited_halo b c.args.ranks.now c.args.set r ∷ []) c.loop-rank.rank c.args.lines.now
    c.loop-rank.lines c.take_halo.new.lines [] [] (c.loop-rank.invariant size) (c.in_ok-take_halo.ensures size)

pub returns : goal.returns
returns c = λ size.
    let b = bound_of c.args.bound.now in
    let e : c.loop-rank.rank ≡ length c.args.ranks.now = omega arith in
    subst (λ z. FitsAmong b c.args.ranks.now size (each_below (λ r. awaited_halo b c.args.ranks.now c.args.set r ∷ []) z) c.args.lines.now c.loop-rank.lines []) e (c.loop-rank.invariant size)
