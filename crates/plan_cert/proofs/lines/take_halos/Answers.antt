use Rattle.std.proofs.Common.{◌≡◌, [], subst, arith}
use Rattle.mesh_decl.specs.Mesh.{set_count}
use Rattle.bound_program.specs.Values.{bound_of}
use Rattle.plan_cert.specs.Awaited.{each_below, awaited_set, awaited_halos}
use Rattle.plan_cert.specs.Judged.{FitsAmong}
use Rattle.plan_cert.proofs.Reading.{fits_none, fits_more, refused_at, passed_on}
use Rattle.plan_cert.proofs.lines.take_halos.Goals as goal

pub loop-set-init : goal.loop-set-init
loop-set-init c = λ size. fits_none (bound_of c.args.bound.now) c.args.ranks.now size c.args.lines.now

pub returns-in_err-take_set : goal.returns-in_err-take_set
returns-in_err-take_set c = λ size.
    let b = bound_of c.args.bound.now in
    passed_on b c.args.ranks.now size (awaited_halos b c.args.ranks.now) c.args.lines.now _ (λ _. []) c.from_residual.result c.in_err-take_set.field-0.0 c.from_residual.ensures.1
    (refused_at b c.args.ranks.now size (awaited_set b c.args.ranks.now) c.loop-set.set (set_count b.mesh) c.args.lines.now c.loop-set.lines
    [] c.in_err-take_set.field-0.0 (omega arith) (c.loop-set.invariant size) (c.in_err-take_set.ensures size))

pub loop-set-preserved : goal.loop-set-preserved
loop-set-preserved c = λ size.
    let b = bound_of c.args.bound.now in
    fits_more b c.args.ranks.now size (awaited_set b c.args.ranks.now) c.loop-set.set c.args.lines.now c.loop-set.lines c.take_set.new.lines
    [] [] (c.loop-set.invariant size) (c.in_ok-take_set.ensures size)

pub returns : goal.returns
returns c = λ size.
    let b = bound_of c.args.bound.now in
    let e : c.loop-set.set ≡ set_count b.mesh = omega arith in
    subst (λ z. FitsAmong b c.args.ranks.now size (each_below (awaited_set b c.args.ranks.now) z) c.args.lines.now c.loop-set.lines []) e (c.loop-set.invariant size)
