use Rattle.std.proofs.Common.{◌≡◌, ◌∙◌, ◌+◌, sym, ap, cond, arith}
use Rattle.local_mesh.specs.LocalMesh.{executed_in}
use Rattle.loop_plan.specs.Pairs.{own_in}
use Rattle.loop_plan.proofs.SetReads.{own_read, executed_read}
use Rattle.loop_plan.proofs.places.places_on.Goals as goal

pub overflow_add-result : goal.overflow_add-result
overflow_add-result c =
    let s = c.index-sets-set.result in
    let e : s.own + s.exec ≡ executed_in c.args.sets.now c.args.set = executed_read c.args.sets.now c.args.set s c.requires.set c.index-sets-set.is in
    omega (arith, e, c.requires.few)

pub returns-then-scattering : goal.returns-then-scattering
returns-then-scattering c =
    executed_read c.args.sets.now c.args.set c.index-sets-set.result c.requires.set c.index-sets-set.is
    ∙ sym (ap (λ z. cond z (executed_in c.args.sets.now c.args.set) (own_in c.args.sets.now c.args.set)) c.if-scattering.true)

pub returns-else-scattering : goal.returns-else-scattering
returns-else-scattering c =
    own_read c.args.sets.now c.args.set c.index-sets-set.result c.requires.set c.index-sets-set.is
    ∙ sym (ap (λ z. cond z (executed_in c.args.sets.now c.args.set) (own_in c.args.sets.now c.args.set)) c.if-scattering.false)
