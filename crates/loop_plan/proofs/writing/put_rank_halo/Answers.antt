use Rattle.std.proofs.Common.{◌≡◌, ◌+◌, ◌++◌, ◌∙◌, ℕ, List, ap, length, arith}
use Rattle.op_num.specs.Lines.{line_of}
use Rattle.local_mesh.specs.LocalMesh.{originals_in, executed_in}
use Rattle.loop_plan.specs.PlanText.{Line}
use Rattle.loop_plan.proofs.SetReads.{own_read, executed_read, originals_read}
use Rattle.loop_plan.proofs.PlanLines.{halo_same}
use Rattle.loop_plan.proofs.writing.put_rank_halo.Goals as goal

pub overflow_add-executed : goal.overflow_add-executed
overflow_add-executed c =
    let s = c.index-sets-set.result in
    let e : s.own + s.exec ≡ executed_in c.args.sets.now c.args.set = executed_read c.args.sets.now c.args.set s c.requires.there c.index-sets-set.is in
    omega (arith, e, c.requires.few)

pub put_halo-requires-clause-executed : goal.put_halo-requires-clause-executed
put_halo-requires-clause-executed c =
    let s = c.index-sets-set.result in
    let e : s.own + s.exec ≡ executed_in c.args.sets.now c.args.set = executed_read c.args.sets.now c.args.set s c.requires.there c.index-sets-set.is in
    let o : length c.as_slice.result.now ≡ length (originals_in c.args.sets.now c.args.set) =
    ap (λ (z : List ℕ). length z) (c.as_slice.ensures ∙ originals_read c.args.sets.now c.args.set s c.requires.there c.index-sets-set.is) in
    omega (arith, e, o, c.requires.held)

pub returns : goal.returns
returns c =
    let s = c.index-sets-set.result in
    c.in_ok-put_halo.ensures
    ∙ ap (λ (z : Line). c.args.out.now.items ++ line_of z)
    (halo_same c.args.mesh.now c.args.sets.now c.args.set c.args.rank s.own (s.own + s.exec) c.bytes-name.result.now c.as_slice.result.now
    (c.bytes-name.ensures ∙ c.set_name.ensures)
    (c.as_slice.ensures ∙ originals_read c.args.sets.now c.args.set s c.requires.there c.index-sets-set.is)
    (own_read c.args.sets.now c.args.set s c.requires.there c.index-sets-set.is)
    (executed_read c.args.sets.now c.args.set s c.requires.there c.index-sets-set.is))
