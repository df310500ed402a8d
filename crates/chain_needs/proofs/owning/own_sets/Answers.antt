use Rattle.std.proofs.Common.{ℕ, arith}
use Rattle.std.proofs.lemmas.List.{length_push}
use Rattle.mesh_decl.specs.Mesh.{set_size, dat_set}
use Rattle.bound_program.specs.Values.{bound_of}
use Rattle.local_mesh.proofs.Public.{sets_more, sets_has_more}
use Rattle.chain_model.specs.Slices.{owns_pair}
use Rattle.chain_needs.proofs.owning.own_sets.Goals as goal

pub loop-dat-preserved : goal.loop-dat-preserved
loop-dat-preserved c =
    let b = bound_of c.args.bound.now in
    let size = λ (d : ℕ). set_size b.mesh (dat_set b.mesh d) in
    rw c.in_ok-push.ensures.items (record {
      count = omega (arith, length_push c.loop-dat.all.items c.in_ok-own_of.field-0, c.loop-dat.invariant.count);
      lengths = sets_more c.loop-dat.all.items c.in_ok-own_of.field-0 c.loop-dat.dat size c.loop-dat.invariant.count c.in_ok-own_of.ensures.length c.loop-dat.invariant.lengths;
      has = sets_has_more c.loop-dat.all.items c.in_ok-own_of.field-0 c.loop-dat.dat size (λ d y r. owns_pair b c.args.owners.now r d y)
          c.loop-dat.invariant.count c.in_ok-own_of.ensures.has c.loop-dat.invariant.has;
    })
