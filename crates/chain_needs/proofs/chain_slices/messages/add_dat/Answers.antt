use Rattle.std.proofs.Common.{◌≡◌, ◌<◌, ◌&&◌, ◌||◌, nat_eq, ap, ◌∙◌, arith}
use Rattle.local_mesh.specs.RankSet.{has_at}
use Rattle.mesh_decl.specs.Mesh.{set_size, dat_set}
use Rattle.mesh_decl.specs.Owners.{owner_of}
use Rattle.bound_program.specs.Values.{bound_of}
use Rattle.chain_model.specs.Slices.{owns_pair}
use Rattle.local_mesh.proofs.Public.{any_step}
use Rattle.chain_needs.proofs.OwnPairs.{owner_is}
use Rattle.chain_needs.proofs.chain_slices.messages.add_dat.Goals as goal
use Rattle.lemmas.proofs.Numbers.{nat_eq_comm}

pub loop-element-preserved : goal.loop-element-preserved
loop-element-preserved c = λ s r.
    let b = bound_of c.args.bound.now in
    let e = c.loop-element.element in
    let o = c.args.owners.now in
    let set : c.dat_shape-set.result.0 ≡ dat_set b.mesh c.args.dat = ap (λ z. z.0) c.dat_shape-set.ensures in
    let size : c.set_size-element-end.result ≡ set_size b.mesh (dat_set b.mesh c.args.dat) = c.set_size-element-end.ensures ∙ ap (set_size b.mesh) set in
    let l : e < set_size b.mesh (dat_set b.mesh c.args.dat) = omega arith in
    any_step (has_at c.args.to.now s r) (has_at c.loop-element.to s r) (has_at c.add_at.new.sets s r) e
    (λ y. has_at c.args.others.now y r && owns_pair b o s c.args.dat y) (c.loop-element.invariant s r)
    (c.add_at.ensures s r
    ∙ (ap (λ z. has_at c.loop-element.to s r || (z && nat_eq c.rank_of.result s)) (c.ranks_of-ranks.ensures r)
    ∙ ap (λ z. has_at c.loop-element.to s r || (has_at c.args.others.now e r && z))
    (nat_eq_comm c.rank_of.result s ∙ owner_is b o c.args.dat e s c.rank_of.result l (c.rank_of.ensures ∙ ap (λ z. owner_of o z e) set))))
