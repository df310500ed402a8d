use Rattle.std.proofs.Common.{◌≡◌, ◌<◌, ◌&&◌, nat_eq, ap, ◌∙◌, arith}
use Rattle.std.specs.Prelude.{not}
use Rattle.std.proofs.lemmas.List.{length_push}
use Rattle.mesh_decl.specs.Mesh.{set_size, dat_set}
use Rattle.mesh_decl.specs.Owners.{owner_of}
use Rattle.bound_program.specs.Values.{bound_of}
use Rattle.chain_model.specs.Slices.{owns_pair}
use Rattle.chain_needs.proofs.chain_slices.Pushed.{has_more_below}
use Rattle.chain_needs.specs.PairSets.{pairs_of}
use Rattle.chain_needs.proofs.OwnPairs.{owner_is}
use Rattle.chain_needs.proofs.chain_slices.lists.others_of.Goals as goal

pub loop-element-preserved : goal.loop-element-preserved
loop-element-preserved c =
    let b = bound_of c.args.bound.now in
    let e = c.loop-element.element in
    let o = c.args.owners.now in
    let set : c.dat_shape-set.result.0 ≡ dat_set b.mesh c.args.dat = ap (λ z. z.0) c.dat_shape-set.ensures in
    let size : c.set_size-element-end.result ≡ set_size b.mesh (dat_set b.mesh c.args.dat) = c.set_size-element-end.ensures ∙ ap (set_size b.mesh) set in
    let l : e < set_size b.mesh (dat_set b.mesh c.args.dat) = omega arith in
    rw c.in_ok-push.ensures.items (
      omega (arith, length_push c.loop-element.sets.items c.other_ranks.result),
      has_more_below c.loop-element.sets.items c.other_ranks.result e
          (λ y r. pairs_of c.args.needed.now r c.args.dat y && not (owns_pair b o r c.args.dat y)) c.loop-element.invariant.0
          c.loop-element.invariant.1
          (λ r lr. c.other_ranks.ensures r lr ∙ (ap (λ z. z && not (nat_eq r c.rank_of.result)) (c.ranks_at-ranks.ensures r)
          ∙ ap (λ z. pairs_of c.args.needed.now r c.args.dat e && not z) (owner_is b o c.args.dat e r c.rank_of.result l (c.rank_of.ensures ∙ ap (λ z. owner_of o z e) set)))),
    )
