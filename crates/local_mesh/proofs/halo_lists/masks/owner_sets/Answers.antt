use Rattle.std.proofs.Common.{◌||◌, nat_eq, arith, get_or, ap, ◌∙◌}
use Rattle.std.proofs.lemmas.List.{length_push}
use Rattle.local_mesh.proofs.halo_lists.Steps.{has_more}
use Rattle.local_mesh.proofs.halo_lists.masks.owner_sets.Goals as goal
use Rattle.lemmas.proofs.Numbers.{nat_eq_comm}

pub loop-owner-preserved : goal.loop-owner-preserved
loop-owner-preserved c =
    let owner = get_or c.args.owners.now c.loop-owner.owner-index 0 in
    rw c.in_ok-push.ensures.items (
      omega (arith, length_push c.loop-owner.sets.items c.with.result, c.loop-owner.invariant.0),
      has_more c.loop-owner.sets.items c.with.result c.loop-owner.owner-index (λ x r. nat_eq (get_or c.args.owners.now x 0) r) c.loop-owner.invariant.0 c.loop-owner.invariant.1
          (λ r. c.with.ensures r ∙ (ap (λ z. z || nat_eq r owner) (c.empty.ensures r) ∙ nat_eq_comm r owner)),
    )
