use Rattle.std.proofs.Common.{refl, arith, []}
use Rattle.std.proofs.lemmas.List.{length_push}
use Rattle.local_mesh.proofs.Public.{has_at_past}
use Rattle.chain_needs.proofs.chain_slices.Listing.{none_more}
use Rattle.chain_needs.proofs.chain_slices.messages.empty_sets.Goals as goal

pub loop-rank-init : goal.loop-rank-init
loop-rank-init c = rw c.new-sets.ensures.items (refl, λ s r. has_at_past [] s r (omega arith))

pub loop-rank-preserved : goal.loop-rank-preserved
loop-rank-preserved c = rw c.in_ok-push.ensures.items (
  omega (arith, length_push c.loop-rank.sets.items c.empty.result, c.loop-rank.invariant.0),
  none_more c.loop-rank.sets.items c.empty.result c.empty.ensures c.loop-rank.invariant.1,
)
