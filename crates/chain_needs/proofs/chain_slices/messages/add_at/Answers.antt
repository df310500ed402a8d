use Rattle.local_mesh.specs.RankSet.{has_at}
use Rattle.local_mesh.proofs.Public.{union_at}
use Rattle.chain_needs.proofs.chain_slices.messages.add_at.Goals as goal

pub returns : goal.returns
unfolding has_at
returns c = union_at c.args.sets.now c.args.place c.union.result c.args.ranks c.requires c.union.ensures
