use Rattle.chain_needs.proofs.chain_slices.Counting.{contains_is}
use Rattle.chain_needs.proofs.chain_slices.messages.contains.Goals as goal

pub returns : goal.returns
returns c = contains_is c.args.set c.empty.result c.with.result c.minus.result c.args.rank c.is_empty.result c.requires c.empty.ensures c.with.ensures c.minus.ensures c.is_empty.ensures
