use Rattle.chain_needs.proofs.chain_slices.Reading.{is_shape, whole}
use Rattle.chain_needs.proofs.chain_slices.sliced.Slices.item_chain.Goals as goal

pub returns : goal.returns
returns c = λ b o h free first. (
  is_shape b o c.args.self.now h c.args.item free c.index.result.now c.in-Some.at c.index.ensures c.in-Some.is c.index-in-Some.result.now c.index-in-Some.ensures,
  whole b o c.args.self.now h c.args.item free c.index.result.now c.in-Some.at c.index.ensures c.in-Some.is c.index-in-Some.result.now c.index-in-Some.ensures first,
)
