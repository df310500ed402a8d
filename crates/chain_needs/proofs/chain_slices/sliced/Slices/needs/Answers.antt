use Rattle.std.proofs.Common.{◌∙◌, arith}
use Rattle.chain_needs.proofs.chain_slices.sliced.Slices.needs.Goals as goal

pub contains-requires : goal.contains-requires
contains-requires c = omega (arith, c.requires.2.few_ranks, c.requires.3.rank)

pub returns : goal.returns
returns c = λ b o h q.
    c.contains.ensures ∙ (c.ranks_of.ensures c.args.rank ∙ (c.needed.ensures b o h q.item q.dat).has c.args.element c.args.rank q.element)
