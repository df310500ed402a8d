use Rattle.std.proofs.Common.{suc, List, ap, ◌∙◌, arith}
use Rattle.local_mesh.specs.RankSet.{has_at}
use Rattle.local_mesh.specs.declared.rank_sets.rank_set.RankSet.{RankSet}
use Rattle.run_model.specs.Laws.{site_of}
use Rattle.chain_model.specs.Slices.{loops_from, needs, executes}
use Rattle.chain_needs.specs.Levels.{IsLevel}
use Rattle.chain_needs.proofs.chain_slices.Reading.{level_of}
use Rattle.chain_needs.proofs.chain_slices.sliced.Slices.executes.Goals as goal

pub contains-requires : goal.contains-requires
contains-requires c = omega (arith, c.requires.2.few_ranks, c.requires.3.rank)

pub returns : goal.returns
unfolding needs executes
returns c = λ b o h q.
    let is : IsLevel b o (site_of b c.args.item) (loops_from b (suc c.args.item)) c.item_level.result.now =
    level_of b o c.args.item c.item_level.result.now q.item (c.item_level.ensures b o h q.item) in
    c.contains.ensures ∙ (c.ranks_of.ensures c.args.rank ∙ (ap (λ (z : List RankSet). has_at z c.args.element c.args.rank) c.deref.ensures.value ∙ is.executing c.args.element c.args.rank q.element))
