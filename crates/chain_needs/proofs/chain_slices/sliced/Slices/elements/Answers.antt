use Rattle.std.proofs.Common.{◌<◌, suc, length, ◌∙◌, arith}
use Rattle.run_model.specs.Laws.{site_of}
use Rattle.lemmas.proofs.Rows.{row_read}
use Rattle.chain_model.specs.Slices.{loops_from, needs, executes}
use Rattle.chain_needs.specs.Levels.{IsLevel}
use Rattle.chain_needs.proofs.chain_slices.Reading.{level_of}
use Rattle.chain_needs.proofs.chain_slices.sliced.Slices.elements.Goals as goal

pub returns : goal.returns
unfolding needs executes
returns c = λ b o h free lr.
    let is : IsLevel b o (site_of b c.args.item) (loops_from b (suc c.args.item)) c.item_level.result.now = level_of b o c.args.item c.item_level.result.now free (c.item_level.ensures b o h free) in
    let l : c.args.rank < length c.item_level.result.now.elements.items = omega (arith, is.ranks) in
    c.deref.ensures.value ∙ (row_read c.item_level.result.now.elements.items c.args.rank c.index.result.now l c.index.ensures ∙ is.elements c.args.rank lr)
