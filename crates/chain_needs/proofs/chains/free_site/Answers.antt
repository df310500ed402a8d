use Rattle.std.proofs.Common.{◌∙◌, ap}
use Rattle.loop_plan.proofs.Public.{item_read, traced}
use Rattle.chain_needs.specs.FreeSites.{free_site_of}
use Rattle.chain_needs.proofs.chains.free_site.Goals as goal

pub returns : goal.returns
returns c = c.free_site_in.ensures ∙ ap free_site_of
    (item_read c.args.bound.now.trace.items c.args.item c.index.result.now (traced c.args.bound.now.trace.items c.args.item c.requires)
    c.index.ensures)
