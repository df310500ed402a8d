use Rattle.std.proofs.Common.{◌∙◌, ap}
use Rattle.loop_plan.specs.Needs.{run_of, item_at}
use Rattle.loop_plan.proofs.Behind.{item_read, traced}
use Rattle.loop_plan.proofs.exchange.run_at.Goals as goal

pub returns : goal.returns
unfolding item_at
returns c = c.run_of_item.ensures ∙ ap run_of (item_read c.args.bound.now.trace.items c.args.item c.index.result.now (traced c.args.bound.now.trace.items c.args.item c.requires) c.index.ensures)
