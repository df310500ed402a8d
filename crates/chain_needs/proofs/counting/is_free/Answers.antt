use Rattle.std.proofs.Common.{ap, ◌∙◌}
use Rattle.std.specs.Prelude.{is_some}
use Rattle.bound_program.specs.Values.{bound_of}
use Rattle.run_model.specs.Programs.{item_at}
use Rattle.chain_needs.proofs.Following.{free_is_some}
use Rattle.chain_needs.proofs.counting.is_free.Goals as goal

pub returns : goal.returns
returns c = c.is_some.ensures ∙ (ap is_some c.free_site.ensures ∙ free_is_some (item_at (bound_of c.args.bound.now) c.args.item))
