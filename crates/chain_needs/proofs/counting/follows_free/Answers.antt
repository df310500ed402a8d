use Rattle.std.proofs.Common.{◌∙◌}
use Rattle.bound_program.specs.Values.{bound_of}
use Rattle.run_model.specs.Programs.{program_of}
use Rattle.chain_needs.proofs.Following.{follows_is, follows_first}
use Rattle.chain_needs.proofs.counting.follows_free.Goals as goal

pub returns-then-item-eq0 : goal.returns-then-item-eq0
returns-then-item-eq0 c = follows_first (program_of (bound_of c.args.bound.now)).kind c.args.item c.if-item-eq0.true

pub returns-else-item-eq0 : goal.returns-else-item-eq0
returns-else-item-eq0 c = c.is_free.ensures ∙ follows_is (program_of (bound_of c.args.bound.now)).kind c.args.item c.if-item-eq0.false
