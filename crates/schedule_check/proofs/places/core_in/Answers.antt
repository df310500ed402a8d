use Rattle.std.proofs.Common.{◌∙◌}
use Rattle.schedule_check.proofs.PlaceReads.{core_at, core_past}
use Rattle.schedule_check.proofs.places.core_in.Goals as goal

pub returns-then-set-sets : goal.returns-then-set-sets
returns-then-set-sets c = core_past c.args.sets.now c.args.set c.if-set-sets.true

pub returns : goal.returns
returns c = c.deref.ensures.value ∙ core_at c.args.sets.now c.args.set c.index-sets-set.result c.if-set-sets.false
