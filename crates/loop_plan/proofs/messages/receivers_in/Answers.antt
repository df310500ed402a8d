use Rattle.std.proofs.Common.{◌∙◌}
use Rattle.local_mesh.proofs.Public.{sets_read}
use Rattle.loop_plan.proofs.messages.receivers_in.Goals as goal

pub returns : goal.returns
returns c = c.deref.ensures.value ∙ sets_read c.args.receivers.now c.args.set c.index-receivers-set.result c.requires c.index-receivers-set.is
