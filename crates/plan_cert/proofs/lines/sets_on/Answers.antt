use Rattle.std.proofs.Common.{◌∙◌}
use Rattle.loop_plan.proofs.Public.{sets_at}
use Rattle.plan_cert.proofs.lines.sets_on.Goals as goal

pub returns : goal.returns
returns c = c.deref.ensures.value ∙ sets_at c.args.ranks.now c.args.rank c.index-ranks-rank.result c.requires
