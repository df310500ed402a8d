use Rattle.bound_program.specs.Values.{bound_of}
use Rattle.loop_plan.specs.Alike.{AreMade}
use Rattle.loop_plan.proofs.sites.site_plans.Given as goal

abbrev pub invariant-loop-site : goal.invariant-loop-site
invariant-loop-site l = AreMade (bound_of l.bound) l.block l.ranks l.site l.making.plans l.making.keys.items
