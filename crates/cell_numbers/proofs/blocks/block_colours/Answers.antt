use Rattle.std.proofs.Common.{ℕ, rules}
use Rattle.bound_program.specs.Values.{bound_of}
use Rattle.bound_program.specs.Fits.{site_at}
use Rattle.loop_plan.specs.Values.{plan_of}
use Rattle.cell_numbers.specs.Numbers.{IsBlockColour}
use Rattle.cell_numbers.proofs.Pushed.{pushed}
use Rattle.cell_numbers.proofs.blocks.block_colours.Goals as goal

pub loop-element-preserved : goal.loop-element-preserved
loop-element-preserved c = record {
  count = search rules;
  colours = pushed (λ (x k : ℕ). IsBlockColour c.args.found.now.owners c.args.found.now.ranks.items (plan_of c.args.plan.now) c.args.site
      (site_at (bound_of c.args.bound.now) c.args.site).set x k) c.loop-element.colours.items c.push.new.self.items c.colour_of.result
      c.loop-element.element c.in_ok-push.ensures.items c.loop-element.invariant.count c.loop-element.invariant.colours c.colour_of.ensures;
}
