use Rattle.std.proofs.Common.{◌≡◌, ◌<◌, ℕ, length, slice_index}
use Rattle.bound_program.specs.Values.{bound_of}
use Rattle.bound_program.specs.Fits.{site_at}
use Rattle.loop_plan.specs.Values.{plan_of}
use Rattle.cell_numbers.specs.Numbers.{IsBlockColour}
use Rattle.cell_numbers.proofs.blocks.block_colours.Given as goal

abbrev pub invariant-loop-element : goal.invariant-loop-element
invariant-loop-element l = record {
  count : length l.colours.items ≡ l.element;
  colours : (x : ℕ) → x < l.element
      → IsBlockColour l.found.owners l.found.ranks.items (plan_of l.plan) l.site (site_at (bound_of l.bound) l.site).set x
      (slice_index l.colours.items x);
}
