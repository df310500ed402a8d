use Rattle.std.proofs.Common.{◌≡◌, ◌-◌, ◌<◌, ◌≤◌, ◌^◌, ℕ, true, false}
use Rattle.gmsh_text.specs.Decimal.{decimal_of}
use Rattle.gmsh_text.specs.Nearest.{fits_at}
use Rattle.gmsh_text.proofs.decimals.largest.largest_scale.Given as goal

abbrev pub invariant-loop-low : goal.invariant-loop-low
invariant-loop-low l = record {
  order : l.low ≤ l.high;
  fits : (k : ℕ) → 0 < k → k ≤ l.low → fits_at (decimal_of l.text) k ≡ true;
  beyond : (k : ℕ) → l.high < k → k < 2 ^ 32 → fits_at (decimal_of l.text) k ≡ false;
}

abbrev pub decreases-loop-low : goal.decreases-loop-low
decreases-loop-low l = l.high - l.low
