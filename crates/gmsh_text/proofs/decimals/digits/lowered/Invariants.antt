use Rattle.std.proofs.Common.{◌≡◌, ◌+◌, ◌-◌, ◌*◌, ◌/◌, ◌^◌, ◌≤◌, length, drop}
use Rattle.gmsh_text.specs.Decimal.{number_from}
use Rattle.gmsh_text.proofs.decimals.digits.lowered.Given as goal

abbrev pub invariant-loop-i : goal.invariant-loop-i
invariant-loop-i l = record {
  value : l.low ≡ (l.scale * number_from 0 (drop l.i l.digits) + l.carry) / 10 ^ (length l.digits - l.i);
  few : l.low ≤ l.scale;
}
