use Rattle.std.proofs.Common.{◌≡◌, ◌+◌, ◌≤◌, drop}
use Rattle.op_num.specs.Cut.{words}
use Rattle.op_num.proofs.texts.cutter.skip_blanks.Given as goal

abbrev pub invariant-loop-i : goal.invariant-loop-i
invariant-loop-i l = record {
  same : words l.fn.line l.bytes ≡ words l.at (drop l.i l.bytes);
  low : l.at ≤ l.fn.line + l.i;
}
