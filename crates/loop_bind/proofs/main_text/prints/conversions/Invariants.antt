use Rattle.std.proofs.Common.{◌≡◌, ◌≤◌, drop}
use Rattle.mesh_decl.specs.Printed.{conversions}
use Rattle.loop_bind.proofs.main_text.Lines.{rest, added}
use Rattle.loop_bind.proofs.main_text.prints.conversions.Given as goal

abbrev pub invariant-loop-byte : goal.invariant-loop-byte
invariant-loop-byte l = record {
  count : added l.count (rest l.is_open (drop l.byte-index l.text)) ≡ conversions l.text;
  few : l.count ≤ l.byte-index;
}
