use Rattle.std.proofs.Common.{◌≡◌, ◌<◌, ◌^◌, drop}
use Rattle.op_num.specs.Spelling.{number_after}
use Rattle.mesh_decl.proofs.text.piece.short_number.Given as goal

abbrev pub invariant-loop-byte : goal.invariant-loop-byte
invariant-loop-byte l = record {
  read : number_after 0 l.text ≡ number_after l.value (drop l.byte-index l.text);
  small : l.value < 2 ^ 31;
}
