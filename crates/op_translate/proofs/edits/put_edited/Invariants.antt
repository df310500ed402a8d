use Rattle.std.proofs.Common.{◌≡◌, ◌++◌, drop, length}
use Rattle.op_translate.specs.Answered.{begun}
use Rattle.op_translate.specs.Edits.{edited, edits, LieWithin}
use Rattle.op_translate.proofs.edits.put_edited.Given as goal

abbrev pub invariant-loop-i : goal.invariant-loop-i
invariant-loop-i l = record {
  within : LieWithin l.from (length l.bytes) (edits (begun l.form) (drop l.i l.tokens));
  text : l.out.items ++ edited l.from (drop l.from l.bytes) (edits (begun l.form) (drop l.i l.tokens)) ≡ l.fn.out.items ++ edited 0 l.bytes (edits (begun l.form) l.tokens);
}
