use Rattle.std.proofs.Common.{◌≡◌, ◌++◌, drop, map}
use Rattle.op_translate.specs.Answered.{loop_of_found}
use Rattle.op_translate.specs.Stubs.{stubs_text}
use Rattle.op_translate.proofs.table.put_stubs.Given as goal

abbrev pub invariant-loop-i : goal.invariant-loop-i
invariant-loop-i l = l.out.items ++ stubs_text l.i (map loop_of_found (drop l.i l.found)) ≡ l.fn.out.items ++ stubs_text 0 (map loop_of_found l.found)
