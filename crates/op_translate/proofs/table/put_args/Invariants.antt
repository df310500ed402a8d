use Rattle.std.proofs.Common.{◌≡◌, ◌++◌, drop}
use Rattle.std.specs.List.{flat_map}
use Rattle.op_translate.specs.Stubs.{arg_text}
use Rattle.op_translate.proofs.table.put_args.Given as goal

abbrev pub invariant-loop-arg : goal.invariant-loop-arg
invariant-loop-arg l = l.out.items ++ flat_map arg_text (drop l.arg-index l.args) ≡ l.fn.out.items ++ flat_map arg_text l.args
