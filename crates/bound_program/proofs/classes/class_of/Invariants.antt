use Rattle.std.proofs.Common.{◌≡◌, drop}
use Rattle.std.specs.List.{list_all}
use Rattle.bound_program.specs.Classes.{is_orderly_arg}
use Rattle.bound_program.proofs.classes.class_of.Given as goal

abbrev pub invariant-loop-arg : goal.invariant-loop-arg
invariant-loop-arg l = list_all (is_orderly_arg l.args) (drop l.arg-index l.args) ≡ list_all (is_orderly_arg l.args) l.args
