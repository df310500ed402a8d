use Rattle.std.proofs.Common.{◌≡◌, drop}
use Rattle.std.specs.Prelude.{is_none}
use Rattle.bound_program.specs.Classes.{all_on}
use Rattle.bound_program.proofs.classes.all_direct.Given as goal

abbrev pub invariant-loop-arg : goal.invariant-loop-arg
invariant-loop-arg l = all_on l.dat (λ v a. is_none v) (drop l.arg-index l.args) ≡ all_on l.dat (λ v a. is_none v) l.args
