use Rattle.std.proofs.Common.{◌≡◌, drop}
use Rattle.bound_program.specs.Classes.{is_access, all_on}
use Rattle.bound_program.proofs.classes.all_have.Given as goal

abbrev pub invariant-loop-arg : goal.invariant-loop-arg
invariant-loop-arg l = all_on l.dat (λ v a. is_access l.wanted a) (drop l.arg-index l.args) ≡ all_on l.dat (λ v a. is_access l.wanted a) l.args
