use Rattle.std.proofs.Common.{◌≡◌, drop}
use Rattle.bound_program.specs.Classes.{is_read, all_on}
use Rattle.rank_layout.proofs.modified.all_read.Given as goal

abbrev pub invariant-loop-arg : goal.invariant-loop-arg
invariant-loop-arg l = all_on l.dat (λ v a. is_read a) (drop l.arg-index l.args) ≡ all_on l.dat (λ v a. is_read a) l.args
