use Rattle.std.proofs.Common.{◌≡◌, ◌<◌, ℕ, false}
use Rattle.kernel_runs.specs.Alike.{arg_in, same_way}
use Rattle.kernel_runs.proofs.row_batches.batch_tables.alike.first_way.Given as goal

abbrev pub invariant-loop-b : goal.invariant-loop-b
invariant-loop-b l = (i : ℕ) → i < l.b → same_way (arg_in l.args i) (arg_in l.args l.a) ≡ false
