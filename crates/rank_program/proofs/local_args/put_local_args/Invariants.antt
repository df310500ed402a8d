use Rattle.std.proofs.Common.{◌≡◌, ◌<◌, ℕ, Option, length, get_or}
use Rattle.bound_program.specs.declared.sites.Arg.{Arg}
use Rattle.kernel_runs.specs.declared.row_batches.batch_tables.args.LocalArg.{LocalArg}
use Rattle.rank_program.specs.LocalArgs.{IsArg}
use Rattle.rank_program.proofs.local_args.put_local_args.Given as goal

abbrev pub invariant-loop-i : goal.invariant-loop-i
invariant-loop-i l = record {
  length : length l.locals ≡ length l.args;
  each : (i : ℕ) (a : Arg) (o : Option LocalArg) → i < l.i → IsArg l.mesh l.part (get_or l.args i a) (get_or l.locals i o);
}
