use Rattle.std.proofs.Common.{◌≡◌, length}
use Rattle.kernel_runs.specs.Put.{AllNumbersPut, put_back}
use Rattle.kernel_runs.proofs.row_batches.putting.put_columns.Given as goal

abbrev pub invariant-loop-c : goal.invariant-loop-c
invariant-loop-c l = record {
  count : length l.memory ≡ length l.initial.memory;
  memory : l.memory ≡ put_back l.numbers l.rows l.columns l.frame l.c l.initial.memory;
  numbers : AllNumbersPut l.numbers l.rows l.columns l.frame l.c l.initial.memory;
}
