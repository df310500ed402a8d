use Rattle.std.proofs.Common.{◌≡◌, ◌*◌, drop}
use Rattle.par_exec.specs.Parts.{TakesEach}
use Rattle.kernel_runs.specs.Rounds.{RanBatch}
use Rattle.kernel_runs.proofs.worker_batches.Puts.{IsPut}
use Rattle.kernel_runs.proofs.worker_batches.rounds.put_all.Given as goal

abbrev pub invariant-loop-part : goal.invariant-loop-part
invariant-loop-part g l = record {
  put : IsPut l.rows l.places l.done l.fn.memory l.memory l.fn.partials l.partials;
  done_is : l.done ≡ l.part-index * 64;
  left : TakesEach (RanBatch l.rows l.fn.memory l.places) l.part-index (drop l.part-index l.parts);
}
