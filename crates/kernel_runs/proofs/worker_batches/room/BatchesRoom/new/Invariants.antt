use Rattle.std.proofs.Common.{◌≡◌, All, length}
use Rattle.kernel_runs.specs.RowLoops.{HasRowRoom}
use Rattle.kernel_runs.proofs.worker_batches.room.BatchesRoom.new.Given as goal

abbrev pub invariant-loop-batch : goal.invariant-loop-batch
invariant-loop-batch l = record {
  room : All (λ x. HasRowRoom l.ways l.columns l.slots x.room) l.parts.items;
  count : length l.parts.items ≡ l._batch;
}
