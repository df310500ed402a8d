use Rattle.std.proofs.Common.{◌≡◌, ◌<◌, ◌≤◌, ℕ, None, get_or}
use Rattle.kernel_runs.specs.Tables.{place_at, scalar_place}
use Rattle.kernel_runs.proofs.row_batches.batch_tables.scalars.put_scalars.Given as goal

abbrev pub invariant-loop-a : goal.invariant-loop-a
invariant-loop-a l = record {
  done : (i : ℕ) → i < l.a → place_at l.places i ≡ scalar_place l.columns l.cells (get_or l.locals i None) (place_at l.stand i) (place_at l.fn.places i);
  left : (i : ℕ) → l.a ≤ i → place_at l.places i ≡ place_at l.fn.places i;
}
