use Rattle.std.proofs.Common.{◌<◌, ℕ, length, get_or}
use Rattle.colouring.specs.Table.{IsTable}
use Rattle.colouring.proofs.table.target_table.Given as goal

abbrev pub invariant-loop-place : goal.invariant-loop-place
invariant-loop-place l = record {
  table : IsTable l.mesh l.rank.maps.items l.args l.starts l.place l.table.items;
  within : (k : ℕ) → k < length l.table.items → get_or l.table.items k 0 < l.total;
}
