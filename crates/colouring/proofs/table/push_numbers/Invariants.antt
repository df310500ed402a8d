use Rattle.std.proofs.Common.{◌≡◌, ◌+◌, ◌<◌, ℕ, length, get_or}
use Rattle.colouring.specs.declared.types.IncArg.{IncArg}
use Rattle.colouring.specs.Colours.{target_of}
use Rattle.colouring.proofs.table.push_numbers.Given as goal

abbrev pub invariant-loop-a : goal.invariant-loop-a
invariant-loop-a l = record {
  count : length l.table.items ≡ length l.fn.table.items + l.a;
  before : (k : ℕ) → k < length l.fn.table.items → get_or l.table.items k 0 ≡ get_or l.fn.table.items k 0;
  at : (a : ℕ) (x : IncArg) → a < l.a → get_or l.table.items (length l.fn.table.items + a) 0 ≡ get_or l.starts a 0 + target_of l.mesh l.rank.maps.items l.place (get_or l.args a x);
  within : (a : ℕ) → a < l.a → get_or l.table.items (length l.fn.table.items + a) 0 < l.total;
}
