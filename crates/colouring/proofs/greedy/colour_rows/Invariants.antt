use Rattle.std.proofs.Common.{◌≡◌, ◌<◌, ℕ, get_or, length}
use Rattle.colouring.specs.Rows.{Least}
use Rattle.colouring.specs.Masks.{IsSound, Tell}
use Rattle.colouring.proofs.greedy.colour_rows.Given as goal

abbrev pub invariant-loop-row : goal.invariant-loop-row
invariant-loop-row l = record {
  least : (p : ℕ) → p < l.row → Least l.targets l.width l.colours p;
  told : Tell l.targets l.width l.colours l.row l.masks;
  sound : IsSound l.masks;
  room : length l.masks.first.items ≡ length l.fn.masks.first.items;
  touched : (t : ℕ) → ((k : ℕ) → k < length l.targets → get_or l.targets k 0 ≡ t → ⊥) → get_or l.masks.first.items t 0 ≡ 0;
}
