use Rattle.std.proofs.Common.{◌≡◌, ◌<◌, ◌*◌, ℕ, length}
use Rattle.colouring.specs.Rows.{MeetWithin}
use Rattle.colouring.specs.Masks.{IsClear}
use Rattle.colouring.specs.Colours.{IsLeast}
use Rattle.colouring.proofs.within.colour_blocks.Given as goal

abbrev pub invariant-loop-block : goal.invariant-loop-block
invariant-loop-block l = record {
  least : (p : ℕ) → p < l.block * l.size → p < l.places → IsLeast (MeetWithin l.table l.width l.size) l.inner p;
  clear : IsClear l.masks;
  room : length l.masks.first.items ≡ length l.fn.masks.first.items;
}
