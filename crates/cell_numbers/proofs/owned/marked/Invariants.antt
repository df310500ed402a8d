use Rattle.std.proofs.Common.{◌≡◌, ℕ, length, take, slice_index}
use Rattle.cell_numbers.specs.Marks.{marked}
use Rattle.cell_numbers.proofs.owned.marked.Given as goal

abbrev pub invariant-loop-element : goal.invariant-loop-element
invariant-loop-element l = record {
  length : length l.numbers.items ≡ length l.fn.numbers.items;
  marked : (x : ℕ) → slice_index l.numbers.items x
      ≡ marked (take l.element-index l.elements) l.number (slice_index l.fn.numbers.items x) x;
}
