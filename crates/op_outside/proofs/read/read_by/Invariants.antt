use Rattle.std.proofs.Common.{◌≡◌, ◌≤◌, ◌-◌, ◌↔◌, List, ℕ, vec_len}
use Rattle.op_outside.proofs.Pieces.{IsFront}
use Rattle.op_outside.proofs.read.read_by.Given as goal

abbrev pub invariant-loop-count : goal.invariant-loop-count
invariant-loop-count g l = record {
  told : g.F.Shelf.told l.shelf ≡ g.F.Shelf.told l.fn.shelf;
  lends : (n : List ℕ) → g.F.Shelf.lends l.fn.shelf n ↔ g.F.Shelf.lends l.shelf n;
  calm : g.F.Shelf.faults l.shelf ≡ g.F.Shelf.faults l.fn.shelf;
  fits : vec_len l.bytes ≤ l.limit;
  front : IsFront (g.F.Shelf.told l.fn.shelf) l.name l.bytes.items;
}

abbrev pub decreases-loop-count : goal.decreases-loop-count
decreases-loop-count g l = l.limit - vec_len l.bytes
