use Rattle.std.proofs.Common.{◌≡◌, ◌≤◌, ◌*◌}
use Rattle.bound_program.specs.Values.{bound_of}
use Rattle.chain_model.specs.Counts.{sum_below}
use Rattle.chain_needs.specs.Slices.{AreShapes, ArePlaces}
use Rattle.chain_needs.proofs.chain_slices.Counting.{item_messages}
use Rattle.chain_needs.proofs.chain_slices.making.slices.Given as goal

abbrev pub invariant-loop-item : goal.invariant-loop-item
invariant-loop-item l = record {
  shapes : AreShapes (bound_of l.bound) l.owners l.shapes.items;
  places : ArePlaces (bound_of l.bound) l.shapes.items l.item l.places.items;
  messages : l.messages ≡ sum_below l.item (item_messages (bound_of l.bound) l.owners);
  few : l.messages ≤ l.item * 4096;
}
