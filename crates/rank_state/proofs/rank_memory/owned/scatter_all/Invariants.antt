use Rattle.std.proofs.Common.{◌≡◌, ◌+◌, ◌≤◌, drop, length}
use Rattle.rank_state.specs.Ordered.{Within_all, total_all, scattered_all}
use Rattle.rank_state.specs.Spare.{KeepsSpare}
use Rattle.rank_state.proofs.rank_memory.Views.{lists}
use Rattle.rank_state.proofs.rank_memory.owned.scatter_all.Given as goal

abbrev pub invariant-loop-span : goal.invariant-loop-span
invariant-loop-span l = record {
  inside : Within_all (lists l.memories) (drop l.span-index l.spans);
  room : l.from + total_all (drop l.span-index l.spans) ≤ length l.frame;
  left : scattered_all l.from l.frame (drop l.span-index l.spans) (lists l.memories) ≡ scattered_all 0 l.frame l.spans (lists l.fn.memories);
  spare : KeepsSpare l.fn.memories l.memories;
}
