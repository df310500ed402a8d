use Rattle.std.proofs.Common.{◌≡◌, ◌+◌, ◌≤◌, ◌++◌, take, drop, length}
use Rattle.rank_state.specs.Ordered.{Within_all, total_all, gathered_all}
use Rattle.rank_state.proofs.rank_memory.Views.{lists}
use Rattle.rank_state.proofs.rank_memory.owned.gather_all.Given as goal

abbrev pub invariant-loop-span : goal.invariant-loop-span
invariant-loop-span l = record {
  inside : Within_all (lists l.memories) (drop l.span-index l.spans);
  count : l.from + total_all (drop l.span-index l.spans) ≡ total_all l.spans;
  room : l.from + total_all (drop l.span-index l.spans) ≤ length l.frame;
  done : take l.from l.frame ++ gathered_all (lists l.memories) (drop l.span-index l.spans) ≡ gathered_all (lists l.memories) l.spans;
}
