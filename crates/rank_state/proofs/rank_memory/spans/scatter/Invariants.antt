use Rattle.std.proofs.Common.{◌≡◌, ◌+◌, ◌≤◌, drop, length}
use Rattle.rank_state.specs.Spans.{Within, total, scattered}
use Rattle.rank_state.proofs.rank_memory.spans.scatter.Given as goal

abbrev pub invariant-loop-span : goal.invariant-loop-span
invariant-loop-span l = record {
  inside : Within (length l.memory) (drop l.span-index l.spans);
  room : l.from + total (drop l.span-index l.spans) ≤ length l.frame;
  left : scattered l.from l.frame (drop l.span-index l.spans) l.memory ≡ scattered 0 l.frame l.spans l.fn.memory;
}
