use Rattle.std.proofs.Common.{◌≡◌, ◌+◌, ◌≤◌, drop, length}
use Rattle.rank_state.specs.Spans.{Within, total, filled}
use Rattle.rank_state.proofs.rank_memory.spans.gather.Given as goal

abbrev pub invariant-loop-span : goal.invariant-loop-span
invariant-loop-span l = record {
  inside : Within (length l.memory) (drop l.span-index l.spans);
  count : l.from + total (drop l.span-index l.spans) ≡ total l.spans;
  room : l.from + total (drop l.span-index l.spans) ≤ length l.frame;
  left : filled l.from l.memory (drop l.span-index l.spans) l.frame ≡ filled 0 l.memory l.spans l.fn.frame;
}
