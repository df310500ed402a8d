use Rattle.std.proofs.Common.{◌≡◌, ◌+◌, length, take, vec_capacity}
use Rattle.rank_program.proofs.alone.lengthen.Given as goal

abbrev pub invariant-loop-cell : goal.invariant-loop-cell
invariant-loop-cell l = record {
  front : take (length l.fn.memory.items) l.memory.items ≡ l.fn.memory.items;
  count : length l.memory.items ≡ length l.fn.memory.items + l._cell;
  room : vec_capacity l.memory ≡ vec_capacity l.fn.memory;
}
