use Rattle.std.proofs.Common.{◌≡◌, drop, length}
use Rattle.rank_state.specs.Windows.{amounts, Merges}
use Rattle.rank_state.proofs.rank_memory.scalars.merge_amounts.Given as goal

abbrev pub invariant-loop-i : goal.invariant-loop-i
invariant-loop-i l = record {
  inside : Merges (length l.partials) (drop l.i l.scalars);
  left : amounts (drop l.i l.scalars) (drop l.i l.windows) l.partials ≡ amounts l.scalars l.windows l.fn.partials;
}
