use Rattle.std.proofs.Common.{◌≡◌, ◌++◌, ◌∷◌, [], length}
use Rattle.renumber.proofs.rows.Sums.{AreSums}
use Rattle.renumber.proofs.rows.filling.Filling.new.Given as goal

abbrev pub invariant-loop-length : goal.invariant-loop-length
invariant-loop-length l = record {
  count : length l.starts.items ≡ l.length-index;
  sums : AreSums (l.starts.items ++ l.end ∷ []) l.lengths l.length-index;
}
