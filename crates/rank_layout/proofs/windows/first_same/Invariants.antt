use Rattle.std.proofs.Common.{◌≡◌, ◌<◌, ℕ, false}
use Rattle.rank_layout.specs.Numbered.{is_one_at}
use Rattle.rank_layout.proofs.windows.first_same.Given as goal

abbrev pub invariant-loop-j : goal.invariant-loop-j
invariant-loop-j l = (k : ℕ) → k < l.j → is_one_at l.args l.numbers k l.i ≡ false
