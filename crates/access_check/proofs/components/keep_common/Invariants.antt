use Rattle.std.proofs.Common.{◌≡◌, ℕ, ◌<◌, ◌≤◌, length, get_or}
use Rattle.access_check.proofs.Bits.{Common}
use Rattle.access_check.proofs.components.keep_common.Given as goal

abbrev pub invariant-loop-a : goal.invariant-loop-a
invariant-loop-a l = record {
  sized : length l.components.words ≡ 16;
  done : (b : ℕ) → b < l.a → Common l.components.words l.fn.components.words l.others.words b;
  rest : (b : ℕ) → l.a ≤ b → get_or l.components.words b 0 ≡ get_or l.fn.components.words b 0;
}
