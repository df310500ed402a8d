use Rattle.std.proofs.Common.{◌≡◌, ◌<◌, ◌≤◌, ℕ, [], length, map, get_or}
use Rattle.step_orders.specs.Rests.{rests}
use Rattle.step_orders.proofs.drawn.ranks.first_heads.Given as goal

abbrev pub invariant-loop-rank : goal.invariant-loop-rank
invariant-loop-rank g l = record {
  heads : length l.heads.items ≡ length l.initial.streams;
  streams : length l.streams ≡ length l.initial.streams;
  taken : (r : ℕ) → r < l.rank → rests l.heads.items (map g.T.Steps.left l.streams) r ≡ get_or (map g.T.Steps.left l.initial.streams) r [];
  left : (r : ℕ) → l.rank ≤ r → get_or (map g.T.Steps.left l.streams) r [] ≡ get_or (map g.T.Steps.left l.initial.streams) r [];
}
