use Rattle.std.proofs.Common.{◌≡◌, ◌<◌, ℕ, [], length, map, get_or, replicate, Vec}
use Rattle.std.specs.declared.alloc.Global.{Global}
use Rattle.step_orders.proofs.drawn.ranks.nothing_sent.Given as goal

abbrev pub invariant-loop-row : goal.invariant-loop-row
invariant-loop-row l = record {
  count : length l.rows.items ≡ l._row;
  zeros : (s : ℕ) → s < l._row → get_or (map (λ (v : Vec ℕ Global). v.items) l.rows.items) s [] ≡ replicate l.ranks 0;
}
