use Rattle.std.proofs.Common.{◌≡◌, map, take, replicate}
use Rattle.rank_state.proofs.rank_memory.Vecs.{lists}
use Rattle.rank_state.proofs.rank_memory.table.nothing_open.Given as goal

abbrev pub invariant-loop-n : goal.invariant-loop-n
invariant-loop-n l = lists l.table.items ≡ map (λ n. replicate n 0) (take l.n-index l.shape)
