use Rattle.std.proofs.Common.{◌≡◌, ◌<◌, ◌&&◌, ltb, false, ℕ, length, get_or}
use Rattle.local_mesh.proofs.numbers.own_flags.Given as goal

abbrev pub invariant-loop-local : goal.invariant-loop-local
invariant-loop-local l = (length l.found.items ≡ l.local) × ((k : ℕ) → k < l.local → get_or l.found.items k false ≡ (ltb k l.own && get_or l.flags (get_or l.numbers k 0) false))
