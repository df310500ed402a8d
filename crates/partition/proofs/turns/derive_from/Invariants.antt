use Rattle.std.proofs.Common.{◌≡◌, ◌<◌, ℕ, false, nat_eq, length, get_or}
use Rattle.partition.proofs.turns.derive_from.Given as goal

abbrev pub invariant-loop-other : goal.invariant-loop-other
invariant-loop-other l = (length l.sets.items ≡ l.other) × (length l.known.items ≡ l.other) × ((s : ℕ) → s < l.other → get_or l.known.items s false ≡ nat_eq s l.set)
