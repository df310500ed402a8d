use Rattle.std.proofs.Common.{◌≡◌, ◌<◌, ℕ, get_or}
use Rattle.std.specs.List.{Contains}
use Rattle.local_mesh.proofs.originals.number_locals.Given as goal

abbrev pub invariant-loop-local : goal.invariant-loop-local
invariant-loop-local l = ((k : ℕ) → k < l.local → get_or l.numbers (get_or l.original k 0) 0 ≡ k) × ((y : ℕ) → ¬ Contains l.original y → get_or l.numbers y 0 ≡ get_or l.initial.numbers y 0)
