use Rattle.std.proofs.Common.{◌≡◌, ◌<◌, ℕ, length, get_or}
use Rattle.local_mesh.proofs.originals.locals_of.Given as goal

abbrev pub invariant-loop-place : goal.invariant-loop-place
invariant-loop-place l = (length l.locals.items ≡ l.place-index) × ((k : ℕ) → k < l.place-index → get_or l.locals.items k 0 ≡ get_or l.numbers (get_or l.places k 0) 0)
