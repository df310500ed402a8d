use Rattle.std.proofs.Common.{◌≡◌, ◌<◌, ℕ, length, []}
use Rattle.lemmas.specs.Below.{row, rows}
use Rattle.local_mesh.proofs.halo_lists.exports.empty_exports.Given as goal

abbrev pub invariant-loop-owner : goal.invariant-loop-owner
invariant-loop-owner l = (length l.exports.items ≡ l._owner) × ((a : ℕ) → a < l._owner → length (rows l.exports.items a) ≡ l.count)
    × ((a r : ℕ) → a < l._owner → r < l.count → row (rows l.exports.items a) r ≡ [])
