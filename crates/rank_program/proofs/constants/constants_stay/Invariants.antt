use Rattle.std.proofs.Common.{◌≡◌, ◌<◌, ℕ, true, false, length, get_or}
use Rattle.rank_layout.specs.Made.{row_of}
use Rattle.rank_program.specs.Constants.{Apart}
use Rattle.rank_program.proofs.constants.constants_stay.Given as goal

abbrev pub invariant-loop-indices : goal.invariant-loop-indices
invariant-loop-indices l =
    (length l.stay.items ≡ l.indices-index)
    × ((s : ℕ) → get_or l.stay.items s false ≡ true → Apart (row_of l.loops s) l.constants)
