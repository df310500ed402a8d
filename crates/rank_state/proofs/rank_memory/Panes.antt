-- How many cells the spans gather.
use Rattle.std.proofs.Common.{◌≡◌, ℤ, List, [], ◌∷◌, length, refl, arith, length-append}
use Rattle.rank_state.specs.declared.spans.Span.{Span}
use Rattle.rank_state.specs.Spans.{Within, total, gathered, cells_at}
use Rattle.rank_state.proofs.rank_memory.Gathering.{cells_length}

pub gathered_length : (m : List ℤ) (ss : List Span) → Within (length m) ss → length (gathered m ss) ≡ total ss
gathered_length m [] h = refl
gathered_length m (s ∷ ss) h = omega (arith, length-append (cells_at s.at s.dim m) (gathered m ss), cells_length s.at s.dim m h.0, gathered_length m ss h.1)
