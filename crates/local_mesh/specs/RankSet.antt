-- Which ranks a set has.
use Rattle.std.specs.Prelude.{ℕ, Bool, nat_eq, List, slice_index_or}
use Rattle.std.specs.Int.{bit_at}
use Rattle.local_mesh.specs.declared.rank_sets.rank_set.RankSet.{RankSet}

-- the set has this rank
unfoldable pub has : RankSet → ℕ → Bool
has s k = nat_eq (bit_at s.bits k) 1

-- the set without ranks
abbrev pub no_ranks : RankSet
no_ranks = record { bits = 0 }

-- of a list of sets, the one at x has rank r
unfoldable pub has_at : List RankSet → ℕ → ℕ → Bool
has_at sets x r = has (slice_index_or sets x no_ranks) r
