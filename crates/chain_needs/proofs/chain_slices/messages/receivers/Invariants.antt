use Rattle.std.proofs.Common.{◌≡◌, ◌<◌, ◌&&◌, ℕ, length}
use Rattle.std.specs.Prelude.{not}
use Rattle.lemmas.specs.Below.{any_below}
use Rattle.local_mesh.specs.RankSet.{has_at}
use Rattle.mesh_decl.specs.Mesh.{dat_set, set_size}
use Rattle.bound_program.specs.Values.{bound_of}
use Rattle.chain_model.specs.Slices.{owns_pair}
use Rattle.chain_needs.specs.PairSets.{pairs_of}
use Rattle.chain_needs.proofs.chain_slices.messages.receivers.Given as goal

abbrev pub invariant-loop-dat : goal.invariant-loop-dat
invariant-loop-dat l = (length l.to.items ≡ l.owners.ranks)
    × ((s r : ℕ) → r < 64 → has_at l.to.items s r ≡ any_below l.dat (λ d. any_below (set_size (bound_of l.bound).mesh (dat_set (bound_of l.bound).mesh d))
    (λ y. (pairs_of l.needed r d y && not (owns_pair (bound_of l.bound) l.owners r d y)) && owns_pair (bound_of l.bound) l.owners s d y)))
