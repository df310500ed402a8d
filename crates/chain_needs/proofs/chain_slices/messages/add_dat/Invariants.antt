use Rattle.std.proofs.Common.{◌≡◌, ◌||◌, ◌&&◌, ℕ}
use Rattle.lemmas.specs.Below.{any_below}
use Rattle.local_mesh.specs.RankSet.{has_at}
use Rattle.bound_program.specs.Values.{bound_of}
use Rattle.chain_model.specs.Slices.{owns_pair}
use Rattle.chain_needs.proofs.chain_slices.messages.add_dat.Given as goal

abbrev pub invariant-loop-element : goal.invariant-loop-element
invariant-loop-element l = (s r : ℕ) → has_at l.to s r
    ≡ (has_at l.initial.to s r || any_below l.element (λ y. has_at l.others y r && owns_pair (bound_of l.bound) l.owners s l.dat y))
