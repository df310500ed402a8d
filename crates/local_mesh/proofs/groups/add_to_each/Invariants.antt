use Rattle.std.proofs.Common.{◌≡◌, ◌&&◌, ◌||◌, nat_eq, ℕ, get_or}
use Rattle.lemmas.specs.Below.{any_below}
use Rattle.local_mesh.specs.RankSet.{has, has_at}
use Rattle.local_mesh.proofs.groups.add_to_each.Given as goal

abbrev pub invariant-loop-element : goal.invariant-loop-element
invariant-loop-element l = (x r : ℕ) → has_at l.sets x r ≡ (has_at l.initial.sets x r || (has l.ranks r && any_below l.element-index (λ k. nat_eq (get_or l.elements k 0) x)))
