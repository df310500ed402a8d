use Rattle.std.proofs.Common.{◌≡◌, ◌<◌, ◌||◌, ℕ, nat_eq, length, get_or}
use Rattle.lemmas.specs.Below.{row, listed}
use Rattle.local_mesh.specs.RankSet.{has_at}
use Rattle.local_mesh.proofs.groups.push_copies.Given as goal

abbrev pub invariant-loop-element : goal.invariant-loop-element
invariant-loop-element l = (r : ℕ) → r < length l.lists → row l.lists r ≡ listed l.element (λ x. nat_eq (get_or l.owners x 0) r || (has_at l.exec_sets x r || has_at l.nonexec_sets x r))
