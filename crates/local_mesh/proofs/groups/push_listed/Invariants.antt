use Rattle.std.proofs.Common.{◌≡◌, ◌<◌, ℕ, length, get_or}
use Rattle.lemmas.specs.Below.{row}
use Rattle.local_mesh.specs.RankSet.{has_at}
use Rattle.local_mesh.specs.Local.{ordered}
use Rattle.local_mesh.proofs.groups.push_listed.Given as goal

abbrev pub invariant-loop-element : goal.invariant-loop-element
invariant-loop-element l = (r : ℕ) → r < length l.lists → row l.lists r ≡ ordered l.element-index (λ j. get_or l.order j 0) (λ x. has_at l.sets x r)
