use Rattle.std.proofs.Common.{◌≡◌, ◌<◌, ℕ, nat_eq, length, get_or}
use Rattle.lemmas.specs.Below.{row}
use Rattle.local_mesh.specs.Local.{ordered}
use Rattle.local_mesh.proofs.groups.push_owned.Given as goal

abbrev pub invariant-loop-element : goal.invariant-loop-element
invariant-loop-element l = (r : ℕ) → r < length l.lists → row l.lists r ≡ ordered l.element-index (λ j. get_or l.order j 0) (λ x. nat_eq (get_or l.owners x 0) r)
