use Rattle.std.proofs.Common.{◌≡◌, ◌<◌, ℕ, [], length, get_or}
use Rattle.renumber.specs.CuthillMcKee.{IsSetOrder}
use Rattle.renumber.proofs.cuthill_mckee.Given as goal

abbrev pub invariant-loop-set : goal.invariant-loop-set
invariant-loop-set l = (length l.sets.items ≡ l.set) × ((s : ℕ) → s < l.set → IsSetOrder l.mesh l.map l.order.items s (get_or l.sets.items s []))
