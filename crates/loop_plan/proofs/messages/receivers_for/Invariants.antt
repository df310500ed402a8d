use Rattle.std.proofs.Common.{◌≡◌, ℕ, take}
use Rattle.local_mesh.specs.RankSet.{has}
use Rattle.loop_plan.specs.Exports.{passes_by_exports}
use Rattle.loop_plan.proofs.messages.receivers_for.Given as goal

abbrev pub invariant-loop-dat : goal.invariant-loop-dat
invariant-loop-dat l = (r : ℕ) → has l.ranks r ≡ passes_by_exports l.mesh l.halos (take l.dat-index l.exchange) l.owner r
