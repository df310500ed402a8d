use Rattle.std.proofs.Common.{◌≡◌, ◌<◌, ℕ, length}
use Rattle.local_mesh.specs.RankSet.{has_at}
use Rattle.loop_plan.specs.Exports.{is_some_exported}
use Rattle.loop_plan.proofs.messages.receivers_by_owner.Given as goal

abbrev pub invariant-loop-owner : goal.invariant-loop-owner
invariant-loop-owner l =
    (length l.receivers.items ≡ l.owner)
    × ((s r : ℕ) → s < l.owner → has_at l.receivers.items s r ≡ is_some_exported l.exports s r)
