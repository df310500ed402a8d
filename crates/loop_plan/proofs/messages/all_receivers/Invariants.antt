use Rattle.std.proofs.Common.{◌≡◌, ◌<◌, ℕ, length}
use Rattle.local_mesh.specs.Sets.{sets_in, has_in}
use Rattle.loop_plan.specs.Exports.{exports_in, is_some_exported}
use Rattle.loop_plan.proofs.messages.all_receivers.Given as goal

abbrev pub invariant-loop-set : goal.invariant-loop-set
invariant-loop-set l =
    (length l.receivers.items ≡ l.set)
    × ((t : ℕ) → t < l.set → length (sets_in l.receivers.items t) ≡ l.halos.ranks)
    × ((t s r : ℕ) → t < l.set → s < l.halos.ranks → has_in l.receivers.items t s r ≡ is_some_exported (exports_in l.halos t) s r)
