use Rattle.std.proofs.Common.{◌≡◌, ◌≤◌, ◌+◌, length, take, vec_capacity}
use Rattle.bound_program.specs.Values.{bound_of}
use Rattle.rank_layout.specs.OwnedWindows.{owned_after, owned_by}
use Rattle.rank_layout.proofs.owned_windows.push_windows.Given as goal

abbrev pub invariant-loop-arg : goal.invariant-loop-arg
invariant-loop-arg l =
    (l.spans.items ≡ owned_after (owned_by (bound_of l.dats.bound.now) l.dats.owners.now l.dats.meshes.now l.dats.lists.now l.element) (take l.arg-index l.args) l.fn.spans.items)
    × (length l.spans.items ≤ length l.fn.spans.items + l.arg-index)
    × (vec_capacity l.spans ≡ vec_capacity l.fn.spans)
