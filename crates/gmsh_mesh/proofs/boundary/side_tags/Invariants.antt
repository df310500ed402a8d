use Rattle.std.proofs.Common.{◌≡◌, ◌<◌, ℕ, pos, None, length, get_or}
use Rattle.gmsh_mesh.specs.Classes.{tag_or}
use Rattle.gmsh_mesh.proofs.boundary.side_tags.Given as goal

abbrev pub invariant-loop-side : goal.invariant-loop-side
invariant-loop-side l =
    (length l.all.items ≡ l.side)
    × ((i : ℕ) → i < l.side → get_or l.all.items i (pos 0) ≡ tag_or (get_or l.tags (get_or l.classes i 0) None))
