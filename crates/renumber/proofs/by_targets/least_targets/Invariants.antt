use Rattle.std.proofs.Common.{◌≡◌, ◌<◌, ℕ, length, get_or}
use Rattle.mesh_decl.specs.Mesh.{map_dim, target}
use Rattle.renumber.specs.CuthillMcKee.{least_below}
use Rattle.renumber.proofs.by_targets.least_targets.Given as goal

abbrev pub invariant-loop-element : goal.invariant-loop-element
invariant-loop-element l = (length l.least.items ≡ l.element)
    × ((x : ℕ) → x < l.element → get_or l.least.items x 0 ≡ least_below (map_dim l.mesh l.map)
    (λ i. get_or l.numbers (target l.mesh l.map x i) 0))
