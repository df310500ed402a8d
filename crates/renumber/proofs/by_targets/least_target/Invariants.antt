use Rattle.std.proofs.Common.{◌≡◌, get_or}
use Rattle.mesh_decl.specs.Mesh.{target}
use Rattle.renumber.specs.CuthillMcKee.{least_below}
use Rattle.renumber.proofs.by_targets.least_target.Given as goal

abbrev pub invariant-loop-place : goal.invariant-loop-place
invariant-loop-place l = l.least ≡ least_below l.place (λ i. get_or l.numbers (target l.mesh l.map l.element i) 0)
