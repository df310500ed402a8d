use Rattle.std.proofs.Common.{◌≡◌, ◌<◌, ◌+◌, ℕ, nat_eq, length, get_or}
use Rattle.lemmas.specs.Below.{count_below}
use Rattle.mesh_decl.specs.Mesh.{target}
use Rattle.renumber.proofs.breadth_order.by_target.count_targets.Given as goal

abbrev pub invariant-loop-place : goal.invariant-loop-place
invariant-loop-place l = (x : ℕ) → x < length l.initial.counts → get_or l.counts x 0 ≡ get_or l.initial.counts x 0 + count_below l.place (λ i. nat_eq (target l.mesh l.map l.element i) x)
