use Rattle.std.proofs.Common.{◌≡◌, true, get_or}
use Rattle.mesh_decl.specs.Mesh.{target}
use Rattle.partition.specs.Elected.{gathered}
use Rattle.partition.proofs.derived.list_targets.Given as goal

abbrev pub invariant-loop-place : goal.invariant-loop-place
invariant-loop-place l = l.list.items ≡ gathered l.place (λ i. true) (λ i. get_or l.owners (target l.mesh l.map l.element i) 0)
