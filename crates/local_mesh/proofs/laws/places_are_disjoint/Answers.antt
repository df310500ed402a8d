use Rattle.std.proofs.Common.{◌+◌, ◌*◌, sym, ap, ◌∙◌}
use Rattle.mesh_decl.specs.Mesh.{dat_dim}
use Rattle.local_mesh.proofs.Standing.{disjoint}
use Rattle.local_mesh.proofs.laws.places_are_disjoint.Goals as goal

pub returns : goal.returns
returns c = λ g sets starts total b d l i e k j ld ll li le lk lj q.
    disjoint g sets d l i e k j ll li lk lj (ap (λ z. z + l * dat_dim g d + i) (sym (b.bases d ld)) ∙ (q ∙ ap (λ z. z + k * dat_dim g e + j) (b.bases e le)))
