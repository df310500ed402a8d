use Rattle.std.proofs.Common.{◌+◌, ◌*◌, ◌<◌, ap, ◌∙◌, subst}
use Rattle.mesh_decl.specs.Mesh.{dat_dim, dat_count}
use Rattle.local_mesh.proofs.Standing.{cell_of}
use Rattle.local_mesh.proofs.laws.cells_are_of_copies.Goals as goal

pub returns : goal.returns
returns c = λ g sets starts total b x l.
    let w = cell_of g sets (dat_count g) x (subst (λ z. x < z) b.cells l) in
    (w.0, w.1, w.2, w.3, w.4, w.5, ap (λ z. z + w.1 * dat_dim g w.0 + w.2) (b.bases w.0 w.3) ∙ w.6)
