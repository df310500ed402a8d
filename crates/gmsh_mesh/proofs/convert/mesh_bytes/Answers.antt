use Rattle.gmsh_mesh.proofs.Spelled.{can-be-spelled, if-spelled}
use Rattle.gmsh_mesh.specs.Entries.{entries}
use Rattle.gmsh_mesh.proofs.convert.mesh_bytes.Goals as goal

pub returns-clause-spells : goal.returns-clause-spells
returns-clause-spells c =
    if-spelled (λ v. v.items) c.write_mesh.result _ (entries c.args.mesh) c.in_ok-put_arrays.ensures (can-be-spelled c.args.mesh c.requires.within) c.write_mesh.ensures.spells
