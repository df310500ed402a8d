use Rattle.gmsh_mesh.proofs.Converting.{text-read}
use Rattle.gmsh_mesh.proofs.convert.read_arrays.Goals as goal

pub returns-clause-arrays : goal.returns-clause-arrays
returns-clause-arrays c =
    text-read c.args.bytes.now c.args.dim c.args.scale c.in_ok-text.text c.in_ok-text.ensures c.choose_dimension-dim.result c.choose_dimension-dim.ensures
    c.build_mesh.result (λ m. m) c.build_mesh.ensures.mesh
