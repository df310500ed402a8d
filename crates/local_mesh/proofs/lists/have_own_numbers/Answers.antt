use Rattle.std.proofs.Common.{◌≡◌, length, arith}
use Rattle.mesh_decl.specs.Mesh.{set_size}
use Rattle.local_mesh.proofs.AtOwners.{own_numbers}
use Rattle.local_mesh.proofs.lists.have_own_numbers.Goals as goal

pub originals_of-originals-requires-clause-rank : goal.originals_of-originals-requires-clause-rank
originals_of-originals-requires-clause-rank c = omega (arith, c.requires.held.count)

pub originals_of-originals-requires-clause-set : goal.originals_of-originals-requires-clause-set
originals_of-originals-requires-clause-set c = (c.requires.held.ranks 0 (omega arith)).here

pub returns : goal.returns
returns c t =
    let size : length c.originals_of-originals.result.now ≡ set_size c.args.mesh.now c.args.set = omega arith in
    own_numbers c.args.mesh.now c.args.owners.now c.args.meshes.now c.args.set c.originals_of-originals.result.now c.requires.owners c.requires.set (omega arith)
    c.originals_of-originals.ensures size (c.is_kept.ensures.0 t)
