use Rattle.std.proofs.Common.{refl}
use Rattle.mesh_decl.proofs.Declared.{read_from, read_to, read_dim}
use Rattle.mesh_decl.proofs.mesh.Mesh.map_ends.Goals as goal

pub returns : goal.returns
returns c =
    let x = c.index-decl.result.now in
    rw (
      read_from _ c.args.self.now c.self.view_is c.self.invariant c.args.map x c.requires c.index-decl.ensures,
      read_to _ c.args.self.now c.self.view_is c.self.invariant c.args.map x c.requires c.index-decl.ensures,
      read_dim _ c.args.self.now c.self.view_is c.self.invariant c.args.map x c.requires c.index-decl.ensures,
    ) refl
