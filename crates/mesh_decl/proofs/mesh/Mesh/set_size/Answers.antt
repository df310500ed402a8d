use Rattle.mesh_decl.specs.Mesh.{size_in}
use Rattle.mesh_decl.specs.declared.decl.SetDecl.{SetDecl}
use Rattle.mesh_decl.proofs.FieldReads.{set_field}
use Rattle.mesh_decl.proofs.mesh.Mesh.set_size.Goals as goal

pub returns : goal.returns
unfolding size_in
returns c = set_field 0 _ c.args.self.now c.self.view_is c.args.set (λ (d : SetDecl). d.size) c.index.result.now c.requires c.index.ensures
