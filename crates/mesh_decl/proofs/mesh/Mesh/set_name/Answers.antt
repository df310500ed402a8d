use Rattle.std.proofs.Common.{[]}
use Rattle.mesh_decl.specs.Mesh.{set_name}
use Rattle.mesh_decl.specs.declared.decl.SetDecl.{SetDecl}
use Rattle.mesh_decl.proofs.FieldReads.{set_field}
use Rattle.mesh_decl.proofs.mesh.Mesh.set_name.Goals as goal

pub returns : goal.returns
unfolding set_name
returns c = set_field [] _ c.args.self.now c.self.view_is c.args.set (λ (d : SetDecl). d.name) c.index.result.now c.requires c.index.ensures
