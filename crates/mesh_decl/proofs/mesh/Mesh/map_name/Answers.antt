use Rattle.std.proofs.Common.{[]}
use Rattle.mesh_decl.specs.Mesh.{map_name}
use Rattle.mesh_decl.specs.declared.decl.MapDecl.{MapDecl}
use Rattle.mesh_decl.proofs.FieldReads.{map_field}
use Rattle.mesh_decl.proofs.mesh.Mesh.map_name.Goals as goal

pub returns : goal.returns
unfolding map_name
returns c = map_field [] _ c.args.self.now c.self.view_is c.args.map (λ (d : MapDecl). d.name) c.index.result.now c.requires c.index.ensures
