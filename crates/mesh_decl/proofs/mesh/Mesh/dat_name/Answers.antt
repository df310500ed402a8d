use Rattle.std.proofs.Common.{[]}
use Rattle.mesh_decl.specs.Mesh.{dat_name}
use Rattle.mesh_decl.specs.declared.decl.DatDecl.{DatDecl}
use Rattle.mesh_decl.proofs.FieldReads.{dat_field}
use Rattle.mesh_decl.proofs.mesh.Mesh.dat_name.Goals as goal

pub returns : goal.returns
unfolding dat_name
returns c = dat_field [] _ c.args.self.now c.self.view_is c.args.dat (λ (d : DatDecl). d.name) c.index.result.now c.requires c.index.ensures
