use Rattle.std.proofs.Common.{[], ◌∙◌}
use Rattle.mesh_decl.specs.Mesh.{dat_values}
use Rattle.mesh_decl.specs.declared.decl.DatDecl.{DatDecl}
use Rattle.mesh_decl.proofs.FieldReads.{dat_field}
use Rattle.mesh_decl.proofs.mesh.Mesh.dat_values.Goals as goal

pub returns : goal.returns
unfolding dat_values
returns c = c.as_slice.ensures ∙ dat_field [] _ c.args.self.now c.self.view_is c.args.dat (λ (d : DatDecl). d.values) c.index.result.now c.requires c.index.ensures
