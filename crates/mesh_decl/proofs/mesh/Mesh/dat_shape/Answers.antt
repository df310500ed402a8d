use Rattle.std.proofs.Common.{refl}
use Rattle.mesh_decl.specs.Mesh.{dat_set, dat_dim}
use Rattle.mesh_decl.specs.declared.decl.DatDecl.{DatDecl}
use Rattle.mesh_decl.proofs.FieldReads.{dat_field}
use Rattle.mesh_decl.proofs.mesh.Mesh.dat_shape.Goals as goal

pub returns : goal.returns
unfolding dat_set dat_dim
returns c =
    let x = c.index-decl.result.now in
    rw (
      dat_field 0 _ c.args.self.now c.self.view_is c.args.dat (λ (d : DatDecl). d.set) x c.requires c.index-decl.ensures,
      dat_field 0 _ c.args.self.now c.self.view_is c.args.dat (λ (d : DatDecl). d.dim) x c.requires c.index-decl.ensures,
    ) refl
