use Rattle.mesh_decl.proofs.OtherValues.{mesh_is, mesh_holds}
use Rattle.mesh_decl.proofs.mesh.Mesh.set_values.Goals as goal

pub invariant_of-self : goal.invariant_of-self
invariant_of-self c = mesh_holds _ c.args.self.now c.self.view_is c.args.dat c.index_mut.result.now c.args.values c.requires.dat c.index_mut.ensures.value c.requires.size c.self.invariant

pub returns : goal.returns
returns c = mesh_is _ c.args.self.now c.self.view_is c.args.dat c.index_mut.result.now c.args.values c.requires.dat c.index_mut.ensures.value
