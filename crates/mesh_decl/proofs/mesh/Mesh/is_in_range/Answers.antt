use Rattle.std.proofs.Common.{subst}
use Rattle.mesh_decl.specs.Mesh.{IsInRange}
use Rattle.mesh_decl.proofs.Declared.{in_range}
use Rattle.mesh_decl.proofs.mesh.Mesh.is_in_range.Goals as goal

pub returns : goal.returns
returns c = subst IsInRange c.self.view_is (in_range _ c.self.invariant)
