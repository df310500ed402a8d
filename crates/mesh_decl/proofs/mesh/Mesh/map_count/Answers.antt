use Rattle.std.proofs.Common.{ℕ, ◌<◌, subst}
use Rattle.mesh_decl.specs.Mesh.{map_count, IsMapAt}
use Rattle.mesh_decl.proofs.Declared.{map_at}
use Rattle.mesh_decl.proofs.mesh.Mesh.map_count.Goals as goal

pub returns-clause-maps : goal.returns-clause-maps
returns-clause-maps c = subst (λ g. (m : ℕ) → m < map_count g → IsMapAt g m) c.self.view_is (map_at _ c.self.invariant)
