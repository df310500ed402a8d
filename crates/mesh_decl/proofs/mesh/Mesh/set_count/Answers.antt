use Rattle.std.proofs.Common.{ℕ, ◌<◌, ◌^◌, subst}
use Rattle.mesh_decl.specs.Mesh.{set_size}
use Rattle.mesh_decl.proofs.Declared.{sizes_fit}
use Rattle.mesh_decl.proofs.mesh.Mesh.set_count.Goals as goal

pub returns-clause-sizes : goal.returns-clause-sizes
returns-clause-sizes c = subst (λ g. (s : ℕ) → set_size g s < 2 ^ 32) c.self.view_is (sizes_fit _ c.self.invariant)
