use Rattle.std.proofs.Common.{ℕ, ◌<◌, subst}
use Rattle.mesh_decl.specs.Mesh.{dat_count, IsDatAt}
use Rattle.mesh_decl.proofs.Declared.{dat_at}
use Rattle.mesh_decl.proofs.mesh.Mesh.dat_count.Goals as goal

pub returns-clause-dats : goal.returns-clause-dats
returns-clause-dats c = subst (λ g. (d : ℕ) → d < dat_count g → IsDatAt g d) c.self.view_is (dat_at _ c.self.invariant)
