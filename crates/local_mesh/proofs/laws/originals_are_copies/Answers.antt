use Rattle.mesh_decl.specs.Mesh.{set_size}
use Rattle.mesh_decl.specs.Owners.{perm_in}
use Rattle.local_mesh.specs.Halo.{owns, imports_execute, imports_nonexecute}
use Rattle.local_mesh.proofs.Numbered.{number_is_copy, number_contains}
use Rattle.local_mesh.proofs.laws.originals_are_copies.Goals as goal

pub returns : goal.returns
returns c = λ g o p s r l perms is x. (
  number_is_copy (set_size g s) (perm_in p s) (λ x. owns o s x r) (λ x. imports_execute g o s x r) (λ x. imports_nonexecute g o s x r) l.original perms is.inverse x,
  λ h. number_contains (set_size g s) (perm_in p s) (λ x. owns o s x r) (λ x. imports_execute g o s x r) (λ x. imports_nonexecute g o s x r) l.original perms is.inverse x h.0 h.1,
)
