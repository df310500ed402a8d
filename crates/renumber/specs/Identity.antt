-- Renumberings.
use Rattle.std.specs.Prelude.{◌≡◌, ℕ, ◌<◌, slice_index}
use Rattle.mesh_decl.specs.declared.owners.Perms.{Perms}
use Rattle.mesh_decl.specs.Mesh.{MeshValue, set_count, set_size}
use Rattle.mesh_decl.specs.Owners.{ArePerms, perm_in}

-- each element of each set keeps its number
pub record IsIdentity (g : MeshValue) (p : Perms) : Type 0 where
  pub perms : ArePerms g p
  pub kept : (s x : ℕ) → s < set_count g → x < set_size g s → slice_index (perm_in p s) x ≡ x
