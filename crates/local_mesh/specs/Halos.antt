-- What the halos of a mesh hold.
use Rattle.std.specs.Prelude.{◌≡◌, ℕ, false, ◌<◌, ◌&&◌, length, slice_index_or}
use Rattle.mesh_decl.specs.declared.owners.Owners.{Owners}
use Rattle.lemmas.specs.Below.{listed, row, rows}
use Rattle.mesh_decl.specs.Mesh.{MeshValue, set_count, set_size}
use Rattle.local_mesh.specs.declared.halo_lists.types.SetHalo.{SetHalo}
use Rattle.local_mesh.specs.declared.halo_lists.types.Halos.{Halos}
use Rattle.local_mesh.specs.Halo.{imports_execute, imports_nonexecute, imports, is_core, owns}

-- by rank the import execute and import non-execute lists, by owner and rank the exports, and the core elements
pub record IsSetHalo (g : MeshValue) (o : Owners) (s : ℕ) (h : SetHalo) : Type 0 where
  pub exec_count : length h.exec.items ≡ o.ranks
  pub exec : (r : ℕ) → r < o.ranks → row h.exec.items r ≡ listed (set_size g s) (λ x. imports_execute g o s x r)
  pub nonexec_count : length h.nonexec.items ≡ o.ranks
  pub nonexec : (r : ℕ) → r < o.ranks → row h.nonexec.items r ≡ listed (set_size g s) (λ x. imports_nonexecute g o s x r)
  pub export_count : length h.exports.items ≡ o.ranks
  pub export_counts : (a : ℕ) → a < o.ranks → length (rows h.exports.items a) ≡ o.ranks
  pub exports : (a r : ℕ) → a < o.ranks → r < o.ranks
      → row (rows h.exports.items a) r ≡ listed (set_size g s) (λ x. imports g o s x r && owns o s x a)
  pub core_count : length h.core.items ≡ set_size g s
  pub core : (x : ℕ) → x < set_size g s → slice_index_or h.core.items x false ≡ is_core g o s x

-- the halos of each set
pub record AreHalos (g : MeshValue) (o : Owners) (h : Halos) : Type 0 where
  pub ranks : h.ranks ≡ o.ranks
  pub count : length h.sets.items ≡ set_count g
  pub sets : (s : ℕ) (d : SetHalo) → s < set_count g → IsSetHalo g o s (slice_index_or h.sets.items s d)

-- the halo of a set, of its elements below n alone
pub record IsHaloBelow (g : MeshValue) (o : Owners) (s n : ℕ) (h : SetHalo) : Type 0 where
  pub exec_count : length h.exec.items ≡ o.ranks
  pub exec : (r : ℕ) → r < o.ranks → row h.exec.items r ≡ listed n (λ x. imports_execute g o s x r)
  pub nonexec_count : length h.nonexec.items ≡ o.ranks
  pub nonexec : (r : ℕ) → r < o.ranks → row h.nonexec.items r ≡ listed n (λ x. imports_nonexecute g o s x r)
  pub export_count : length h.exports.items ≡ o.ranks
  pub export_counts : (a : ℕ) → a < o.ranks → length (rows h.exports.items a) ≡ o.ranks
  pub exports : (a r : ℕ) → a < o.ranks → r < o.ranks
      → row (rows h.exports.items a) r ≡ listed n (λ x. imports g o s x r && owns o s x a)
  pub core_count : length h.core.items ≡ n
  pub core : (x : ℕ) → x < n → slice_index_or h.core.items x false ≡ is_core g o s x
