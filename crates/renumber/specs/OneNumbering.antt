-- That a renumbering is one.
use Rattle.std.specs.Prelude.{◌≡◌, ℕ, ◌^◌, ◌<◌}
use Rattle.mesh_decl.specs.declared.owners.Perms.{Perms}
use Rattle.mesh_decl.specs.Mesh.{MeshValue, IsMapAt, set_size}
use Rattle.renumber.specs.Identity.{IsIdentity}
use Rattle.renumber.specs.CuthillMcKee.{IsCuthillMcKee}

-- one that keeps all numbers
abbrev pub IsOneIdentity : Type 0
IsOneIdentity = (g : MeshValue) (a b : Perms) → IsIdentity g a → IsIdentity g b → a.sets.items ≡ b.sets.items

-- one of Cuthill and McKee by a map of a mesh
abbrev pub IsOneCuthillMcKee : Type 0
IsOneCuthillMcKee =
    (g : MeshValue) (m : ℕ) (a b : Perms)
    → ((s : ℕ) → set_size g s < 2 ^ 32)
    → IsMapAt g m
    → IsCuthillMcKee g m a
    → IsCuthillMcKee g m b
    → a.sets.items ≡ b.sets.items
