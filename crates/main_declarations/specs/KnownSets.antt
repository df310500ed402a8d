-- The sets that names stand for are those of the mesh.
use Rattle.std.specs.Prelude.{ℕ, ◌<◌, List, All, Some, IfSome}
use Rattle.mesh_decl.specs.Mesh.{set_count}
use Rattle.main_declarations.specs.declared.names.scopes.Meaning.{Meaning}
use Rattle.main_declarations.specs.Meanings.{set_of}
use Rattle.main_declarations.specs.SoFar.{Declared}

-- the meaning is none of a set, or of one of the first n
abbrev pub IsKnown : ℕ → Meaning → Type 0
IsKnown n m = IfSome (set_of (Some m)) (λ s. s < n)

-- each name of the file and of `main` that stands for a set stands for one of the mesh
abbrev pub SetsKnown : Declared → Type 0
SetsKnown k =
    All (λ (e : List ℕ × Meaning). IsKnown (set_count k.mesh) e.1) k.names.file
    × All (λ (e : List ℕ × Meaning). IsKnown (set_count k.mesh) e.1) k.names.own
