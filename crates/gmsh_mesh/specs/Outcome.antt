-- What the bytes of a Gmsh file come to: the text of their mesh and a program for it, or a refusal.
use Rattle.std.specs.Prelude.{◌≡◌, ℕ, List, length, Option, nat_lt, Result, Ok, Err, if◌then◌else◌}
use Rattle.mesh_decl.specs.declared.text.entry.TheConstants.{MESH_VALUES, MESH_BYTES}
use Rattle.mesh_decl.specs.declared.text.entry.Form.TheVariants.{Two}
use Rattle.mesh_decl.specs.Spelling.{total}
use Rattle.mesh_decl.specs.Canonical.{canonical}
use Rattle.gmsh_text.specs.declared.refusal.TextRefusal.{TextRefusal}
use Rattle.gmsh_text.specs.declared.refusal.TextRefusal.TheVariants as text
use Rattle.gmsh_text.specs.declared.read.GmshText.{GmshText}
use Rattle.gmsh_text.specs.Reading.{outcome}
use Rattle.gmsh_mesh.specs.declared.choice.Dimension.{Dimension}
use Rattle.gmsh_mesh.specs.declared.refusal.GmshRefusal.{GmshRefusal}
use Rattle.gmsh_mesh.specs.declared.refusal.GmshRefusal.TheVariants.{Text, Limit, Bytes, OutOfMemory}
use Rattle.gmsh_mesh.specs.Stages.{Judgement, given}
use Rattle.gmsh_mesh.specs.Choice.{dimension}
use Rattle.gmsh_mesh.specs.Mesh.{Arrays, MeshIs}
use Rattle.gmsh_mesh.specs.Entries.{entries}
use Rattle.gmsh_mesh.specs.Source.{source_text}

-- a refusal of the text; want of memory is none
abbrev pub of_text : TextRefusal → GmshRefusal
of_text text.OutOfMemory = OutOfMemory
of_text t = Text t

-- what the text has, or its refusal
abbrev pub told : Result GmshText TextRefusal → Result GmshText GmshRefusal
told (Ok t) = Ok t
told (Err e) = Err (of_text e)

-- the mesh that the bytes of a file spell, of the dimension that is asked for or that of the elements
abbrev pub ArraysAre : List ℕ → Option Dimension → (scale : ℕ) → Judgement Arrays
ArraysAre bytes dim scale = given (λ r. r ≡ told (outcome bytes)) (λ t. MeshIs t (dimension dim t.elements) scale)

-- a mesh text, and a program for it
pub record Conversion : Type 0 where
  pub mesh : List ℕ
  pub source : List ℕ

-- the canonical text of a mesh in version 2, where it is within the limits of a mesh text, and the program for its cells
abbrev pub written : Arrays → Result Conversion GmshRefusal
written m =
    if nat_lt MESH_VALUES (total (entries m)) then Err (Limit (total (entries m)))
    else if nat_lt MESH_BYTES (length (canonical Two (entries m))) then Err (Bytes (length (canonical Two (entries m))))
    else Ok (record { mesh = canonical Two (entries m); source = source_text m.shape })

-- What the bytes of a file come to: the texts, or the refusal.
abbrev pub Comes : List ℕ → Option Dimension → (scale : ℕ) → Judgement Conversion
Comes bytes dim scale = given (ArraysAre bytes dim scale) (λ m r. r ≡ written m)
