-- What a program declares has C names (ISO C 6.4.2.1).
use Rattle.std.specs.Prelude.{◌≡◌, List, ℕ, Ok, All}
use Rattle.c_tree.specs.Spelling.{IsName}
use Rattle.c_tree.specs.Tree.{ProgramTree}
use Rattle.c_tree.specs.Reads.{Reads}
use Rattle.kernel_model.specs.declared.types.kernels.Resolved.{Resolved}
use Rattle.mesh_decl.specs.Spelling.{Named}
use Rattle.mesh_decl.specs.declared.decl.SetDecl.{SetDecl}
use Rattle.mesh_decl.specs.declared.decl.MapDecl.{MapDecl}
use Rattle.mesh_decl.specs.declared.decl.DatDecl.{DatDecl}
use Rattle.mesh_decl.specs.Mesh.{MeshValue}
use Rattle.bound_program.specs.Values.{BoundValue}
use Rattle.loop_bind.specs.Bound.{bound}

-- sets, maps and dats have C names
pub record HasNames (g : MeshValue) : Type 0 where
  pub sets : All (λ (d : SetDecl). IsName d.name) g.sets
  pub maps : All (λ (d : MapDecl). IsName d.name) g.maps
  pub dats : All (λ (d : DatDecl). IsName d.name) g.dats

-- those of a bound program do, where its source was read
abbrev pub BoundNamesAreNames : Type 0
BoundNamesAreNames =
    (source : List ℕ) (p : ProgramTree) (r : Resolved) (es : List Named) (b : BoundValue)
    → Reads source p → bound p r es ≡ Ok b → HasNames b.mesh
