-- Bound programs of resolved sources fit.
use Rattle.std.specs.Prelude.{◌≡◌, ◌≤◌, List, Ok, All}
use Rattle.c_tree.specs.Tree.{ProgramTree}
use Rattle.kernel_model.specs.declared.types.kernels.Resolved.{Resolved}
use Rattle.mesh_decl.specs.Spelling.{Named}
use Rattle.mesh_decl.specs.declared.decl.MapDecl.{MapDecl}
use Rattle.bound_program.specs.Limits.{max_dim}
use Rattle.bound_program.specs.Fits.{Fits}
use Rattle.bound_program.specs.Values.{BoundValue}
use Rattle.loop_bind.specs.ResolvedSources.{IsResolvedSource}
use Rattle.loop_bind.specs.Sources.{HaveNumbers}
use Rattle.loop_bind.specs.Bound.{bound}
use Rattle.loop_bind.specs.Constants.{LeavesConstants}

-- every bound program of a resolved source and entries with values of 32 bits fits
abbrev pub BoundProgramsFit : Type 0
BoundProgramsFit =
    (p : ProgramTree) (r : Resolved) (es : List Named) (b : BoundValue)
    → IsResolvedSource p r → HaveNumbers es → bound p r es ≡ Ok b → Fits b

-- each map of such a program has a dim of at most 64
abbrev pub BoundMapsAreNarrow : Type 0
BoundMapsAreNarrow =
    (p : ProgramTree) (r : Resolved) (es : List Named) (b : BoundValue)
    → IsResolvedSource p r → HaveNumbers es → bound p r es ≡ Ok b → All (λ (d : MapDecl). d.dim ≤ max_dim) b.mesh.maps

-- nothing in such a program sets a variable that is `const`
abbrev pub BoundProgramsLeaveConstants : Type 0
BoundProgramsLeaveConstants =
    (p : ProgramTree) (r : Resolved) (es : List Named) (b : BoundValue)
    → IsResolvedSource p r → bound p r es ≡ Ok b → LeavesConstants b
