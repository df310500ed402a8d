-- What is so of a source that was read and whose names and types refuse nothing, and of the entries of a mesh text.
use Rattle.std.specs.Prelude.{◌≡◌, ℕ, List, [], All, Ok}
use Rattle.std.specs.List.{list_any}
use Rattle.std.specs.Str.{bytes_eq}
use Rattle.c_tree.specs.Reads.{Reads}
use Rattle.c_tree.specs.Tree.{ProgramTree}
use Rattle.kernel_model.specs.declared.types.kernels.RKernel.{RKernel}
use Rattle.kernel_model.specs.declared.types.kernels.Resolved.{Resolved}
use Rattle.kernel_model.specs.Resolved.{IsResolvedProgram}
use Rattle.kernel_model.specs.View.{resolved_of}
use Rattle.mesh_decl.specs.Spelling.{Named, Spells}
use Rattle.name_resolution.specs.Programs.{breaches, named_in, Resolves}
use Rattle.bound_program.specs.Fits.{UsesConstants}
use Rattle.loop_bind.specs.Sources.{TopIsRead, HostsAreRead, HaveNumbers, TopsTake}
use Rattle.loop_bind.specs.Assigned.{MainAssigns}
use Rattle.loop_bind.specs.Hidden.{AllNameNoOwn}
use Rattle.loop_bind.specs.FileVariables.{file_variables, NamesApart, all_constant_names, AreConstants, AreFound, AreOfOne}

-- Kernels are those of the source, and each names cells of single constants. The constants are the variables of the file that are
-- `const` or named by an `op_decl_const`, in order. Numbers are of 32 bits, arrays have cells, and variables alone are assigned.
pub record IsResolvedSource (p : ProgramTree) (r : Resolved) : Type 0 where
  pub resolved : IsResolvedProgram r
  pub takes : TopsTake r.kernels.items 0 p.tops
  pub uses : All (λ (k : RKernel). UsesConstants (AreOfOne r.consts.items) k.body.statement) r.kernels.items
  pub constants : AreConstants (named_in p) (file_variables p.tops) r.consts.items
  pub found : AreFound r.consts.items
  pub apart : NamesApart (file_variables p.tops)
  pub tops : All TopIsRead p.tops
  pub body : HostsAreRead p.main.body
  pub assigns : MainAssigns p

-- a source that was read, with what it resolves to, is a resolved source
abbrev pub ResolvedSourcesAre : Type 0
ResolvedSourcesAre =
    (source : List ℕ) (p : ProgramTree) (r : Resolved)
    → Reads source p → Resolves p (Ok (resolved_of r)) → IsResolvedSource p r

-- where names and types refuse nothing, `main` assigns variables alone, and no two variables of the file have one name
abbrev pub ResolvedNamesHold : Type 0
ResolvedNamesHold = (p : ProgramTree) → breaches p ≡ [] → MainAssigns p × NamesApart (file_variables p.tops)

-- the values of entries are of 32 bits
abbrev pub SpelledEntriesFit : Type 0
SpelledEntriesFit = (bytes : List ℕ) (es : List Named) → Spells bytes es → HaveNumbers es

-- where no `op_decl_const` names a variable of `main`, those that the file has of them are all that they name
abbrev pub NamedNamesAreAll : Type 0
NamedNamesAreAll =
    (p : ProgramTree) → AllNameNoOwn [] p.main.body → (x : List ℕ)
    → list_any (bytes_eq x) (named_in p) ≡ list_any (bytes_eq x) (all_constant_names p.main.body)
