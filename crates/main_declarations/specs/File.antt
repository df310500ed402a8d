-- The externs, variables and kernels of the file, in the order of the text.
use Rattle.std.specs.Prelude.{suc, List, [], ◌∷◌, length, Option, Some, Ok, Err, bytes_eq}
use Rattle.std.specs.Map.{lookup}
use Rattle.c_tree.specs.declared.lexer.tokens.Pos.{Pos}
use Rattle.c_tree.specs.declared.expressions.Ident.{Ident}
use Rattle.c_tree.specs.Tree as tree
use Rattle.c_tree.specs.Tree.{TopTree}
use Rattle.kernel_model.specs.declared.types.kernels.ConstDecl.{ConstDecl}
use Rattle.mesh_decl.specs.declared.text.entry.Entry.{Entry}
use Rattle.mesh_decl.specs.declared.text.entry.Entry.TheVariants.{One, Many}
use Rattle.mesh_decl.specs.Spelling.{Named}
use Rattle.bound_program.specs.declared.refusals.refusals.BindRefusal.TheVariants as refusal
use Rattle.main_declarations.specs.declared.names.scopes.Meaning.TheVariants.{Extern, ExternArray, Kernel}
use Rattle.bound_program.specs.Refusals.{place, Judged, ◌>>=◌}
use Rattle.main_declarations.specs.SoFar.{Declared, with_file_name}
use Rattle.main_declarations.specs.Variables.{judged_file_declrs}

module _ (places : List Pos) (consts : List ConstDecl) (entries : List Named) where
  -- `extern int x;` has an entry of one value
  abbrev pub judged_extern : Declared → Ident → Option Entry → Judged Declared
  judged_extern k x (Some (One z)) = Ok (with_file_name x.name (Extern z) k)
  judged_extern k x _ = Err (refusal.UnknownEntry (place places x.at))

  -- `extern int x[];` has an entry of many
  abbrev pub judged_array : Declared → Ident → Option Entry → Judged Declared
  judged_array k x (Some (Many zs)) = Ok (with_file_name x.name ExternArray k)
  judged_array k x _ = Err (refusal.UnknownEntry (place places x.at))

  -- a part of the file
  abbrev pub judged_top : Declared → TopTree → Judged Declared
  judged_top k (tree.Extern x) = judged_extern k x (lookup (bytes_eq x.name) entries)
  judged_top k (tree.ExternArray x) = judged_array k x (lookup (bytes_eq x.name) entries)
  judged_top k (tree.FileDeclaration v) = judged_file_declrs places consts k v.is_const v.declrs
  judged_top k (tree.Kernel f) = Ok (record (with_file_name f.name.name (Kernel k.kernels (length f.params)) k) { kernels = suc k.kernels })

  -- the parts of the file in order, up to one that is refused
  abbrev pub judged_tops : Declared → List TopTree → Judged Declared
  judged_tops k [] = Ok k
  judged_tops k (t ∷ ts) = judged_top k t >>= λ l. judged_tops l ts
