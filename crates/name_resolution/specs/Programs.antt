-- All rules that a source breaks, its resolved kernels, and what resolving it answers.
use Rattle.std.specs.Prelude.{◌≡◌, ℕ, ◌+◌, Bool, true, false, ◌&&◌, ◌||◌, List, [], ◌∷◌, ◌++◌, Result, Ok, Err, if◌then◌else◌}
use Rattle.std.specs.List.{list_any}
use Rattle.std.specs.Str.{bytes_eq}
use Rattle.c_tree.specs.declared.lexer.tokens.Pos.{Pos}
use Rattle.c_tree.specs.Places.{pos_of}
use Rattle.c_tree.specs.Tree as tree
use Rattle.c_tree.specs.Tree.{DeclrTree, TopTree, ProgramTree}
use Rattle.kernel_model.specs.declared.types.kernels.ConstDecl.{ConstDecl}
use Rattle.kernel_model.specs.declared.types.kernels.Resolved.{Resolved}
use Rattle.name_resolution.specs.declared.breaches.TypeRule.{TypeRule}
use Rattle.name_resolution.specs.declared.breaches.TypeRule.TheVariants as rule
use Rattle.name_resolution.specs.declared.breaches.Breach.{Breach}
use Rattle.name_resolution.specs.declared.refusals.TypeRefusal.{TypeRefusal}
use Rattle.name_resolution.specs.declared.refusals.TypeRefusal.TheVariants as refusal
use Rattle.name_resolution.specs.declared.decls.Sort.{Sort}
use Rattle.name_resolution.specs.declared.decls.Sort.TheVariants as sort
use Rattle.name_resolution.specs.declared.decls.Decl.{Decl}
use Rattle.name_resolution.specs.First.{IsFirst}
use Rattle.name_resolution.specs.Scopes.{Names, scope, declared, repeated}
use Rattle.name_resolution.specs.Work.{size_of}
use Rattle.name_resolution.specs.Kernels.{kernel_breaches, kernel}
use Rattle.name_resolution.specs.Mains.{declr_name, declr_sort, is_wrong_size, declr_breaches, named_after_all, hosts_breaches}
use Rattle.kernel_model.specs.View.{RKernelTree, ResolvedTree, resolved_of}

-- ---- the constants of the file, whose cells stand one behind the other

-- the cells of the constants among these names
abbrev pub constant_cells : Names → ℕ
constant_cells [] = 0
constant_cells (n ∷ ns) = (if n.1.is_constant then n.1.count else 0) + constant_cells ns

-- the constant that a name of the file is, where it is one
abbrev pub constant_of : List ℕ → Decl → List ConstDecl
constant_of x d = if d.is_constant then (record { name = x; from = d.from; count = d.count } ∷ []) else []

-- the constants among these names
abbrev pub constants : Names → List ConstDecl
constants [] = []
constants (n ∷ ns) = constant_of n.0 n.1 ++ constants ns

-- the cells of constants that a declaration adds, where its name is a new one or not
abbrev pub added_cells : Bool → Decl → ℕ
added_cells is_new d = if is_new && d.is_constant then d.count else 0

-- ---- the names of the file

-- an array of a wrong size, which is a breach, has no cells
abbrev pub right_size : ℕ → ℕ
right_size n = if is_wrong_size n then 0 else n

-- how many cells a declarator of the file has
abbrev pub declr_count : DeclrTree → ℕ
declr_count (tree.Array x n) = right_size (size_of n)
declr_count _ = 1

-- what is no variable
abbrev pub other_decl : Sort → ℕ → Decl
other_decl what at = record { at = at; sort = what; is_const = false; of_file = true; is_constant = false; from = 0; count = 0 }

-- a variable is a constant where it is `const` or among those that an `op_decl_const` names
abbrev pub variable_decl : List (List ℕ) → Bool → ℕ → DeclrTree → Decl
variable_decl named c from d = record {
  at = (declr_name d).at;
  sort = declr_sort d;
  is_const = c;
  of_file = true;
  is_constant = c || list_any (bytes_eq (declr_name d).name) named;
  from = from;
  count = declr_count d;
}

module _ (named : List (List ℕ)) where
  -- the names and a variable of the file
  abbrev pub with_variable : Bool → Names → DeclrTree → Names
  with_variable c file d = declared (declr_name d).name (variable_decl named c (constant_cells file) d) file

  -- the names that are known behind declarators of the file
  abbrev pub after_variables : Bool → Names → List DeclrTree → Names
  after_variables c file [] = file
  after_variables c file (d ∷ ds) = after_variables c (with_variable c file d) ds

  -- the names that are known behind a part of the file
  abbrev pub after_top : Names → TopTree → Names
  after_top file (tree.Extern x) = declared x.name (other_decl sort.Extern x.at) file
  after_top file (tree.ExternArray x) = declared x.name (other_decl sort.ExternArray x.at) file
  after_top file (tree.FileDeclaration v) = after_variables v.is_const file v.declrs
  after_top file (tree.Kernel f) = declared f.name.name (other_decl sort.Kernel f.name.at) file

  -- the names that are known behind parts of the file
  abbrev pub after_tops : Names → List TopTree → Names
  after_tops file [] = file
  after_tops file (t ∷ ts) = after_tops (after_top file t) ts

  -- ---- broken rules

  -- of declarators of the file in order
  abbrev pub variables_breaches : Bool → Names → List DeclrTree → List Breach
  variables_breaches c file [] = []
  variables_breaches c file (d ∷ ds) =
      (declr_breaches (scope file []) d ++ repeated (declr_name d) file) ++ variables_breaches c (with_variable c file d) ds

  -- a kernel is known in itself
  abbrev pub top_breaches : Names → TopTree → List Breach
  top_breaches file (tree.Extern x) = repeated x file
  top_breaches file (tree.ExternArray x) = repeated x file
  top_breaches file (tree.FileDeclaration v) = variables_breaches v.is_const file v.declrs
  top_breaches file (tree.Kernel f) = repeated f.name file ++ kernel_breaches (after_top file (tree.Kernel f)) f

  -- of parts of the file in order
  abbrev pub tops_breaches : Names → List TopTree → List Breach
  tops_breaches file [] = []
  tops_breaches file (t ∷ ts) = top_breaches file t ++ tops_breaches (after_top file t) ts

  -- ---- the kernels

  -- the resolved kernel of a part of the file, where it is one
  abbrev pub kernels_of : List Pos → Names → TopTree → List RKernelTree
  kernels_of places file (tree.Kernel f) = kernel places (after_top file (tree.Kernel f)) f ∷ []
  kernels_of places file _ = []

  -- the resolved kernels of parts of the file
  abbrev pub kernels : List Pos → Names → List TopTree → List RKernelTree
  kernels places file [] = []
  kernels places file (t ∷ ts) = kernels_of places file t ++ kernels places (after_top file t) ts

-- ---- the whole

-- the names of the file that an `op_decl_const` names
abbrev pub named_in : ProgramTree → List (List ℕ)
named_in p = named_after_all [] [] p.main.body

-- the names of the file
abbrev pub file_of : ProgramTree → Names
file_of p = after_tops (named_in p) [] p.tops

-- the rules that a source breaks, in no order
abbrev pub breaches : ProgramTree → List Breach
breaches p = tops_breaches (named_in p) [] p.tops ++ hosts_breaches (file_of p) [] [] p.main.body

-- the resolved kernels and the constants of a source that breaks no rule
abbrev pub resolved : ProgramTree → ResolvedTree
resolved p = record { kernels = kernels (named_in p) p.places [] p.tops; consts = constants (file_of p) }

-- the refusal of a breach, at its place
abbrev pub refusal_of : List Pos → Breach → TypeRefusal
refusal_of places b = by_rule b.rule
  where
    by_rule : TypeRule → TypeRefusal
    by_rule rule.UnknownName = refusal.UnknownName (pos_of places b.at)
    by_rule rule.DuplicateName = refusal.DuplicateName (pos_of places b.at)
    by_rule rule.NotAnArray = refusal.NotAnArray (pos_of places b.at)
    by_rule rule.NotAScalar = refusal.NotAScalar (pos_of places b.at)
    by_rule rule.AssignsCounter = refusal.AssignsCounter (pos_of places b.at)
    by_rule rule.AssignsConst = refusal.AssignsConst (pos_of places b.at)
    by_rule rule.TooMuchWork = refusal.TooMuchWork (pos_of places b.at)

-- this refusal is that of the first rule that the source breaks
pub record IsFirstRefusal (p : ProgramTree) (r : TypeRefusal) : Type 0 where
  pub breach : Breach
  pub first : IsFirst (breaches p) breach
  pub refusal : r ≡ refusal_of p.places breach

-- what a source comes to: its kernels and constants, or a refusal
abbrev pub Outcome : Type 0
Outcome = Result ResolvedTree TypeRefusal

-- A source comes to its kernels and constants exactly where it breaks no rule, and else to the refusal of the first rule that
-- it breaks.
abbrev pub Resolves : ProgramTree → Outcome → Type 0
Resolves p (Ok r) = (breaches p ≡ []) × (r ≡ resolved p)
Resolves p (Err e) = IsFirstRefusal p e

-- what is answered holds, with the kernels and constants as trees, unless memory ran out
abbrev pub Answers : (Outcome → Type 0) → Result Resolved TypeRefusal → Type 0
Answers P (Ok r) = P (Ok (resolved_of r))
Answers P (Err refusal.OutOfMemory) = Unit {0}
Answers P (Err e) = P (Err e)
