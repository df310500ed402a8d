-- What is kept while names of the file are declared one after another.
use Rattle.std.proofs.Common.{ℕ, Bool, true, false, List, [], ◌∷◌, ◌++◌, is_some, if◌then◌else◌}
use Rattle.c_tree.specs.Tree as tree
use Rattle.c_tree.specs.Tree.{DeclrTree, TopTree}
use Rattle.name_resolution.specs.declared.decls.Sort.{Sort}
use Rattle.name_resolution.specs.declared.decls.Sort.TheVariants as sort
use Rattle.name_resolution.specs.declared.decls.Decl.{Decl}
use Rattle.name_resolution.specs.Scopes.{Names, decl_in, declared}
use Rattle.name_resolution.specs.Mains.{declr_name}
use Rattle.name_resolution.specs.Programs.{constant_cells, other_decl, variable_decl, with_variable, after_variables, after_top, after_tops}
use Rattle.name_resolution.proofs.Public.{AllAre}

-- what a name of the file is that is no variable
abbrev pub IsOther : Sort → Type 0
IsOther sort.Extern = Unit {0}
IsOther sort.ExternArray = Unit {0}
IsOther sort.Kernel = Unit {0}
IsOther _ = ⊥

-- ---- forward

module _ (named : List (List ℕ)) (P : Names → Type 0)
    (variable : (c : Bool) (file : Names) (d : DeclrTree) → P file → P (with_variable named c file d))
    (other : (s : Sort) → IsOther s → (x : List ℕ) (at : ℕ) (file : Names) → P file → P (declared x (other_decl s at) file)) where
  variables_keep : (c : Bool) (file : Names) (ds : List DeclrTree) → P file → P (after_variables named c file ds)
  variables_keep c file [] h = h
  variables_keep c file (d ∷ ds) h = variables_keep c (with_variable named c file d) ds (variable c file d h)

  top_keeps : (file : Names) (t : TopTree) → P file → P (after_top named file t)
  top_keeps file (tree.Extern x) h = other sort.Extern tt x.name x.at file h
  top_keeps file (tree.ExternArray x) h = other sort.ExternArray tt x.name x.at file h
  top_keeps file (tree.FileDeclaration v) h = variables_keep v.is_const file v.declrs h
  top_keeps file (tree.Kernel f) h = other sort.Kernel tt f.name.name f.name.at file h

  pub tops_keep : (file : Names) (ts : List TopTree) → P file → P (after_tops named file ts)
  tops_keep file [] h = h
  tops_keep file (t ∷ ts) h = tops_keep (after_top named file t) ts (top_keeps file t h)

-- ---- backward

module _ (P : Decl → Type 0) where
  shorter : (file : Names) (x : List ℕ) (d : Decl) → AllAre P (file ++ (x, d) ∷ []) → AllAre P file
  shorter [] x d h = tt
  shorter (e ∷ file) x d h = (h.0, shorter file x d h.1)

  before_declared : (x : List ℕ) (d : Decl) (file : Names) → AllAre P (declared x d file) → AllAre P file
  before_declared x d file h = by (is_some (decl_in file x)) h
    where
      by : (b : Bool) → AllAre P (if b then file else (file ++ (x, d) ∷ [])) → AllAre P file
      by true h = h
      by false h = shorter file x d h

  module _ (named : List (List ℕ)) where
    before_variables : (c : Bool) (file : Names) (ds : List DeclrTree) → AllAre P (after_variables named c file ds) → AllAre P file
    before_variables c file [] h = h
    before_variables c file (d ∷ ds) h =
        before_declared (declr_name d).name (variable_decl named c (constant_cells file) d) file (before_variables c (with_variable named c file d) ds h)

    before_top : (file : Names) (t : TopTree) → AllAre P (after_top named file t) → AllAre P file
    before_top file (tree.Extern x) h = before_declared x.name (other_decl sort.Extern x.at) file h
    before_top file (tree.ExternArray x) h = before_declared x.name (other_decl sort.ExternArray x.at) file h
    before_top file (tree.FileDeclaration v) h = before_variables v.is_const file v.declrs h
    before_top file (tree.Kernel f) h = before_declared f.name.name (other_decl sort.Kernel f.name.at) file h

    pub before_tops : (file : Names) (ts : List TopTree) → AllAre P (after_tops named file ts) → AllAre P file
    before_tops file [] h = h
    before_tops file (t ∷ ts) h = before_top file t (before_tops (after_top named file t) ts h)
