-- The constants of a resolved source are its variables that kernels read, in the order of the file.
use Rattle.std.specs.Prelude.{◌≡◌, ◌≢◌, ℕ, ◌+◌, ◌≤◌, Bool, true, false, ◌||◌, List, [], ◌∷◌, ◌++◌, ◌⊎◌, All, Some, bytes_eq}
use Rattle.std.specs.List.{list_any}
use Rattle.c_tree.specs.Tree as tree
use Rattle.c_tree.specs.Tree.{DeclrTree, TopTree, OpCallTree, HostTree, HostTrees}
use Rattle.kernel_model.specs.declared.types.kernels.ConstDecl.{ConstDecl}
use Rattle.main_declarations.specs.Meanings.{count_of}
use Rattle.main_declarations.specs.SoFar.{first_cell}

-- a variable of the file; `const` where it is declared so, with its value
pub record FileVariable : Type 0 where
  pub name : List ℕ
  pub is_const : Bool
  pub count : ℕ

-- the variable of a declarator
abbrev pub declr_variable : Bool → DeclrTree → FileVariable
declr_variable c (tree.Plain x) = record { name = x.name; is_const = false; count = 1 }
declr_variable c (tree.Init x e) = record { name = x.name; is_const = c; count = 1 }
declr_variable c (tree.Array x n) = record { name = x.name; is_const = false; count = count_of n }

-- the variables of declarators
abbrev pub declrs_variables : Bool → List DeclrTree → List FileVariable
declrs_variables c [] = []
declrs_variables c (d ∷ ds) = declr_variable c d ∷ declrs_variables c ds

-- the variables of a declaration
abbrev pub top_variables : TopTree → List FileVariable
top_variables (tree.FileDeclaration v) = declrs_variables v.is_const v.declrs
top_variables t = []

-- the variables of the file
abbrev pub file_variables : List TopTree → List FileVariable
file_variables [] = []
file_variables (t ∷ ts) = top_variables t ++ file_variables ts

-- no two of them have one name
abbrev pub NamesApart : List FileVariable → Type 0
NamesApart [] = Unit {0}
NamesApart (f ∷ fs) = All (λ g. f.name ≢ g.name) fs × NamesApart fs

-- ---- the names that an `op_decl_const` names

-- of a call
abbrev pub call_names : OpCallTree → List (List ℕ)
call_names (tree.DeclConst at n l g) = g.name.name ∷ []
call_names c = []

abbrev mutual
  -- in a statement
  pub constant_names : HostTree → List (List ℕ)
  constant_names (tree.HostDeclaration v) = []
  constant_names (tree.HostBlock at hs) = all_constant_names hs
  constant_names (tree.HostEmpty at) = []
  constant_names (tree.HostAssign a) = []
  constant_names (tree.HostIf at e x) = constant_names x
  constant_names (tree.HostIfElse at e x y) = constant_names x ++ constant_names y
  constant_names (tree.HostFor f x) = constant_names x
  constant_names (tree.HostCall c) = call_names c

  -- in each statement
  pub all_constant_names : HostTrees → List (List ℕ)
  all_constant_names tree.NoHost = []
  all_constant_names (tree.MoreHost h hs) = constant_names h ++ all_constant_names hs

-- ---- the constants

-- kernels read the variable: it is `const`, or named by an `op_decl_const`
abbrev pub is_constant : List (List ℕ) → FileVariable → Bool
is_constant named f = f.is_const || list_any (bytes_eq f.name) named

-- the first constant is this variable, where kernels read it, and the rest follow
abbrev pub Begins : Bool → FileVariable → List ConstDecl → (List ConstDecl → Type 0) → Type 0
Begins false f cs Rest = Rest cs
Begins true f [] Rest = ⊥
Begins true f (c ∷ cs) Rest = (c.name ≡ f.name) × (c.count ≡ f.count) × Rest cs

-- the constants are those variables that kernels read
abbrev pub AreConstants : List (List ℕ) → List FileVariable → List ConstDecl → Type 0
AreConstants named [] [] = Unit {0}
AreConstants named [] (c ∷ cs) = ⊥
AreConstants named (f ∷ fs) cs = Begins (is_constant named f) f cs (AreConstants named fs)

-- a constant is found by its name
abbrev pub AreFound : List ConstDecl → Type 0
AreFound cs = All (λ c. first_cell cs c.name ≡ Some c.from) cs

-- the cells are among those of this constant
abbrev pub AreOf : ℕ → ℕ → ConstDecl → Type 0
AreOf from count c = (c.from ≤ from) × (from + count ≤ c.from + c.count)

-- these cells are all of one constant
abbrev pub AreOfOne : List ConstDecl → ℕ → ℕ → Type 0
AreOfOne [] from count = ⊥
AreOfOne (c ∷ cs) from count = AreOf from count c ⊎ AreOfOne cs from count
