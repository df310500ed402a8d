-- What every bound program keeps.
use Rattle.std.specs.Prelude.{◌≡◌, ◌≢◌, ℕ, zero, suc, ◌+◌, ◌<◌, ◌≤◌, ◌^◌, ◌⊎◌, List, [], ◌∷◌, length, sum_by, All, slice_index_or, FitsSigned, Option, Some, None, if◌then◌else◌}
use Rattle.std.specs.Int.{w32}
use Rattle.kernel_model.specs.declared.types.expressions.RExpr.{RExpr}
use Rattle.kernel_model.specs.declared.types.expressions.RExpr.TheVariants as r
use Rattle.kernel_model.specs.declared.types.statements.RStmt.{RStmt, Block', Declare, SetScalar, SetLocal, SetArg, If', For', Row_of-RStmt, end_of-RStmt, more_of-RStmt}
use Rattle.kernel_model.specs.declared.types.kernels.RKernel.{RKernel}
use Rattle.kernel_model.specs.Resolved.{IsResolved}
use Rattle.op_num.specs.declared.reductions.access.Access.{Access}
use Rattle.op_num.specs.declared.reductions.access.Access.TheVariants as access
use Rattle.mesh_decl.specs.declared.access.Via.{Via}
use Rattle.mesh_decl.specs.Mesh.{IsMesh, set_count, map_count, dat_count, map_from, map_to, map_dim, dat_set, dat_dim}
use Rattle.mesh_decl.specs.Printed.{conversions}
use Rattle.bound_program.specs.declared.sites.Arg.{Arg}
use Rattle.bound_program.specs.declared.sites.Arg.TheVariants.{Dat, Global}
use Rattle.bound_program.specs.declared.sites.Class.TheVariants as class
use Rattle.kernel_model.specs.View.{RExprTree, Number, Scalar, Constant, Arg as Param, Local, Const, Unary, Binary, Choice, Paren, Extremum, Absolute}
use Rattle.bound_program.specs.Values.{ActValue, Clear, Assign, Line, Print, Exit, ItemValue, Free, Reduce, Ordered, Host, SiteValue, VarValue, BoundValue, no_var, no_site}
use Rattle.bound_program.specs.Limits.{max_dim, max_arguments}
use Rattle.bound_program.specs.Classes.{class_of, reduces}

-- ---- the constants of kernels

-- so many cells, where there is a first one
abbrev pub cells_from : Option ℕ → ℕ → ℕ
cells_from None n = 0
cells_from (Some first) n = n

-- how many cells of constants a variable has
abbrev pub constant_cells : VarValue → ℕ
constant_cells v = cells_from v.constant (length v.start)

-- the variable has these cells among the constants
abbrev pub HasCells : VarValue → ℕ → ℕ → Type 0
HasCells v from count = (first : ℕ) × (v.constant ≡ Some first) × (first ≤ from) × (from + count ≤ first + length v.start)

-- the constants that a kernel names are there
module _ (there : (from count : ℕ) → Type 0) where
  -- of an expression
  abbrev pub NamesConstants : RExpr → Type 0
  NamesConstants (r.Number n) = Unit {0}
  NamesConstants (r.Scalar k) = Unit {0}
  NamesConstants (r.Constant k) = there k 1
  NamesConstants (r.Arg' a form p e at) = NamesConstants e
  NamesConstants (r.Local' from count form p e at) = NamesConstants e
  NamesConstants (r.Const' from count form p e at) = there from count × NamesConstants e
  NamesConstants (r.Unary' op p e) = NamesConstants e
  NamesConstants (r.Binary' op p x q y at) = NamesConstants x × NamesConstants y
  NamesConstants (r.Choice' p c q x s y) = NamesConstants c × NamesConstants x × NamesConstants y
  NamesConstants (r.Paren' p e) = NamesConstants e
  NamesConstants (r.Extremum' which p x q y) = NamesConstants x × NamesConstants y
  NamesConstants (r.Absolute' p e) = NamesConstants e

  abbrev mutual
    -- of a statement
    pub UsesConstants : RStmt → Type 0
    UsesConstants (Block' shape all) = RowUsesConstants all
    UsesConstants (Declare from count) = Unit {0}
    UsesConstants (SetScalar k op opat e) = NamesConstants e
    UsesConstants (SetLocal from count form ix at op opat e) = NamesConstants ix × NamesConstants e
    UsesConstants (SetArg a form ix at op opat e) = NamesConstants ix × NamesConstants e
    UsesConstants (If' e p a q b) = NamesConstants e × UsesConstants a × UsesConstants b
    UsesConstants (For' k first past p body) = UsesConstants body

    -- of each statement of a block
    pub RowUsesConstants : {m : _} → Row_of-RStmt m → Type 0
    RowUsesConstants end_of-RStmt = Unit {0}
    RowUsesConstants (more_of-RStmt first rest) = UsesConstants first × RowUsesConstants rest

-- ---- arguments

-- a global is read, or merged into where it is no constant
abbrev pub GlobalAccess : Access → Option ℕ → Type 0
GlobalAccess access.Read constant = Unit {0}
GlobalAccess access.Write constant = ⊥
GlobalAccess access.Rw constant = ⊥
GlobalAccess a constant = constant ≡ None

-- two arguments are not the same variable, unless both are OP_READ
abbrev pub AreApart : Arg → Arg → Type 0
AreApart (Global v a) (Global w c) = v ≡ w → (a ≡ access.Read) × (c ≡ access.Read)
AreApart x y = Unit {0}

-- no two arguments are the same variable, unless both are OP_READ
abbrev pub AllApart : List Arg → Type 0
AllApart [] = Unit {0}
AllApart (x ∷ xs) = All (AreApart x) xs × AllApart xs

-- the loop's kernel takes as many parameters as there are arguments
abbrev pub TakesArgs : List RKernel → ℕ → ℕ → Type 0
TakesArgs [] k n = ⊥
TakesArgs (x ∷ xs) zero n = x.params ≡ n
TakesArgs (x ∷ xs) (suc k) n = TakesArgs xs k n

-- ---- the last item

-- the last item is no loop
abbrev pub EndsWithHost : List ItemValue → Type 0
EndsWithHost [] = Unit {0}
EndsWithHost (Host a ∷ []) = Unit {0}
EndsWithHost (x ∷ []) = ⊥
EndsWithHost (x ∷ y ∷ xs) = EndsWithHost (y ∷ xs)

-- ---- the program

module _ (b : BoundValue) where
  -- a variable by its number
  abbrev pub var_at : ℕ → VarValue
  var_at v = slice_index_or b.vars v no_var

  -- a loop by its number
  abbrev pub site_at : ℕ → SiteValue
  site_at s = slice_index_or b.sites s no_site

  -- these cells of constants are all of one variable
  abbrev pub AreOfVariable : ℕ → ℕ → Type 0
  AreOfVariable from count = (v : ℕ) × (v < length b.vars) × HasCells (var_at v) from count

  -- a kernel is resolved, and each constant that it names is a variable's
  pub record KernelFits (k : RKernel) : Type 0 where
    pub resolved : IsResolved (sum_by constant_cells b.vars) k
    pub constants : UsesConstants AreOfVariable k.body.statement

  -- constants lie among the cells of all, and no two variables share one
  pub record ConstantsFit : Type 0 where
    pub within : (v first : ℕ) → v < length b.vars → (var_at v).constant ≡ Some first
        → first + length (var_at v).start ≤ sum_by constant_cells b.vars
    pub apart : (v w first other : ℕ) → v < length b.vars → w < length b.vars → v ≢ w
        → (var_at v).constant ≡ Some first → (var_at w).constant ≡ Some other
        → (first + length (var_at v).start ≤ other) ⊎ (other + length (var_at w).start ≤ first)

  -- ---- loops

  -- a direct dat is on the loop's set; a map leads from there to the dat's set, and has the index
  abbrev pub ViaFits : ℕ → ℕ → Option Via → Type 0
  ViaFits set d None = dat_set b.mesh d ≡ set
  ViaFits set d (Some v) =
      (v.map < map_count b.mesh)
      × (map_from b.mesh v.map ≡ set)
      × (map_to b.mesh v.map ≡ dat_set b.mesh d)
      × (v.index < map_dim b.mesh v.map)

  -- what an argument names is there, has at most 64 cells, and is used as it may be
  abbrev pub ArgFits : ℕ → Arg → Type 0
  ArgFits set (Dat d v a) = (d < dat_count b.mesh) × (dat_dim b.mesh d ≤ max_dim) × ViaFits set d v
  ArgFits set (Global v a) =
      (v < length b.vars)
      × (0 < length (var_at v).start)
      × (length (var_at v).start ≤ max_dim)
      × GlobalAccess a (var_at v).constant

  -- a loop's kernel, set and arguments are there, and its class is that of its arguments
  pub record SiteFits (s : SiteValue) : Type 0 where
    pub kernel : TakesArgs b.kernels s.kernel (length s.args)
    pub set : s.set < set_count b.mesh
    pub few : length s.args ≤ max_arguments
    pub args : All (ArgFits s.set) s.args
    pub apart : AllApart s.args
    pub class : s.class ≡ class_of s.args

  -- ---- statements

  -- how many cells all variables have
  abbrev pub all_cells : ℕ
  all_cells = sum_by (λ (v : VarValue). length v.start) b.vars

  -- the cells that an expression names are there, and all its names are known
  abbrev pub HostWithin : RExprTree → Type 0
  HostWithin (Number n) = FitsSigned w32 n
  HostWithin (Scalar k) = k < all_cells
  HostWithin (Constant k) = ⊥
  HostWithin (Param x form e at) = ⊥
  HostWithin (Local from count form e at) = (from + count ≤ all_cells) × HostWithin e
  HostWithin (Const from count form e at) = ⊥
  HostWithin (Unary op e) = HostWithin e
  HostWithin (Binary op x y at) = HostWithin x × HostWithin y
  HostWithin (Choice c x y) = HostWithin c × HostWithin x × HostWithin y
  HostWithin (Paren e) = HostWithin e
  HostWithin (Extremum which x y) = HostWithin x × HostWithin y
  HostWithin (Absolute e) = HostWithin e

  -- the cells that an index names are there
  abbrev pub IndexWithin : Option RExprTree → Type 0
  IndexWithin None = Unit {0}
  IndexWithin (Some e) = HostWithin e

  -- what a statement names is there; a line has as many values as its text takes
  abbrev pub ActFits : ActValue → Type 0
  ActFits (Clear v) = v < length b.vars
  ActFits (Assign v i op op_at e at) = (v < length b.vars) × (0 < length (var_at v).start) × IndexWithin i × HostWithin e
  ActFits (Line l es) = (conversions l ≡ Some (length es)) × All HostWithin es
  ActFits (Print d file) = d < dat_count b.mesh
  ActFits Exit = Unit {0}

  -- ---- the trace

  -- the loop, where its merging is due behind it
  abbrev pub due : ℕ → Option ℕ
  due s = if reduces (site_at s).args then Some s else None

  -- Items in order, where the merging of a loop is due: it stands next, and nowhere else.
  abbrev pub ItemsFit : Option ℕ → List ItemValue → Type 0
  ItemsFit None [] = Unit {0}
  ItemsFit None (Free s ∷ xs) = (s < length b.sites) × ((site_at s).class ≡ class.Free) × ItemsFit (due s) xs
  ItemsFit None (Ordered s ∷ xs) = (s < length b.sites) × ((site_at s).class ≡ class.Ordered) × ItemsFit None xs
  ItemsFit None (Host a ∷ xs) = ActFits a × ItemsFit None xs
  ItemsFit None (Reduce s ∷ xs) = ⊥
  ItemsFit (Some s) (Reduce n ∷ xs) = (n ≡ s) × ItemsFit None xs
  ItemsFit (Some s) xs = ⊥

  -- all that every bound program keeps
  pub record Fits : Type 0 where
    pub mesh : IsMesh b.mesh
    pub kernels : All KernelFits b.kernels
    pub constants : ConstantsFit
    pub sites : All SiteFits b.sites
    pub items : ItemsFit None b.trace
    pub last : EndsWithHost b.trace
    pub few : length b.trace < 2 ^ 32
