-- The rules that kernels break, and the kernels in which each name is resolved.
use Rattle.std.specs.Prelude.{ℕ, suc, Bool, true, false, pos, nat_eq, List, [], ◌∷◌, ◌++◌, length, map}
use Rattle.c_tree.specs.declared.lexer.tokens.Pos.{Pos}
use Rattle.c_tree.specs.declared.expressions.Ident.{Ident}
use Rattle.c_tree.specs.declared.kernels.ForHeader.{ForHeader}
use Rattle.c_tree.specs.declared.kernels.Param.{Param}
use Rattle.c_tree.specs.declared.declarations.AssignOp.{AssignOp}
use Rattle.c_tree.specs.declared.declarations.AssignOp.TheVariants.{Set}
use Rattle.c_tree.specs.Places.{pos_of}
use Rattle.c_tree.specs.Tree as tree
use Rattle.c_tree.specs.Tree.{ExprTree, DeclrTree, PlaceTree, AssignmentTree, StmtTree, StmtTrees, KernelTree}
use Rattle.kernel_model.specs.declared.types.expressions.ElementForm.{ElementForm}
use Rattle.kernel_model.specs.declared.types.expressions.ElementForm.TheVariants as form
use Rattle.name_resolution.specs.declared.breaches.TypeRule.TheVariants.{TooMuchWork}
use Rattle.name_resolution.specs.declared.breaches.Breach.{Breach}
use Rattle.name_resolution.specs.declared.decls.Sort.{Sort}
use Rattle.name_resolution.specs.declared.decls.Sort.TheVariants as sort
use Rattle.name_resolution.specs.declared.decls.Decl.{Decl}
use Rattle.name_resolution.specs.declared.decls.Use.{Use}
use Rattle.name_resolution.specs.First.{breach_if}
use Rattle.name_resolution.specs.Scopes.{Names, Scope, scope, means, decl_or, declared, repeated, use_breaches}
use Rattle.kernel_model.specs.View.{RExprTree, Number, Scalar, Constant, Arg, Local, Const, Unary, Binary, Choice, Paren, Extremum, Absolute, RStmtTree, RStmtTrees, Block, Declare, SetScalar, SetLocal, SetArg, If, For, NoStmt, MoreStmt, RKernelTree}
use Rattle.name_resolution.specs.Work.{size_of, declr_cells, cells, cells_of_all, is_heavy, behind}

-- ---- broken rules, in any order; in_kernel says whether the names stand in a kernel

-- a use of a name as a value
abbrev pub reading : (in_kernel indexed : Bool) → Use
reading in_kernel indexed = record { in_kernel = in_kernel; is_indexed = indexed; is_target = false; is_fixed = false }

-- a use of a name as the target of an assignment; `fixed` says whether an `op_decl_const` before names it
abbrev pub writing : (in_kernel fixed indexed : Bool) → Use
writing in_kernel fixed indexed = record { in_kernel = in_kernel; is_indexed = indexed; is_target = true; is_fixed = fixed }

module _ (in_kernel : Bool) (s : Scope) where
  -- of a name as a value, indexed or not
  abbrev pub name_breaches : (indexed : Bool) → Ident → List Breach
  name_breaches indexed x = use_breaches (reading in_kernel indexed) x.at (means s x.name)

  -- of an expression
  abbrev pub expr_breaches : ExprTree → List Breach
  expr_breaches (tree.Number n) = []
  expr_breaches (tree.Name x) = name_breaches false x
  expr_breaches (tree.Index x e) = name_breaches true x ++ expr_breaches e
  expr_breaches (tree.Deref at x) = name_breaches true x
  expr_breaches (tree.Unary op at e) = expr_breaches e
  expr_breaches (tree.Binary op at l r) = expr_breaches l ++ expr_breaches r
  expr_breaches (tree.Choice at c y n) = expr_breaches c ++ (expr_breaches y ++ expr_breaches n)
  expr_breaches (tree.Paren at e) = expr_breaches e
  expr_breaches (tree.Extremum w at a b) = expr_breaches a ++ expr_breaches b
  expr_breaches (tree.Absolute at e) = expr_breaches e

  -- of a target, which `fixed` says an `op_decl_const` before names
  abbrev pub place_breaches : (fixed : Bool) → PlaceTree → List Breach
  place_breaches fixed (tree.Scalar x) = use_breaches (writing in_kernel fixed false) x.at (means s x.name)
  place_breaches fixed (tree.Element x e) = use_breaches (writing in_kernel fixed true) x.at (means s x.name) ++ expr_breaches e
  place_breaches fixed (tree.Target at x) = use_breaches (writing in_kernel fixed true) x.at (means s x.name)

  -- of an assignment: those of its target and of its value
  abbrev pub assignment_breaches : (fixed : Bool) → AssignmentTree → List Breach
  assignment_breaches fixed a = place_breaches fixed a.place ++ expr_breaches a.value

-- ---- the names of a kernel

-- a name of a kernel, its first cell and how many it has
abbrev pub local_decl : Sort → (at from count : ℕ) → Decl
local_decl what at from count = record {
  at = at;
  sort = what;
  is_const = false;
  of_file = false;
  is_constant = false;
  from = from;
  count = count;
}

-- the names and one more
abbrev pub with_local : Names → Ident → Sort → (from count : ℕ) → Names
with_local own x what from count = declared x.name (local_decl what x.at from count) own

-- a name is known from the end of its declarator on
abbrev pub after_declr : Names → ℕ → DeclrTree → Names
after_declr own next (tree.Plain x) = with_local own x sort.Scalar next 1
after_declr own next (tree.Init x e) = with_local own x sort.Scalar next 1
after_declr own next (tree.Array x n) = with_local own x sort.Array next (size_of n)

-- the names that are known behind declarators, the first of which has its cells from `next` on
abbrev pub after_declrs : Names → ℕ → List DeclrTree → Names
after_declrs own next [] = own
after_declrs own next (d ∷ ds) = after_declrs (after_declr own next d) (behind next (declr_cells d)) ds

-- The names that are known behind a statement. Those of a block, of a `for` and of the branches of an `if` end with them.
abbrev pub after_stmt : Names → ℕ → StmtTree → Names
after_stmt own next (tree.LocalDeclaration v) = after_declrs own next v.declrs
after_stmt own next _ = own

-- the names that are known behind statements
abbrev pub after_stmts : Names → ℕ → StmtTrees → Names
after_stmts own next tree.NoStmt = own
after_stmts own next (tree.MoreStmt x xs) = after_stmts (after_stmt own next x) (behind next (cells x)) xs

-- a counter is known in its `for`
abbrev pub with_counter : Names → ℕ → ForHeader → Names
with_counter own next h = with_local own h.name sort.Counter next 1

-- a parameter, by its number
abbrev pub param_decl : ℕ → Param → Decl
param_decl k p = record {
  at = p.name.at;
  sort = sort.Param;
  is_const = p.is_const;
  of_file = false;
  is_constant = false;
  from = k;
  count = 1;
}

-- the names and those of parameters, the first of which has the number k
abbrev pub after_params : Names → ℕ → List Param → Names
after_params own k [] = own
after_params own k (p ∷ ps) = after_params (declared p.name.name (param_decl k p) own) (suc k) ps

module _ (file : Names) where
  -- of a declarator, whose initializer stands before its name is known; an array has a cell
  abbrev pub declr_breaches : Names → DeclrTree → List Breach
  declr_breaches own (tree.Plain x) = repeated x own
  declr_breaches own (tree.Init x e) = expr_breaches true (scope file own) e ++ repeated x own
  declr_breaches own (tree.Array x n) = breach_if (nat_eq (size_of n) 0) TooMuchWork x.at ++ repeated x own

  -- of declarators in order
  abbrev pub declrs_breaches : Names → ℕ → List DeclrTree → List Breach
  declrs_breaches own next [] = []
  declrs_breaches own next (d ∷ ds) =
      declr_breaches own d ++ declrs_breaches (after_declr own next d) (behind next (declr_cells d)) ds

  abbrev mutual
    -- of a statement
    pub stmt_breaches : Names → ℕ → StmtTree → List Breach
    stmt_breaches own next (tree.LocalDeclaration v) = declrs_breaches own next v.declrs
    stmt_breaches own next (tree.Block at ss) = stmts_breaches own next ss
    stmt_breaches own next (tree.Empty at) = []
    stmt_breaches own next (tree.Assign a) = assignment_breaches true (scope file own) false a
    stmt_breaches own next (tree.If at e x) = expr_breaches true (scope file own) e ++ stmt_breaches own next x
    stmt_breaches own next (tree.IfElse at e x y) =
        expr_breaches true (scope file own) e ++ (stmt_breaches own next x ++ stmt_breaches own (behind next (cells x)) y)
    stmt_breaches own next (tree.For h x) =
        repeated h.name own ++ stmt_breaches (with_counter own next h) (behind next 1) x

    -- of statements in order
    pub stmts_breaches : Names → ℕ → StmtTrees → List Breach
    stmts_breaches own next tree.NoStmt = []
    stmts_breaches own next (tree.MoreStmt x xs) =
        stmt_breaches own next x ++ stmts_breaches (after_stmt own next x) (behind next (cells x)) xs

-- of parameters in order
abbrev pub params_breaches : Names → ℕ → List Param → List Breach
params_breaches own k [] = []
params_breaches own k (p ∷ ps) = repeated p.name own ++ params_breaches (declared p.name.name (param_decl k p) own) (suc k) ps

-- of a kernel behind these names of the file; its own is known in it
abbrev pub kernel_breaches : Names → KernelTree → List Breach
kernel_breaches file f =
    breach_if (is_heavy f) TooMuchWork f.name.at
    ++ (params_breaches [] 0 f.params ++ stmts_breaches file (after_params [] 0 f.params) 0 f.body)

-- ---- the resolved kernel, which means nothing where a rule is broken

-- an element of what is declared so
abbrev pub element : Decl → ElementForm → RExprTree → Pos → RExprTree
element d f i at = by_sort d.sort d.of_file
  where
    by_sort : Sort → Bool → RExprTree
    by_sort sort.Param b = Arg d.from f i at
    by_sort _ true = Const d.from d.count f i at
    by_sort _ false = Local d.from d.count f i at

-- a variable that is declared so, as a value
abbrev pub single : Decl → RExprTree
single d = by_file d.of_file
  where
    by_file : Bool → RExprTree
    by_file true = Constant d.from
    by_file false = Scalar d.from

module _ (places : List Pos) (s : Scope) where
  -- the resolved expression
  abbrev pub value : ExprTree → RExprTree
  value (tree.Number n) = Number n.value
  value (tree.Name x) = single (decl_or (means s x.name))
  value (tree.Index x e) = element (decl_or (means s x.name)) form.Index (value e) (pos_of places x.at)
  value (tree.Deref at x) = element (decl_or (means s x.name)) form.Deref (Number (pos 0)) (pos_of places x.at)
  value (tree.Unary op at e) = Unary op (value e)
  value (tree.Binary op at l r) = Binary op (value l) (value r) (pos_of places at)
  value (tree.Choice at c y n) = Choice (value c) (value y) (value n)
  value (tree.Paren at e) = Paren (value e)
  value (tree.Extremum w at a b) = Extremum w (value a) (value b)
  value (tree.Absolute at e) = Absolute (value e)

-- the assignment to an element of what is declared so
abbrev pub set_element : Decl → ElementForm → RExprTree → Pos → AssignOp → Pos → RExprTree → RStmtTree
set_element d f i at op op_at v = by_sort d.sort
  where
    by_sort : Sort → RStmtTree
    by_sort sort.Param = SetArg d.from f i at op op_at v
    by_sort _ = SetLocal d.from d.count f i at op op_at v

module _ (places : List Pos) (s : Scope) where
  -- the resolved assignment to that place
  abbrev pub assigned : AssignmentTree → PlaceTree → RStmtTree
  assigned a (tree.Scalar x) = SetScalar (decl_or (means s x.name)).from a.op (pos_of places a.at) (value places s a.value)
  assigned a (tree.Element x e) =
      set_element (decl_or (means s x.name)) form.Index (value places s e) (pos_of places x.at)
      a.op (pos_of places a.at) (value places s a.value)
  assigned a (tree.Target at x) =
      set_element (decl_or (means s x.name)) form.Deref (Number (pos 0)) (pos_of places x.at)
      a.op (pos_of places a.at) (value places s a.value)

module _ (places : List Pos) (file : Names) where
  -- an initializer is an assignment, whose sign stands for the name
  abbrev pub declr_step : Names → ℕ → DeclrTree → RStmtTree
  declr_step own next (tree.Plain x) = Declare next 1
  declr_step own next (tree.Init x e) = SetScalar next Set (pos_of places x.at) (value places (scope file own) e)
  declr_step own next (tree.Array x n) = Declare next (size_of n)

  -- the resolved declarators
  abbrev pub declrs_steps : Names → ℕ → List DeclrTree → RStmtTrees
  declrs_steps own next [] = NoStmt
  declrs_steps own next (d ∷ ds) =
      MoreStmt (declr_step own next d) (declrs_steps (after_declr own next d) (behind next (declr_cells d)) ds)

  abbrev mutual
    -- a resolved statement; `;` and a missing `else` are blocks of none
    pub step : Names → ℕ → StmtTree → RStmtTree
    step own next (tree.LocalDeclaration v) = Block (declrs_steps own next v.declrs)
    step own next (tree.Block at ss) = Block (steps own next ss)
    step own next (tree.Empty at) = Block NoStmt
    step own next (tree.Assign a) = assigned places (scope file own) a a.place
    step own next (tree.If at e x) = If (value places (scope file own) e) (step own next x) (Block NoStmt)
    step own next (tree.IfElse at e x y) =
        If (value places (scope file own) e) (step own next x) (step own (behind next (cells x)) y)
    step own next (tree.For h x) =
        For next (size_of h.from) (size_of h.to) (step (with_counter own next h) (behind next 1) x)

    -- resolved statements
    pub steps : Names → ℕ → StmtTrees → RStmtTrees
    steps own next tree.NoStmt = NoStmt
    steps own next (tree.MoreStmt x xs) = MoreStmt (step own next x) (steps (after_stmt own next x) (behind next (cells x)) xs)

  -- the resolved kernel
  abbrev pub kernel : KernelTree → RKernelTree
  kernel f = record {
    name = f.name.name;
    params = length f.params;
    scratch = behind 0 (cells_of_all f.body);
    param_places = map (λ p. pos_of places p.name.at) f.params;
    statement = Block (steps (after_params [] 0 f.params) 0 f.body);
  }
