-- The side conditions of the grammar: how operators group, to which `if` an `else` belongs, and where a declaration may stand.
use Rattle.std.specs.Prelude.{◌≡◌, ◌≢◌, ℕ, ◌≤◌, ◌<◌, Bool, true, false, List, [], ◌∷◌}
use Rattle.c_tree.specs.declared.kernels.ForHeader.{ForHeader}
use Rattle.c_tree.specs.Signs.{level_of}
use Rattle.c_tree.specs.Tree.{ExprTree, Number, Name, Index, Deref, Unary, Binary, Choice, Paren, Extremum, Absolute, DeclrTree, Init, DeclarationTree, PlaceTree, Scalar, Element, Target, AssignmentTree, StmtTree, LocalDeclaration, Block, Empty, Assign, If, IfElse, For, StmtTrees, NoStmt, MoreStmt, KernelTree, TopTree, Extern, ExternArray, FileDeclaration, Kernel, HostForHeaderTree, OpCallTree, DeclSet, Printf, HostTree, HostDeclaration, HostBlock, HostEmpty, HostAssign, HostIf, HostIfElse, HostFor, HostCall, HostTrees, NoHost, MoreHost, ProgramTree}

-- the operator level of an expression
abbrev pub strength : ExprTree → ℕ
strength (Choice at c y n) = 0
strength (Binary op at l r) = level_of op
strength (Unary op at e) = 11
strength (Deref at x) = 11
strength _ = 12

-- Binary levels group to the left and ?: to the right. What stands between ? and : is any expression.
abbrev pub IsGrouped : ExprTree → Type 0
IsGrouped (Number n) = Unit {0}
IsGrouped (Name x) = Unit {0}
IsGrouped (Index x e) = IsGrouped e
IsGrouped (Deref at x) = Unit {0}
IsGrouped (Unary op at e) = (11 ≤ strength e) × IsGrouped e
IsGrouped (Binary op at l r) = (level_of op ≤ strength l) × (level_of op < strength r) × IsGrouped l × IsGrouped r
IsGrouped (Choice at c y n) = (1 ≤ strength c) × IsGrouped c × IsGrouped y × IsGrouped n
IsGrouped (Paren at e) = IsGrouped e
IsGrouped (Extremum w at a b) = IsGrouped a × IsGrouped b
IsGrouped (Absolute at e) = IsGrouped e

-- whether a statement ends in an `if` without its `else`, which an `else` behind it would belong to
abbrev pub ends_open : StmtTree → Bool
ends_open (If at e s) = true
ends_open (IfElse at e s t) = ends_open t
ends_open (For c s) = ends_open s
ends_open _ = false

-- whether a statement of `main` ends in such an `if`
abbrev pub host_ends_open : HostTree → Bool
host_ends_open (HostIf at e s) = true
host_ends_open (HostIfElse at e s t) = host_ends_open t
host_ends_open (HostFor c s) = host_ends_open s
host_ends_open _ = false

-- the whole body of a kernel's `if` or `for` is no declaration
abbrev pub IsBody : StmtTree → Type 0
IsBody (LocalDeclaration v) = ⊥
IsBody _ = Unit {0}

-- the whole body of an `if` or a `for` of `main` is no declaration
abbrev pub IsHostBody : HostTree → Type 0
IsHostBody (HostDeclaration v) = ⊥
IsHostBody _ = Unit {0}

-- a declarator, with an initializer where it is of a `const`
abbrev pub IsDeclr : Bool → DeclrTree → Type 0
IsDeclr c (Init x e) = IsGrouped e
IsDeclr true _ = ⊥
IsDeclr false _ = Unit {0}

-- the declarators of one declaration, of a `const` or not
abbrev pub AreDeclrs : Bool → List DeclrTree → Type 0
AreDeclrs c [] = Unit {0}
AreDeclrs c (d ∷ ds) = IsDeclr c d × AreDeclrs c ds

-- a declaration has a declarator, and each that it makes `const` has its initializer
abbrev pub IsDeclaration : DeclarationTree → Type 0
IsDeclaration v = (v.declrs ≢ []) × AreDeclrs v.is_const v.declrs

-- the target of an assignment, whose index is grouped
abbrev pub IsPlace : PlaceTree → Type 0
IsPlace (Scalar x) = Unit {0}
IsPlace (Element x e) = IsGrouped e
IsPlace (Target at x) = Unit {0}

-- an assignment, whose target and value are grouped
abbrev pub IsAssignment : AssignmentTree → Type 0
IsAssignment a = IsPlace a.place × IsGrouped a.value

-- the three names of a head are equal
abbrev pub IsForHeader : ForHeader → Type 0
IsForHeader c = (c.tested.name ≡ c.name.name) × (c.stepped.name ≡ c.name.name)

abbrev mutual
  -- a statement of a kernel declares no `const`, and an `else` belongs to the last `if` before it
  pub IsStmt : StmtTree → Type 0
  IsStmt (LocalDeclaration v) = (v.is_const ≡ false) × IsDeclaration v
  IsStmt (Block at ss) = AreStmts ss
  IsStmt (Empty at) = Unit {0}
  IsStmt (Assign a) = IsAssignment a
  IsStmt (If at e s) = IsGrouped e × IsBody s × IsStmt s
  IsStmt (IfElse at e s t) = IsGrouped e × IsBody s × IsStmt s × (ends_open s ≡ false) × IsBody t × IsStmt t
  IsStmt (For c s) = IsForHeader c × IsBody s × IsStmt s

  -- the statements of a block or a kernel
  pub AreStmts : StmtTrees → Type 0
  AreStmts NoStmt = Unit {0}
  AreStmts (MoreStmt s ss) = IsStmt s × AreStmts ss

-- a kernel has a parameter
abbrev pub IsKernel : KernelTree → Type 0
IsKernel f = (f.params ≢ []) × AreStmts f.body

-- a part of the file before `main`
abbrev pub IsTop : TopTree → Type 0
IsTop (Extern x) = Unit {0}
IsTop (ExternArray x) = Unit {0}
IsTop (FileDeclaration v) = IsDeclaration v
IsTop (Kernel f) = IsKernel f

-- the parts of the file before `main`
abbrev pub AreTops : List TopTree → Type 0
AreTops [] = Unit {0}
AreTops (t ∷ ts) = IsTop t × AreTops ts

-- the values that `op_printf` prints, each grouped
abbrev pub AllGrouped : List ExprTree → Type 0
AllGrouped [] = Unit {0}
AllGrouped (e ∷ es) = IsGrouped e × AllGrouped es

-- a call of the OP2 library, whose expressions are grouped
abbrev pub IsCall : OpCallTree → Type 0
IsCall (DeclSet at x e t) = IsGrouped e
IsCall (Printf at t es) = AllGrouped es
IsCall _ = Unit {0}

-- the three names of a head in `main` are equal, and its bounds are grouped
abbrev pub IsHostForHeader : HostForHeaderTree → Type 0
IsHostForHeader c =
    (c.tested.name ≡ c.name.name) × (c.stepped.name ≡ c.name.name) × IsGrouped c.from × IsGrouped c.to

abbrev mutual
  -- a statement of `main` may declare a `const`, and an `else` belongs to the last `if` before it
  pub IsHost : HostTree → Type 0
  IsHost (HostDeclaration v) = IsDeclaration v
  IsHost (HostBlock at ss) = AreHosts ss
  IsHost (HostEmpty at) = Unit {0}
  IsHost (HostAssign a) = IsAssignment a
  IsHost (HostIf at e s) = IsGrouped e × IsHostBody s × IsHost s
  IsHost (HostIfElse at e s t) = IsGrouped e × IsHostBody s × IsHost s × (host_ends_open s ≡ false) × IsHostBody t × IsHost t
  IsHost (HostFor c s) = IsHostForHeader c × IsHostBody s × IsHost s
  IsHost (HostCall c) = IsCall c

  -- the statements of a block of `main`, or of all of it
  pub AreHosts : HostTrees → Type 0
  AreHosts NoHost = Unit {0}
  AreHosts (MoreHost s ss) = IsHost s × AreHosts ss

-- what makes a tree one that a source can have, beside the tokens that it prints
abbrev pub IsProgram : ProgramTree → Type 0
IsProgram p = AreTops p.tops × AreHosts p.main.body
