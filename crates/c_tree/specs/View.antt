-- A tree of the program as a tree without where it lies in memory.
use Rattle.std.specs.Prelude.{List, [], ◌∷◌, map}
use Rattle.c_tree.specs.Tree as tree
use Rattle.c_tree.specs.Tree.{ExprTree, DeclrTree, DeclarationTree, PlaceTree, AssignmentTree, StmtTree, StmtTrees, KernelTree, TopTree, HostForHeaderTree, OpCallTree, HostTree, HostTrees, MainTree, ProgramTree}
use Rattle.c_tree.specs.declared.expressions.Expr.{Expr}
use Rattle.c_tree.specs.declared.expressions.Expr.TheVariants as e
use Rattle.c_tree.specs.declared.declarations.Declr.{Declr}
use Rattle.c_tree.specs.declared.declarations.Declr.TheVariants as d
use Rattle.c_tree.specs.declared.declarations.Declaration.{Declaration}
use Rattle.c_tree.specs.declared.declarations.Place.{Place}
use Rattle.c_tree.specs.declared.declarations.Place.TheVariants as p
use Rattle.c_tree.specs.declared.declarations.Assignment.{Assignment}
use Rattle.c_tree.specs.declared.kernels.Stmt.{Stmt, Row_of-Stmt, end_of-Stmt, more_of-Stmt}
use Rattle.c_tree.specs.declared.kernels.Stmt.TheVariants as s
use Rattle.c_tree.specs.declared.kernels.Kernel.{Kernel}
use Rattle.c_tree.specs.declared.programs.Top.{Top}
use Rattle.c_tree.specs.declared.programs.Top.TheVariants as t
use Rattle.c_tree.specs.declared.hosts.HostForHeader.{HostForHeader}
use Rattle.c_tree.specs.declared.hosts.OpCall.{OpCall}
use Rattle.c_tree.specs.declared.hosts.OpCall.TheVariants as c
use Rattle.c_tree.specs.declared.hosts.Host.{Host, Row_of-Host, end_of-Host, more_of-Host}
use Rattle.c_tree.specs.declared.hosts.Host.TheVariants as h
use Rattle.c_tree.specs.declared.programs.Main.{Main}
use Rattle.c_tree.specs.declared.programs.Program.{Program}

-- the tree of an expression
abbrev pub expr_of : Expr → ExprTree
expr_of (e.Number n) = tree.Number n
expr_of (e.Name x) = tree.Name x
expr_of (e.Index' x a i) = tree.Index x (expr_of i)
expr_of (e.Deref at x) = tree.Deref at x
expr_of (e.Unary' op at a x) = tree.Unary op at (expr_of x)
expr_of (e.Binary' op at a l b r) = tree.Binary op at (expr_of l) (expr_of r)
expr_of (e.Choice' at a x b y c z) = tree.Choice at (expr_of x) (expr_of y) (expr_of z)
expr_of (e.Paren' at a x) = tree.Paren at (expr_of x)
expr_of (e.Extremum' w at a x b y) = tree.Extremum w at (expr_of x) (expr_of y)
expr_of (e.Absolute' at a x) = tree.Absolute at (expr_of x)

-- the tree of a declared variable
abbrev pub declr_of : Declr → DeclrTree
declr_of (d.Plain x) = tree.Plain x
declr_of (d.Init x v) = tree.Init x (expr_of v)
declr_of (d.Array x n) = tree.Array x n

-- the tree of a declaration
abbrev pub declaration_of : Declaration → DeclarationTree
declaration_of v = record { is_const = v.is_const; at = v.at; declrs = map declr_of v.declrs.items }

-- the tree of an assignment's target
abbrev pub place_of : Place → PlaceTree
place_of (p.Name x) = tree.Scalar x
place_of (p.Index x i) = tree.Element x (expr_of i)
place_of (p.Deref at x) = tree.Target at x

-- the tree of an assignment
abbrev pub assignment_of : Assignment → AssignmentTree
assignment_of a = record { place = place_of a.place; op = a.op; at = a.at; value = expr_of a.value }

abbrev mutual
  -- the tree of a kernel's statement
  pub stmt_of : Stmt → StmtTree
  stmt_of (s.Declaration v) = tree.LocalDeclaration (declaration_of v)
  stmt_of (s.Block' at shape row) = tree.Block at (stmts_of_row row)
  stmt_of (s.Empty at) = tree.Empty at
  stmt_of (s.Assign a) = tree.Assign (assignment_of a)
  stmt_of (s.If' at x a y) = tree.If at (expr_of x) (stmt_of y)
  stmt_of (s.IfElse' at x a y b z) = tree.IfElse at (expr_of x) (stmt_of y) (stmt_of z)
  stmt_of (s.For' k a y) = tree.For k (stmt_of y)

  -- the trees of a block's statements
  pub stmts_of_row : {m : _} → Row_of-Stmt m → StmtTrees
  stmts_of_row end_of-Stmt = tree.NoStmt
  stmts_of_row (more_of-Stmt x rest) = tree.MoreStmt (stmt_of x) (stmts_of_row rest)

-- the trees of a kernel's statements
abbrev pub stmts_of : List Stmt → StmtTrees
stmts_of [] = tree.NoStmt
stmts_of (x ∷ xs) = tree.MoreStmt (stmt_of x) (stmts_of xs)

-- the tree of a kernel
abbrev pub kernel_of : Kernel → KernelTree
kernel_of f = record {
  is_static = f.is_static;
  is_inline = f.is_inline;
  name = f.name;
  params = f.params.items;
  body = stmts_of f.body.items;
}

-- the tree of a part of the file before `main`
abbrev pub top_of : Top → TopTree
top_of (t.Extern x) = tree.Extern x
top_of (t.ExternArray x) = tree.ExternArray x
top_of (t.Declaration v) = tree.FileDeclaration (declaration_of v)
top_of (t.Kernel f) = tree.Kernel (kernel_of f)

-- the tree of the head of a `for` of `main`
abbrev pub host_for_header_of : HostForHeader → HostForHeaderTree
host_for_header_of k = record {
  at = k.at;
  name = k.name;
  from = expr_of k.from;
  tested = k.tested;
  to = expr_of k.to;
  stepped = k.stepped;
}

-- the tree of a call of the OP2 library
abbrev pub call_of : OpCall → OpCallTree
call_of (c.Init at n) = tree.CallInit at n
call_of (c.DeclSet at x v l) = tree.DeclSet at x (expr_of v) l
call_of (c.DeclMap at x from to n v l) = tree.DeclMap at x from to n v l
call_of (c.DeclDat at x on n u v l) = tree.DeclDat at x on n u v l
call_of (c.DeclConst at n l g) = tree.DeclConst at n l g
call_of (c.ParLoop at f l on xs) = tree.ParLoop at f l on xs.items
call_of (c.Printf at l xs) = tree.Printf at l (map expr_of xs.items)
call_of (c.PrintDat at x l) = tree.PrintDat at x l

abbrev mutual
  -- the tree of a statement of `main`
  pub host_of : Host → HostTree
  host_of (h.Declaration v) = tree.HostDeclaration (declaration_of v)
  host_of (h.Block' at shape row) = tree.HostBlock at (hosts_of_row row)
  host_of (h.Empty at) = tree.HostEmpty at
  host_of (h.Assign a) = tree.HostAssign (assignment_of a)
  host_of (h.If' at x a y) = tree.HostIf at (expr_of x) (host_of y)
  host_of (h.IfElse' at x a y b z) = tree.HostIfElse at (expr_of x) (host_of y) (host_of z)
  host_of (h.For' k a y) = tree.HostFor (host_for_header_of k) (host_of y)
  host_of (h.Call x) = tree.HostCall (call_of x)

  -- the trees of the statements of a block of `main`
  pub hosts_of_row : {m : _} → Row_of-Host m → HostTrees
  hosts_of_row end_of-Host = tree.NoHost
  hosts_of_row (more_of-Host x rest) = tree.MoreHost (host_of x) (hosts_of_row rest)

-- the trees of the statements of `main`
abbrev pub hosts_of : List Host → HostTrees
hosts_of [] = tree.NoHost
hosts_of (x ∷ xs) = tree.MoreHost (host_of x) (hosts_of xs)

-- the tree of `main`
abbrev pub main_of : Main → MainTree
main_of m = record {
  at = m.at;
  argv_has_brackets = m.argv_has_brackets;
  body = hosts_of m.body.items;
  exit_at = m.exit_at;
  returned = m.returned;
}

-- the tree of a source
abbrev pub program_of : Program → ProgramTree
program_of x = record { tops = map top_of x.tops.items; main = main_of x.main; places = x.places.items }
