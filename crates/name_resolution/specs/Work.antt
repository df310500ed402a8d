-- The work that a kernel does at most, and the cells of its locals.
use Rattle.std.specs.Prelude.{ℕ, ◌+◌, ◌*◌, ◌-◌, max, min, Bool, ◌||◌, ℤ, pos, negsuc, nat_lt, List, [], ◌∷◌, length}
use Rattle.c_tree.specs.declared.expressions.NumberLiteral.{NumberLiteral}
use Rattle.c_tree.specs.declared.kernels.ForHeader.{ForHeader}
use Rattle.c_tree.specs.Tree.{DeclrTree, Plain, Init, Array, StmtTree, LocalDeclaration, Block, Empty, Assign, If, IfElse, For, StmtTrees, NoStmt, MoreStmt, KernelTree}

-- the number that a literal spells
abbrev pub nat_of : ℤ → ℕ
nat_of (pos n) = n
nat_of (negsuc n) = 0

-- the number of cells that a literal gives an array, and the bound that it gives a `for`
abbrev pub size_of : NumberLiteral → ℕ
size_of n = nat_of n.value

-- how often the body of a `for` is run
abbrev pub turns : ForHeader → ℕ
turns h = size_of h.to - size_of h.from

-- 1 for each simple statement and declarator that is run, at most; an `if` and each turn of a `for` count 1 more
abbrev mutual
  -- of a statement
  pub work : StmtTree → ℕ
  work (LocalDeclaration v) = length v.declrs
  work (Block at ss) = work_of_all ss
  work (Empty at) = 1
  work (Assign a) = 1
  work (If at e s) = 1 + work s
  work (IfElse at e s t) = 1 + max (work s) (work t)
  work (For h s) = 1 + turns h * (1 + work s)

  -- of statements
  pub work_of_all : StmtTrees → ℕ
  work_of_all NoStmt = 0
  work_of_all (MoreStmt s ss) = work s + work_of_all ss

-- 1 for a variable, and for an array its number of cells
abbrev pub declr_cells : DeclrTree → ℕ
declr_cells (Plain x) = 1
declr_cells (Init x e) = 1
declr_cells (Array x n) = size_of n

-- the sum of the cells of declarators
abbrev pub declrs_cells : List DeclrTree → ℕ
declrs_cells [] = 0
declrs_cells (d ∷ ds) = declr_cells d + declrs_cells ds

-- 1 for each variable and each counter, and for an array its number of cells, over all blocks
abbrev mutual
  -- of a statement
  pub cells : StmtTree → ℕ
  cells (LocalDeclaration v) = declrs_cells v.declrs
  cells (Block at ss) = cells_of_all ss
  cells (Empty at) = 0
  cells (Assign a) = 0
  cells (If at e s) = cells s
  cells (IfElse at e s t) = cells s + cells t
  cells (For h s) = 1 + cells s

  -- of statements
  pub cells_of_all : StmtTrees → ℕ
  cells_of_all NoStmt = 0
  cells_of_all (MoreStmt s ss) = cells s + cells_of_all ss

-- whether a kernel does too much work or has too many cells
abbrev pub is_heavy : KernelTree → Bool
is_heavy f = nat_lt 1048576 (work_of_all f.body) || nat_lt 1024 (cells_of_all f.body)

-- The first cell behind so many others from `next` on. A kernel of more than 1,024 is refused, and cells beyond them have no
-- numbers of their own.
abbrev pub behind : ℕ → ℕ → ℕ
behind next count = min 1024 (next + count)
