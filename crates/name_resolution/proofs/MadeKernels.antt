-- Each tree of resolved kernels is that of some kernels, where its lists are as short as those of memory.
use Rattle.std.proofs.Common.{◌≡◌, ℕ, suc, ◌<◌, ◌≤◌, ◌^◌, List, [], ◌∷◌, map, length, refl, ap, ◌∙◌, arith, Box, Vec, Global}
use denote.RawPtr.{null_ptr}
use Rattle.kernel_model.specs.declared.types.expressions.RExpr.{RExpr}
use Rattle.kernel_model.specs.declared.types.expressions.RExpr.TheVariants as e
use Rattle.kernel_model.specs.declared.types.statements.RStmt as stmt
use Rattle.kernel_model.specs.declared.types.statements.RStmt.{RStmt}
use Rattle.kernel_model.specs.declared.types.statements.RStmt.TheVariants as s
use Rattle.kernel_model.specs.declared.types.kernels.RKernel.{RKernel}
use Rattle.kernel_model.specs.declared.types.kernels.Resolved.{Resolved}
use Rattle.kernel_model.specs.View.{RExprTree, Number, Scalar, Constant, Arg, Local, Const, Unary, Binary, Choice, Paren, Extremum, Absolute, RStmtTree, RStmtTrees, Block, Declare, SetScalar, SetLocal, SetArg, If, For, NoStmt, MoreStmt, RKernelTree, ResolvedTree, rexpr_of, rstmt_of, rstmts_of, rkernel_of, resolved_of}
use Rattle.name_resolution.proofs.Steps.{rstmt_block}

-- how many statements there are
abbrev pub rows : RStmtTrees → ℕ
rows NoStmt = 0
rows (MoreStmt x xs) = suc (rows xs)

module _ (most : ℕ) where
  abbrev mutual
    -- no block has more statements
    pub Short : RStmtTree → Type 0
    Short (Block all) = (rows all ≤ most) × ShortAll all
    Short (Declare from count) = Unit {0}
    Short (SetScalar k op op_at v) = Unit {0}
    Short (SetLocal from count f i at op op_at v) = Unit {0}
    Short (SetArg a f i at op op_at v) = Unit {0}
    Short (If c a b) = Short a × Short b
    Short (For k first past body) = Short body

    pub ShortAll : RStmtTrees → Type 0
    ShortAll NoStmt = Unit {0}
    ShortAll (MoreStmt x xs) = Short x × ShortAll xs

  -- nor has the kernel more parameters
  abbrev pub ShortKernel : RKernelTree → Type 0
  ShortKernel k = (length k.param_places ≤ most) × Short k.statement

  abbrev pub ShortKernels : List RKernelTree → Type 0
  ShortKernels [] = Unit {0}
  ShortKernels (k ∷ ks) = ShortKernel k × ShortKernels ks

-- ---- memory

global : Global
global = record { memory = record { seal = tt } }

-- what stands before a value that is boxed
boxed : Box (Unit {0}) Global
boxed = record { ptr = null_ptr; alloc = global; value = tt }

abbrev vector : {X : Type 0} (xs : List X) → length xs < 2 ^ 63 → Vec X Global
vector xs small = record { ptr = null_ptr; len = length xs; cap = length xs; alloc = global; items = xs; ok = (refl, omega arith); small = small }

-- ---- expressions

made_expr : (t : RExprTree) → (x : RExpr) × (rexpr_of x ≡ t)
made_expr (Number n) = (e.Number n, refl)
made_expr (Scalar k) = (e.Scalar k, refl)
made_expr (Constant k) = (e.Constant k, refl)
made_expr (Arg a f i at) = let x = made_expr i in (e.Arg' a f boxed x.0 at, ap (λ z. Arg a f z at) x.1)
made_expr (Local from count f i at) = let x = made_expr i in (e.Local' from count f boxed x.0 at, ap (λ z. Local from count f z at) x.1)
made_expr (Const from count f i at) = let x = made_expr i in (e.Const' from count f boxed x.0 at, ap (λ z. Const from count f z at) x.1)
made_expr (Unary op a) = let x = made_expr a in (e.Unary' op boxed x.0, ap (Unary op) x.1)
made_expr (Binary op a b at) =
    let x = made_expr a in let y = made_expr b in
    (e.Binary' op boxed x.0 boxed y.0 at, ap (λ z. Binary op z (rexpr_of y.0) at) x.1 ∙ ap (λ z. Binary op a z at) y.1)
made_expr (Choice c a b) =
    let w = made_expr c in let x = made_expr a in let y = made_expr b in
    (e.Choice' boxed w.0 boxed x.0 boxed y.0, ap (λ z. Choice z (rexpr_of x.0) (rexpr_of y.0)) w.1 ∙ ap (λ z. Choice c z (rexpr_of y.0)) x.1 ∙ ap (Choice c a) y.1)
made_expr (Paren a) = let x = made_expr a in (e.Paren' boxed x.0, ap Paren x.1)
made_expr (Extremum w a b) =
    let x = made_expr a in let y = made_expr b in
    (e.Extremum' w boxed x.0 boxed y.0, ap (λ z. Extremum w z (rexpr_of y.0)) x.1 ∙ ap (Extremum w a) y.1)
made_expr (Absolute a) = let x = made_expr a in (e.Absolute' boxed x.0, ap Absolute x.1)

-- ---- kernels

module _ (most : ℕ) (fits : most < 2 ^ 63) where
  mutual
    made_stmt : (t : RStmtTree) → Short most t → (x : RStmt) × (rstmt_of x ≡ t)
    made_stmt (Block all) h =
        let xs = made_all all h.1 in
        let small : length xs.0 < 2 ^ 63 = let n = h.0 in let l = xs.2 in omega (arith, n, l, fits) in
        (stmt.Block (vector xs.0 small), rstmt_block (vector xs.0 small) ∙ ap Block xs.1)
    made_stmt (Declare from count) h = (s.Declare from count, refl)
    made_stmt (SetScalar k op op_at v) h = let x = made_expr v in (s.SetScalar k op op_at x.0, ap (SetScalar k op op_at) x.1)
    made_stmt (SetLocal from count f i at op op_at v) h =
        let w = made_expr i in let x = made_expr v in
        (s.SetLocal from count f w.0 at op op_at x.0, ap (λ z. SetLocal from count f z at op op_at (rexpr_of x.0)) w.1 ∙ ap (SetLocal from count f i at op op_at) x.1)
    made_stmt (SetArg a f i at op op_at v) h =
        let w = made_expr i in let x = made_expr v in
        (s.SetArg a f w.0 at op op_at x.0, ap (λ z. SetArg a f z at op op_at (rexpr_of x.0)) w.1 ∙ ap (SetArg a f i at op op_at) x.1)
    made_stmt (If c a b) h =
        let w = made_expr c in let x = made_stmt a h.0 in let y = made_stmt b h.1 in
        (s.If' w.0 boxed x.0 boxed y.0, ap (λ z. If z (rstmt_of x.0) (rstmt_of y.0)) w.1 ∙ ap (λ z. If c z (rstmt_of y.0)) x.1 ∙ ap (If c a) y.1)
    made_stmt (For k first past body) h = let x = made_stmt body h in (s.For' k first past boxed x.0, ap (For k first past) x.1)

    made_all : (ts : RStmtTrees) → ShortAll most ts → (xs : List RStmt) × (rstmts_of xs ≡ ts) × (length xs ≡ rows ts)
    made_all NoStmt h = ([], refl, refl)
    made_all (MoreStmt t ts) h =
        let x = made_stmt t h.0 in let xs = made_all ts h.1 in
        (x.0 ∷ xs.0, ap (λ z. MoreStmt z (rstmts_of xs.0)) x.1 ∙ ap (MoreStmt t) xs.1, ap suc xs.2)

  made_kernel : (t : RKernelTree) → ShortKernel most t → (k : RKernel) × (rkernel_of k ≡ t)
  made_kernel t h =
      let x = made_stmt t.statement h.1 in
      let small : length t.param_places < 2 ^ 63 = let n = h.0 in omega (arith, n, fits) in (
        record { name = t.name; params = t.params; scratch = t.scratch; body = record { param_places = vector t.param_places small; statement = x.0 } },
        ap (λ z. record t { statement = z }) x.1,
      )

  made_kernels : (ts : List RKernelTree) → ShortKernels most ts → (ks : List RKernel) × (map rkernel_of ks ≡ ts) × (length ks ≡ length ts)
  made_kernels [] h = ([], refl, refl)
  made_kernels (t ∷ ts) h =
      let k = made_kernel t h.0 in let ks = made_kernels ts h.1 in
      (k.0 ∷ ks.0, ap (λ z. z ∷ map rkernel_of ks.0) k.1 ∙ ap (λ z. t ∷ z) ks.1, ap suc ks.2)

  pub made : (t : ResolvedTree) → ShortKernels most t.kernels → length t.kernels ≤ most → length t.consts ≤ most → (r : Resolved) × (resolved_of r ≡ t)
  made t h few few_consts =
      let ks = made_kernels t.kernels h in
      let small : length ks.0 < 2 ^ 63 = let l = ks.2 in omega (arith, few, l, fits) in
      let small_consts : length t.consts < 2 ^ 63 = omega (arith, few_consts, fits) in
      (record { kernels = vector ks.0 small; consts = vector t.consts small_consts }, ap (λ z. record t { kernels = z }) ks.1)
