-- What statements of kernels that break no rule name is there.
use Rattle.std.proofs.Common.{◌≡◌, ℕ, ◌+◌, ◌≤◌, Bool, true, false, List, [], ◌∷◌, ◌++◌, refl, arith}
use Rattle.c_tree.specs.declared.lexer.tokens.Pos.{Pos}
use Rattle.c_tree.specs.declared.kernels.ForHeader.{ForHeader}
use Rattle.c_tree.specs.Tree as tree
use Rattle.c_tree.specs.Tree.{DeclrTree, StmtTree, StmtTrees}
use Rattle.name_resolution.specs.declared.decls.Sort.{Sort}
use Rattle.name_resolution.specs.declared.decls.Sort.TheVariants as sort
use Rattle.name_resolution.specs.Scopes.{Names, scope, repeated}
use Rattle.name_resolution.specs.Work.{size_of, declr_cells, declrs_cells, cells, cells_of_all, behind}
use Rattle.name_resolution.specs.Kernels.{expr_breaches, place_breaches, after_declr, after_declrs, after_stmt, with_counter, declr_breaches, declrs_breaches, stmt_breaches, stmts_breaches, declr_step, declrs_steps, step, steps}
use Rattle.name_resolution.proofs.Trees.{StmtIn, RowIn}
use Rattle.name_resolution.proofs.Fits.{AllAre, Fit, FitAs, declared_are, all_as, none_of_both}
use Rattle.name_resolution.proofs.ExprsWithin.{expr_in, assigned_in}

-- ---- what fits below n fits below more

fit_up : (p q n m c d : ℕ) → p ≤ q → n ≤ m → c ≤ d → (s : Sort) (f k : Bool) (from count : ℕ) → FitAs p n c s f k from count → FitAs q m d s f k from count
fit_up p q n m c d u l v sort.Extern f k from count h = tt
fit_up p q n m c d u l v sort.ExternArray f k from count h = tt
fit_up p q n m c d u l v sort.Kernel f k from count h = tt
fit_up p q n m c d u l v sort.Set f k from count h = tt
fit_up p q n m c d u l v sort.Map f k from count h = tt
fit_up p q n m c d u l v sort.Dat f k from count h = tt
fit_up p q n m c d u l v sort.Scalar false k from count h = omega arith
fit_up p q n m c d u l v sort.Scalar true k from count h = λ e. let b = h e in omega arith
fit_up p q n m c d u l v sort.Array false k from count h = omega arith
fit_up p q n m c d u l v sort.Array true k from count h = λ e. let b = h e in omega arith
fit_up p q n m c d u l v sort.Param f k from count h = omega arith
fit_up p q n m c d u l v sort.Counter f k from count h = (h.0, omega (arith, h.1))

pub all_wide : (p q n m c d : ℕ) → p ≤ q → n ≤ m → c ≤ d → (own : Names) → AllAre (Fit p n c) own → AllAre (Fit q m d) own
all_wide p q n m c d u l v own h =
    all_as (Fit p n c) (Fit q m d) (λ x w. fit_up p q n m c d u l v x.sort x.of_file x.is_constant x.from x.count w) own h

pub all_up : (p n m c : ℕ) → n ≤ m → (own : Names) → AllAre (Fit p n c) own → AllAre (Fit p m c) own
all_up p n m c l own h = all_wide p p n m c c (omega arith) l (omega arith) own h

-- ---- names behind statements

module _ (p c : ℕ) where
  pub declr_fits : (own : Names) (next : ℕ) (d : DeclrTree) → next + declr_cells d ≤ 1024 → AllAre (Fit p next c) own → AllAre (Fit p (behind next (declr_cells d)) c) (after_declr own next d)
  declr_fits own next (tree.Plain x) l h =
      declared_are (Fit p (behind next 1) c) x.name _ own (all_up p next (behind next 1) c (omega arith) own h) (omega arith)
  declr_fits own next (tree.Init x e) l h =
      declared_are (Fit p (behind next 1) c) x.name _ own (all_up p next (behind next 1) c (omega arith) own h) (omega arith)
  declr_fits own next (tree.Array x n) l h =
      declared_are (Fit p (behind next (size_of n)) c) x.name _ own (all_up p next (behind next (size_of n)) c (omega arith) own h) (omega arith)

  pub declrs_fit : (own : Names) (next : ℕ) (ds : List DeclrTree) → next + declrs_cells ds ≤ 1024 → AllAre (Fit p next c) own
      → AllAre (Fit p (behind next (declrs_cells ds)) c) (after_declrs own next ds)
  declrs_fit own next [] l h = all_up p next (behind next 0) c (omega arith) own h
  declrs_fit own next (d ∷ ds) l h =
      let low : next + declr_cells d ≤ 1024 = omega arith in
      all_up p (behind (behind next (declr_cells d)) (declrs_cells ds)) (behind next (declr_cells d + declrs_cells ds)) c (omega arith) _
      (declrs_fit (after_declr own next d) (behind next (declr_cells d)) ds (omega arith) (declr_fits own next d low h))

  pub stmt_fits : (own : Names) (next : ℕ) (x : StmtTree) → next + cells x ≤ 1024 → AllAre (Fit p next c) own → AllAre (Fit p (behind next (cells x)) c) (after_stmt own next x)
  stmt_fits own next (tree.LocalDeclaration v) l h = declrs_fit own next v.declrs l h
  stmt_fits own next (tree.Block at ss) l h = all_up p next (behind next (cells_of_all ss)) c (omega arith) own h
  stmt_fits own next (tree.Empty at) l h = all_up p next (behind next 0) c (omega arith) own h
  stmt_fits own next (tree.Assign a) l h = all_up p next (behind next 0) c (omega arith) own h
  stmt_fits own next (tree.If at e x) l h = all_up p next (behind next (cells x)) c (omega arith) own h
  stmt_fits own next (tree.IfElse at e x y) l h = all_up p next (behind next (cells x + cells y)) c (omega arith) own h
  stmt_fits own next (tree.For g x) l h = all_up p next (behind next (1 + cells x)) c (omega arith) own h

  pub counter_fits : (own : Names) (next : ℕ) (g : ForHeader) → next + 1 ≤ 1024 → AllAre (Fit p next c) own → AllAre (Fit p (behind next 1) c) (with_counter own next g)
  counter_fits own next g l h =
      declared_are (Fit p (behind next 1) c) g.name.name _ own (all_up p next (behind next 1) c (omega arith) own h) (refl, omega arith)

-- ---- what they name

module _ (p n c : ℕ) (low : n ≤ 1024) (places : List Pos) (file : Names) (file_fits : AllAre (Fit p n c) file) where
  declr_in : (own : Names) (next : ℕ) (d : DeclrTree) → next + declr_cells d ≤ n → AllAre (Fit p next c) own → declr_breaches file own d ≡ [] → StmtIn p n c (declr_step places file own next d)
  declr_in own next (tree.Plain x) l h e = l
  declr_in own next (tree.Init x v) l h e =
      let b = none_of_both (expr_breaches true (scope file own) v) (repeated x own) e in
      (omega arith, expr_in p n c places (scope file own) file_fits (all_up p next n c (omega arith) own h) v b.0)
  declr_in own next (tree.Array x m) l h e = l

  declrs_in : (own : Names) (next : ℕ) (ds : List DeclrTree) → next + declrs_cells ds ≤ n → AllAre (Fit p next c) own
      → declrs_breaches file own next ds ≡ [] → RowIn p n c (declrs_steps places file own next ds)
  declrs_in own next [] l h e = tt
  declrs_in own next (d ∷ ds) l h e =
      let b = none_of_both (declr_breaches file own d) (declrs_breaches file (after_declr own next d) (behind next (declr_cells d)) ds) e in
      (declr_in own next d (omega arith) h b.0, declrs_in (after_declr own next d) (behind next (declr_cells d)) ds (omega arith) (declr_fits p c own next d (omega arith) h) b.1)

  mutual
    pub stmt_in : (own : Names) (next : ℕ) (x : StmtTree) → next + cells x ≤ n → AllAre (Fit p next c) own → stmt_breaches file own next x ≡ [] → StmtIn p n c (step places file own next x)
    stmt_in own next (tree.LocalDeclaration v) l h e = declrs_in own next v.declrs l h e
    stmt_in own next (tree.Block at ss) l h e = stmts_in own next ss l h e
    stmt_in own next (tree.Empty at) l h e = tt
    stmt_in own next (tree.Assign a) l h e =
        let b = none_of_both (place_breaches true (scope file own) false a.place) (expr_breaches true (scope file own) a.value) e in
        assigned_in p n c places (scope file own) file_fits (all_up p next n c (omega arith) own h) a a.place b.0 b.1
    stmt_in own next (tree.If at v x) l h e =
        let b = none_of_both (expr_breaches true (scope file own) v) (stmt_breaches file own next x) e in
        (expr_in p n c places (scope file own) file_fits (all_up p next n c (omega arith) own h) v b.0, stmt_in own next x l h b.1, tt)
    stmt_in own next (tree.IfElse at v x y) l h e =
        let b = none_of_both (expr_breaches true (scope file own) v) (stmt_breaches file own next x ++ stmt_breaches file own (behind next (cells x)) y) e in
        let d = none_of_both (stmt_breaches file own next x) (stmt_breaches file own (behind next (cells x)) y) b.1 in (
          expr_in p n c places (scope file own) file_fits (all_up p next n c (omega arith) own h) v b.0,
          stmt_in own next x (omega arith) h d.0,
          stmt_in own (behind next (cells x)) y (omega arith)
              (all_up p next (behind next (cells x)) c (omega arith) own h) d.1,
        )
    stmt_in own next (tree.For g x) l h e =
        let b = none_of_both (repeated g.name own) (stmt_breaches file (with_counter own next g) (behind next 1) x) e in
        (omega arith, stmt_in (with_counter own next g) (behind next 1) x (omega arith) (counter_fits p c own next g (omega arith) h) b.1)

    pub stmts_in : (own : Names) (next : ℕ) (ss : StmtTrees) → next + cells_of_all ss ≤ n → AllAre (Fit p next c) own
        → stmts_breaches file own next ss ≡ [] → RowIn p n c (steps places file own next ss)
    stmts_in own next tree.NoStmt l h e = tt
    stmts_in own next (tree.MoreStmt x xs) l h e =
        let b = none_of_both (stmt_breaches file own next x) (stmts_breaches file (after_stmt own next x) (behind next (cells x)) xs) e in
        (stmt_in own next x (omega arith) h b.0, stmts_in (after_stmt own next x) (behind next (cells x)) xs (omega arith) (stmt_fits p c own next x (omega arith) h) b.1)
