-- No statement of a kernel that breaks no rule stores to the counter of a `for` in its body.
use Rattle.std.proofs.Common.{◌≡◌, ◌≢◌, ℕ, ◌+◌, ◌≤◌, Bool, true, false, List, [], ◌∷◌, ◌++◌, arith}
use Rattle.c_tree.specs.declared.lexer.tokens.Pos.{Pos}
use Rattle.c_tree.specs.declared.declarations.AssignOp.{AssignOp}
use Rattle.c_tree.specs.Tree as tree
use Rattle.c_tree.specs.Tree.{DeclrTree, PlaceTree, AssignmentTree, StmtTree, StmtTrees}
use Rattle.kernel_model.specs.declared.types.expressions.ElementForm.{ElementForm}
use Rattle.name_resolution.specs.declared.decls.Sort.{Sort}
use Rattle.name_resolution.specs.declared.decls.Sort.TheVariants as sort
use Rattle.name_resolution.specs.declared.decls.Decl.{Decl}
use Rattle.name_resolution.specs.Scopes.{Names, Scope, scope, means, decl_or, repeated}
use Rattle.name_resolution.specs.Work.{size_of, declr_cells, cells, cells_of_all, behind}
use Rattle.name_resolution.specs.Kernels.{set_element, assigned, expr_breaches, place_breaches, after_declr, after_declrs, after_stmt, with_counter, stmt_breaches, stmts_breaches, declr_step, declrs_steps, step, steps}
use Rattle.kernel_model.specs.View.{RExprTree}
use Rattle.name_resolution.proofs.Trees.{StoresIn, RowStoresIn, CountersIn, RowCountersIn}
use Rattle.name_resolution.proofs.Fits.{mk, AllAre, Fit, FitAs, declared_are, all_as, none_of_both}
use Rattle.name_resolution.proofs.ExprsWithin.{MayAs, May, assigned_stores}
use Rattle.name_resolution.proofs.Within.{all_up, stmt_fits, counter_fits}

abbrev pub IsOfFile : Decl → Type 0
IsOfFile d = d.of_file ≡ true

-- no name of the file is stored to
file_may : (may : ℕ → Type 0) (s : Sort) (f : Bool) (from count : ℕ) → f ≡ true → MayAs may s f from count
file_may may sort.Extern f from count e = tt
file_may may sort.ExternArray f from count e = tt
file_may may sort.Kernel f from count e = tt
file_may may sort.Set f from count e = tt
file_may may sort.Map f from count e = tt
file_may may sort.Dat f from count e = tt
file_may may sort.Scalar true from count e = tt
file_may may sort.Scalar false from count e = cc
file_may may sort.Array true from count e = tt
file_may may sort.Array false from count e = cc
file_may may sort.Param f from count e = tt
file_may may sort.Counter f from count e = tt

-- what is declared before the cell n isn't there
fit_apart : (p n c : ℕ) (s : Sort) (f k : Bool) (from count : ℕ) → FitAs p n c s f k from count → MayAs (λ j. j ≢ n) s f from count
fit_apart p n c sort.Extern f k from count h = tt
fit_apart p n c sort.ExternArray f k from count h = tt
fit_apart p n c sort.Kernel f k from count h = tt
fit_apart p n c sort.Set f k from count h = tt
fit_apart p n c sort.Map f k from count h = tt
fit_apart p n c sort.Dat f k from count h = tt
fit_apart p n c sort.Scalar false k from count h = omega arith
fit_apart p n c sort.Scalar true k from count h = tt
fit_apart p n c sort.Array false k from count h = λ j a b. omega arith
fit_apart p n c sort.Array true k from count h = tt
fit_apart p n c sort.Param f k from count h = tt
fit_apart p n c sort.Counter f k from count h = tt

-- ---- the cells that statements store to

-- each cell from here on may be stored to
abbrev From : (ℕ → Type 0) → ℕ → Type 0
From may next = (j : ℕ) → next ≤ j → may j

from_behind : (may : ℕ → Type 0) (next count : ℕ) → next ≤ 1024 → From may next → From may (behind next count)
from_behind may next count l m j h = m j (omega arith)

module _ (may : ℕ → Type 0) (places : List Pos) (file : Names) (file_may : AllAre (May may) file) where
  declr_may : (own : Names) (next : ℕ) (d : DeclrTree) → From may next → AllAre (May may) own → AllAre (May may) (after_declr own next d)
  declr_may own next (tree.Plain x) m h = declared_are (May may) x.name _ own h (m next (omega arith))
  declr_may own next (tree.Init x e) m h = declared_are (May may) x.name _ own h (m next (omega arith))
  declr_may own next (tree.Array x n) m h = declared_are (May may) x.name _ own h (λ j a b. m j a)

  declrs_may : (own : Names) (next : ℕ) (ds : List DeclrTree) → next ≤ 1024 → From may next → AllAre (May may) own → AllAre (May may) (after_declrs own next ds)
  declrs_may own next [] l m h = h
  declrs_may own next (d ∷ ds) l m h =
      declrs_may (after_declr own next d) (behind next (declr_cells d)) ds (omega arith) (from_behind may next (declr_cells d) l m) (declr_may own next d m h)

  stmt_may : (own : Names) (next : ℕ) (x : StmtTree) → next ≤ 1024 → From may next → AllAre (May may) own → AllAre (May may) (after_stmt own next x)
  stmt_may own next (tree.LocalDeclaration v) l m h = declrs_may own next v.declrs l m h
  stmt_may own next (tree.Block at ss) l m h = h
  stmt_may own next (tree.Empty at) l m h = h
  stmt_may own next (tree.Assign a) l m h = h
  stmt_may own next (tree.If at e x) l m h = h
  stmt_may own next (tree.IfElse at e x y) l m h = h
  stmt_may own next (tree.For g x) l m h = h

  declr_stores : (own : Names) (next : ℕ) (d : DeclrTree) → From may next → StoresIn may (declr_step places file own next d)
  declr_stores own next (tree.Plain x) m = λ j a b. m j a
  declr_stores own next (tree.Init x e) m = m next (omega arith)
  declr_stores own next (tree.Array x n) m = λ j a b. m j a

  declrs_store : (own : Names) (next : ℕ) (ds : List DeclrTree) → next ≤ 1024 → From may next → RowStoresIn may (declrs_steps places file own next ds)
  declrs_store own next [] l m = tt
  declrs_store own next (d ∷ ds) l m =
      (declr_stores own next d m, declrs_store (after_declr own next d) (behind next (declr_cells d)) ds (omega arith) (from_behind may next (declr_cells d) l m))

  mutual
    pub stmt_stores : (own : Names) (next : ℕ) (x : StmtTree) → next ≤ 1024 → From may next → AllAre (May may) own → stmt_breaches file own next x ≡ [] → StoresIn may (step places file own next x)
    stmt_stores own next (tree.LocalDeclaration v) l m h e = declrs_store own next v.declrs l m
    stmt_stores own next (tree.Block at ss) l m h e = stmts_store own next ss l m h e
    stmt_stores own next (tree.Empty at) l m h e = tt
    stmt_stores own next (tree.Assign a) l m h e =
        let b = none_of_both (place_breaches true (scope file own) false a.place) (expr_breaches true (scope file own) a.value) e in
        assigned_stores may places (scope file own) file_may h a a.place b.0
    stmt_stores own next (tree.If at v x) l m h e =
        let b = none_of_both (expr_breaches true (scope file own) v) (stmt_breaches file own next x) e in
        (stmt_stores own next x l m h b.1, tt)
    stmt_stores own next (tree.IfElse at v x y) l m h e =
        let b = none_of_both (expr_breaches true (scope file own) v) (stmt_breaches file own next x ++ stmt_breaches file own (behind next (cells x)) y) e in
        let d = none_of_both (stmt_breaches file own next x) (stmt_breaches file own (behind next (cells x)) y) b.1 in
        (stmt_stores own next x l m h d.0, stmt_stores own (behind next (cells x)) y (omega arith) (from_behind may next (cells x) l m) h d.1)
    stmt_stores own next (tree.For g x) l m h e =
        let b = none_of_both (repeated g.name own) (stmt_breaches file (with_counter own next g) (behind next 1) x) e in
        (m next (omega arith), stmt_stores (with_counter own next g) (behind next 1) x (omega arith) (from_behind may next 1 l m) (declared_are (May may) g.name.name _ own h tt) b.1)

    pub stmts_store : (own : Names) (next : ℕ) (ss : StmtTrees) → next ≤ 1024 → From may next → AllAre (May may) own
        → stmts_breaches file own next ss ≡ [] → RowStoresIn may (steps places file own next ss)
    stmts_store own next tree.NoStmt l m h e = tt
    stmts_store own next (tree.MoreStmt x xs) l m h e =
        let b = none_of_both (stmt_breaches file own next x) (stmts_breaches file (after_stmt own next x) (behind next (cells x)) xs) e in
        (stmt_stores own next x l m h b.0, stmts_store (after_stmt own next x) (behind next (cells x)) xs (omega arith) (from_behind may next (cells x) l m) (stmt_may own next x l m h) b.1)

-- ---- counters

set_counts : (d : Decl) (f : ElementForm) (i : RExprTree) (at : Pos) (op : AssignOp) (op_at : Pos) (v : RExprTree) → CountersIn (set_element d f i at op op_at v)
set_counts d f i at op op_at v = by d.at d.sort d.is_const d.of_file d.is_constant d.from d.count
  where
    by : (a : ℕ) (s : Sort) (k0 g k : Bool) (from count : ℕ) → CountersIn (set_element (mk a s k0 g k from count) f i at op op_at v)
    by a sort.Param k0 g k from count = tt
    by a sort.Extern k0 g k from count = tt
    by a sort.ExternArray k0 g k from count = tt
    by a sort.Kernel k0 g k from count = tt
    by a sort.Set k0 g k from count = tt
    by a sort.Map k0 g k from count = tt
    by a sort.Dat k0 g k from count = tt
    by a sort.Scalar k0 g k from count = tt
    by a sort.Array k0 g k from count = tt
    by a sort.Counter k0 g k from count = tt

assigned_counts : (places : List Pos) (s : Scope) (a : AssignmentTree) (x : PlaceTree) → CountersIn (assigned places s a x)
assigned_counts places s a (tree.Scalar x) = tt
assigned_counts places s a (tree.Element x e) = set_counts (decl_or (means s x.name)) _ _ _ _ _ _
assigned_counts places s a (tree.Target at x) = set_counts (decl_or (means s x.name)) _ _ _ _ _ _

module _ (p c : ℕ) (places : List Pos) (file : Names) (of_file : AllAre IsOfFile file) where
  declrs_count : (own : Names) (next : ℕ) (ds : List DeclrTree) → RowCountersIn (declrs_steps places file own next ds)
  declrs_count own next [] = tt
  declrs_count own next (tree.Plain x ∷ ds) = (tt, declrs_count (after_declr own next (tree.Plain x)) (behind next 1) ds)
  declrs_count own next (tree.Init x e ∷ ds) = (tt, declrs_count (after_declr own next (tree.Init x e)) (behind next 1) ds)
  declrs_count own next (tree.Array x n ∷ ds) = (tt, declrs_count (after_declr own next (tree.Array x n)) (behind next (size_of n)) ds)

  mutual
    pub stmt_counts : (own : Names) (next : ℕ) (x : StmtTree) → next + cells x ≤ 1024 → AllAre (Fit p next c) own → stmt_breaches file own next x ≡ [] → CountersIn (step places file own next x)
    stmt_counts own next (tree.LocalDeclaration v) l h e = declrs_count own next v.declrs
    stmt_counts own next (tree.Block at ss) l h e = stmts_count own next ss l h e
    stmt_counts own next (tree.Empty at) l h e = tt
    stmt_counts own next (tree.Assign a) l h e = assigned_counts places (scope file own) a a.place
    stmt_counts own next (tree.If at v x) l h e =
        let b = none_of_both (expr_breaches true (scope file own) v) (stmt_breaches file own next x) e in
        (stmt_counts own next x l h b.1, tt)
    stmt_counts own next (tree.IfElse at v x y) l h e =
        let b = none_of_both (expr_breaches true (scope file own) v) (stmt_breaches file own next x ++ stmt_breaches file own (behind next (cells x)) y) e in
        let d = none_of_both (stmt_breaches file own next x) (stmt_breaches file own (behind next (cells x)) y) b.1 in
        (stmt_counts own next x (omega arith) h d.0, stmt_counts own (behind next (cells x)) y (omega arith) (all_up p next (behind next (cells x)) c (omega arith) own h) d.1)
    stmt_counts own next (tree.For g x) l h e =
        let b = none_of_both (repeated g.name own) (stmt_breaches file (with_counter own next g) (behind next 1) x) e in
        let apart : AllAre (May (λ j. j ≢ next)) own = all_as (Fit p next c) (May (λ j. j ≢ next)) (λ d u. fit_apart p next c d.sort d.of_file d.is_constant d.from d.count u) own h in
        let of_none : AllAre (May (λ j. j ≢ next)) file = all_as IsOfFile (May (λ j. j ≢ next)) (λ d u. file_may (λ j. j ≢ next) d.sort d.of_file d.from d.count u) file of_file in (
          stmt_stores (λ j. j ≢ next) places file of_none (with_counter own next g) (behind next 1) x (omega arith) (λ j a. omega arith)
              (declared_are (May (λ j. j ≢ next)) g.name.name _ own apart tt) b.1,
          stmt_counts (with_counter own next g) (behind next 1) x (omega arith) (counter_fits p c own next g (omega arith) h) b.1,
        )

    pub stmts_count : (own : Names) (next : ℕ) (ss : StmtTrees) → next + cells_of_all ss ≤ 1024 → AllAre (Fit p next c) own
        → stmts_breaches file own next ss ≡ [] → RowCountersIn (steps places file own next ss)
    stmts_count own next tree.NoStmt l h e = tt
    stmts_count own next (tree.MoreStmt x xs) l h e =
        let b = none_of_both (stmt_breaches file own next x) (stmts_breaches file (after_stmt own next x) (behind next (cells x)) xs) e in
        (stmt_counts own next x (omega arith) h b.0, stmts_count (after_stmt own next x) (behind next (cells x)) xs (omega arith) (stmt_fits p c own next x (omega arith) h) b.1)
