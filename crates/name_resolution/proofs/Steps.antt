-- Turns of the loops over declarators and statements of a kernel, views of blocks, and names that stay.
use Rattle.std.proofs.Common.{◌≡◌, ℕ, ◌+◌, ◌<◌, ◌≤◌, take, arith, Bool, true, false, List, [], ◌∷◌, ◌++◌, map, drop, length, get_or, is_some, refl, sym, ap, subst, ◌∙◌, Vec, Global, Option, if◌then◌else◌}
use mathlib.Core.Former.{Count}
use Rattle.c_tree.specs.declared.lexer.tokens.Pos.{Pos}
use Rattle.c_tree.specs.declared.declarations.Declr.{Declr}
use Rattle.c_tree.specs.declared.kernels.Stmt.{Stmt}
use Rattle.c_tree.specs.Tree as tree
use Rattle.c_tree.specs.Tree.{DeclrTree, StmtTree, StmtTrees}
use Rattle.c_tree.specs.View.{declr_of, stmt_of, stmts_of}
use Rattle.kernel_model.specs.declared.types.statements.RStmt as s
use Rattle.kernel_model.specs.declared.types.statements.RStmt.{RStmt, Row_of-RStmt, end_of-RStmt, more_of-RStmt, items-the_row-RStmt, items_hidden-the_row-RStmt-0}
use Rattle.name_resolution.specs.declared.breaches.Breach.{Breach}
use Rattle.name_resolution.specs.declared.decls.Decl.{Decl}
use Rattle.name_resolution.specs.First.{least_from}
use Rattle.name_resolution.specs.Scopes.{Names, decl_in, declared}
use Rattle.name_resolution.specs.Numbers.{StmtFits, RowFits}
use Rattle.kernel_model.specs.View.{RStmtTrees, NoStmt, MoreStmt, Block, rstmt_of, rstmts_of, rstmts_of_row}
use Rattle.name_resolution.specs.Work.{behind, declr_cells, declrs_cells, cells, cells_of_all}
use Rattle.name_resolution.specs.Kernels.{after_declr, after_declrs, after_stmt, after_stmts, declr_breaches, declrs_breaches, stmt_breaches, stmts_breaches, declr_step, declrs_steps, step, steps}
use Rattle.name_resolution.proofs.Firsts.{least_append}
use Rattle.lemmas.proofs.Lists.{drop_here}

-- ---- blocks

rows_are : (m : _) (row : Row_of-RStmt m) → rstmts_of_row row ≡ rstmts_of (items-the_row-RStmt m row)
rows_are m end_of-RStmt = refl
rows_are m (more_of-RStmt x rest) = ap (λ z. MoreStmt (rstmt_of x) z) (rows_are _ rest)

abbrev rstmt_row : RStmt → (n : Count) × Row_of-RStmt n
rstmt_row (s.Block' shape row) = (_, row)
rstmt_row _ = (_, end_of-RStmt)

pub rstmt_block : (v : Vec RStmt Global) → rstmt_of (s.Block v) ≡ Block (rstmts_of v.items)
rstmt_block v =
    let row = rstmt_row (s.Block v) in
    ap Block (rows_are row.0 row.1 ∙ ap rstmts_of (items_hidden-the_row-RStmt-0 v))

-- ---- one statement more at the end

-- one after the other
abbrev pub joined : RStmtTrees → RStmtTrees → RStmtTrees
joined NoStmt ts = ts
joined (MoreStmt s ss) ts = MoreStmt s (joined ss ts)

joined_push : (xs : List RStmt) (x : RStmt) (ts : RStmtTrees) → joined (rstmts_of (xs ++ x ∷ [])) ts ≡ joined (rstmts_of xs) (MoreStmt (rstmt_of x) ts)
joined_push [] x ts = refl
joined_push (y ∷ ys) x ts = ap (λ z. MoreStmt (rstmt_of y) z) (joined_push ys x ts)

pub joined_none : (ss : RStmtTrees) → joined ss NoStmt ≡ ss
joined_none NoStmt = refl
joined_none (MoreStmt s ss) = ap (λ z. MoreStmt s z) (joined_none ss)

pub fits_push : (xs ys : List RStmt) (x : RStmt) → ys ≡ xs ++ x ∷ [] → RowFits (rstmts_of xs) → StmtFits (rstmt_of x) → RowFits (rstmts_of ys)
fits_push xs ys x e h w = subst (λ zs. RowFits (rstmts_of zs)) (sym e) (by xs h)
  where
    by : (xs : List RStmt) → RowFits (rstmts_of xs) → RowFits (rstmts_of (xs ++ x ∷ []))
    by [] h = (w, tt)
    by (z ∷ zs) h = (h.0, by zs h.1)

-- ---- the rest of a list

-- ---- names that stay

pub take_whole : {X : Type 0} (xs : List X) → take (length xs) xs ≡ xs
take_whole [] = refl
take_whole (x ∷ xs) = ap (λ ys. x ∷ ys) (take_whole xs)

take_front : {X : Type 0} (xs ys : List X) → take (length xs) (xs ++ ys) ≡ xs
take_front [] ys = refl
take_front (x ∷ xs) ys = ap (λ zs. x ∷ zs) (take_front xs ys)

pub kept_kept : {X : Type 0} (a b c : List X) → take (length a) b ≡ a → take (length b) c ≡ b → take (length a) c ≡ a
kept_kept [] b c p q = refl
kept_kept (x ∷ a) [] c p q = cc
kept_kept (x ∷ a) (y ∷ b) [] p q = cc
kept_kept (x ∷ a) (y ∷ b) (z ∷ c) p q =
    let p' : take (length a) b ≡ a = cc in
    let q' : take (length b) c ≡ b = cc in
    let r : take (length a) c ≡ a = kept_kept a b c p' q' in
    let e : z ≡ x = cc in
    rw (e, r) refl

pub declared_keeps : (x : List ℕ) (d : Decl) (own : Names) → take (length own) (declared x d own) ≡ own
declared_keeps x d own = by (is_some (decl_in own x))
  where
    by : (b : Bool) → take (length own) (if b then own else (own ++ (x, d) ∷ [])) ≡ own
    by true = take_whole own
    by false = take_front own ((x, d) ∷ [])

declr_keeps : (own : Names) (next : ℕ) (d : DeclrTree) → take (length own) (after_declr own next d) ≡ own
declr_keeps own next (tree.Plain x) = declared_keeps x.name _ own
declr_keeps own next (tree.Init x e) = declared_keeps x.name _ own
declr_keeps own next (tree.Array x n) = declared_keeps x.name _ own

declrs_keep : (own : Names) (next : ℕ) (ds : List DeclrTree) → take (length own) (after_declrs own next ds) ≡ own
declrs_keep own next [] = take_whole own
declrs_keep own next (d ∷ ds) =
    kept_kept own (after_declr own next d) _ (declr_keeps own next d) (declrs_keep (after_declr own next d) (behind next (declr_cells d)) ds)

pub stmt_keeps : (own : Names) (next : ℕ) (s : StmtTree) → take (length own) (after_stmt own next s) ≡ own
stmt_keeps own next (tree.LocalDeclaration v) = declrs_keep own next v.declrs
stmt_keeps own next (tree.Block at ss) = take_whole own
stmt_keeps own next (tree.Empty at) = take_whole own
stmt_keeps own next (tree.Assign a) = take_whole own
stmt_keeps own next (tree.If at e x) = take_whole own
stmt_keeps own next (tree.IfElse at e x y) = take_whole own
stmt_keeps own next (tree.For h x) = take_whole own

pub stmts_keep : (own : Names) (next : ℕ) (ss : StmtTrees) → take (length own) (after_stmts own next ss) ≡ own
stmts_keep own next tree.NoStmt = take_whole own
stmts_keep own next (tree.MoreStmt x xs) =
    kept_kept own (after_stmt own next x) _ (stmt_keeps own next x) (stmts_keep (after_stmt own next x) (behind next (cells x)) xs)

-- ---- cells

pub behind_behind : (n a b : ℕ) → behind (behind n a) b ≡ behind n (a + b)
behind_behind n a b = omega arith

pub behind_low : (n a : ℕ) → behind n a ≤ 1024
behind_low n a = omega arith

-- ---- turns

module _ (places : List Pos) (file : Names) where
  pub declrs_turn : (own own' : Names) (n n' : ℕ) (ds : List Declr) (i : ℕ) (d : Declr) (xs ys : List RStmt) (x : RStmt) → i < length ds
      → d ≡ get_or ds i d → rstmt_of x ≡ declr_step places file own n (declr_of d) → own' ≡ after_declr own n (declr_of d)
      → n' ≡ behind n (declr_cells (declr_of d)) → ys ≡ xs ++ x ∷ []
      → joined (rstmts_of ys) (declrs_steps places file own' n' (map declr_of (drop (i + 1) ds))) ≡ joined (rstmts_of xs)
      (declrs_steps places file own n (map declr_of (drop i ds)))
  declrs_turn own own' n n' ds i d xs ys x h g w ho hn hy =
      rw (ho, hn, hy, drop_here ds i d h g, joined_push xs x, w) refl

  pub steps_turn : (own own' : Names) (n n' : ℕ) (ds : List Stmt) (i : ℕ) (d : Stmt) (xs ys : List RStmt) (x : RStmt) → i < length ds
      → d ≡ get_or ds i d → rstmt_of x ≡ step places file own n (stmt_of d) → own' ≡ after_stmt own n (stmt_of d)
      → n' ≡ behind n (cells (stmt_of d)) → ys ≡ xs ++ x ∷ []
      → joined (rstmts_of ys) (steps places file own' n' (stmts_of (drop (i + 1) ds))) ≡ joined (rstmts_of xs)
      (steps places file own n (stmts_of (drop i ds)))
  steps_turn own own' n n' ds i d xs ys x h g w ho hn hy =
      rw (ho, hn, hy, drop_here ds i d h g, joined_push xs x, w) refl

module _ (file : Names) where
  pub declrs_first : (own own' : Names) (n n' : ℕ) (ds : List Declr) (i : ℕ) (d : Declr) (f f' : Option Breach) → i < length ds
      → d ≡ get_or ds i d → f' ≡ least_from f (declr_breaches file own (declr_of d)) → own' ≡ after_declr own n (declr_of d)
      → n' ≡ behind n (declr_cells (declr_of d)) → least_from f' (declrs_breaches file own' n' (map declr_of (drop (i + 1) ds))) ≡
      least_from f (declrs_breaches file own n (map declr_of (drop i ds)))
  declrs_first own own' n n' ds i d f f' h g w ho hn =
      rw (ho, hn, drop_here ds i d h g, w) (sym (least_append f (declr_breaches file own (declr_of d)) _))

  pub steps_first : (own own' : Names) (n n' : ℕ) (ds : List Stmt) (i : ℕ) (d : Stmt) (f f' : Option Breach) → i < length ds
      → d ≡ get_or ds i d → f' ≡ least_from f (stmt_breaches file own n (stmt_of d)) → own' ≡ after_stmt own n (stmt_of d)
      → n' ≡ behind n (cells (stmt_of d)) → least_from f' (stmts_breaches file own' n' (stmts_of (drop (i + 1) ds))) ≡ least_from f
      (stmts_breaches file own n (stmts_of (drop i ds)))
  steps_first own own' n n' ds i d f f' h g w ho hn =
      rw (ho, hn, drop_here ds i d h g, w) (sym (least_append f (stmt_breaches file own n (stmt_of d)) _))

pub declrs_own : (own own' : Names) (n n' : ℕ) (ds : List Declr) (i : ℕ) (d : Declr) → i < length ds → d ≡ get_or ds i d
    → own' ≡ after_declr own n (declr_of d) → n' ≡ behind n (declr_cells (declr_of d))
    → after_declrs own' n' (map declr_of (drop (i + 1) ds)) ≡ after_declrs own n (map declr_of (drop i ds))
declrs_own own own' n n' ds i d h g ho hn = rw (ho, hn, drop_here ds i d h g) refl

pub steps_own : (own own' : Names) (n n' : ℕ) (ds : List Stmt) (i : ℕ) (d : Stmt) → i < length ds → d ≡ get_or ds i d
    → own' ≡ after_stmt own n (stmt_of d) → n' ≡ behind n (cells (stmt_of d))
    → after_stmts own' n' (stmts_of (drop (i + 1) ds)) ≡ after_stmts own n (stmts_of (drop i ds))
steps_own own own' n n' ds i d h g ho hn = rw (ho, hn, drop_here ds i d h g) refl

pub declrs_next : (n n' : ℕ) (ds : List Declr) (i : ℕ) (d : Declr) → i < length ds → d ≡ get_or ds i d
    → n' ≡ behind n (declr_cells (declr_of d)) → behind n' (declrs_cells (map declr_of (drop (i + 1) ds))) ≡ behind n
    (declrs_cells (map declr_of (drop i ds)))
declrs_next n n' ds i d h g hn = rw (hn, drop_here ds i d h g) (behind_behind n (declr_cells (declr_of d)) _)

pub steps_next : (n n' : ℕ) (ds : List Stmt) (i : ℕ) (d : Stmt) → i < length ds → d ≡ get_or ds i d → n' ≡ behind n (cells (stmt_of d))
    → behind n' (cells_of_all (stmts_of (drop (i + 1) ds))) ≡ behind n (cells_of_all (stmts_of (drop i ds)))
steps_next n n' ds i d h g hn = rw (hn, drop_here ds i d h g) (behind_behind n (cells (stmt_of d)) _)
