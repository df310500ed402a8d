-- Blocks, `if` and levels of statements, as the code finds them.
use Rattle.std.proofs.Common.{◌≡◌, ◌≢◌, ℕ, zero, suc, ◌+◌, ◌-◌, true, List, [], ◌∷◌, map, Ok, Err, refl, ap, ◌∙◌, arith, slice_get, Vec, Global, add-one}
use Rattle.c_tree.specs.declared.lexer.tokens.Kind.{Kind}
use Rattle.c_tree.specs.declared.lexer.tokens.Sign.TheVariants as s
use Rattle.c_tree.specs.declared.lexer.tokens.Word.TheVariants as w
use Rattle.c_tree.specs.declared.kernels.Stmt.{Stmt, Block, Block', Row_of-Stmt, end_of-Stmt, more_of-Stmt, items-the_row-Stmt, items_hidden-the_row-Stmt-0}
use mathlib.Core.Former.{Count}
use Rattle.c_tree.specs.Tree as tree
use Rattle.c_tree.specs.Tree.{ExprTree, StmtTree, StmtTrees, NoStmt, MoreStmt}
use Rattle.c_tree.specs.View.{stmt_of, stmts_of, stmts_of_row}
use Rattle.c_reader.specs.declared.faults.ReadError.{ReadError}
use Rattle.c_reader.specs.declared.faults.ReadError.TheVariants as errors
use Rattle.c_reader.specs.declared.leads.StmtLead.{StmtLead}
use Rattle.c_reader.specs.declared.leads.StmtLead.TheVariants as lead
use Rattle.c_reader.specs.Descent.{Fails, sign_at}
use Rattle.c_reader.specs.Rows.{Reader, word_is}
use Rattle.c_reader.specs.Statements.{condition_at, body_at, stmts_in, if_at, stmt_trees, stmt_led, lead_in, stmt_at}

row_is : (m : _) (row : Row_of-Stmt m) → stmts_of_row row ≡ stmts_of (items-the_row-Stmt m row)
row_is m end_of-Stmt = refl
row_is m (more_of-Stmt x rest) = ap (λ z. MoreStmt (stmt_of x) z) (row_is _ rest)

abbrev row_of : Stmt → (n : Count) × Row_of-Stmt n
row_of (Block' at shape row) = (_, row)
row_of _ = (_, end_of-Stmt)

pub trees_are : (xs : List Stmt) → stmts_of xs ≡ stmt_trees (map stmt_of xs)
trees_are [] = refl
trees_are (x ∷ xs) = ap (λ z. MoreStmt (stmt_of x) z) (trees_are xs)

-- the view of a block is that of the vector in it
pub block_view : (at : ℕ) (v : Vec Stmt Global) → stmt_of (Block at v) ≡ tree.Block at (stmt_trees (map stmt_of v.items))
block_view at v =
    let row = row_of (Block at v) in
    ap (λ z. tree.Block at z) (row_is row.0 row.1 ∙ ap stmts_of (items_hidden-the_row-Stmt-0 v) ∙ trees_are v.items)

pub block_led : (ks : List Kind) (d : ℕ) (rec : Reader StmtTree) (l : StmtLead) (n o m e : ℕ) (xs : List StmtTree) → l ≡ lead.Block
    → sign_at ks s.LeftBrace n ≡ Ok o → stmts_in ks rec o ≡ Ok (xs, m) → sign_at ks s.RightBrace m ≡ Ok e
    → stmt_led ks d rec l n ≡ Ok (tree.Block n (stmt_trees xs), e)
block_led ks d rec l n o m e xs h a b c = rw (h, a, b, c) refl

pub if_two : (ks : List Kind) (d : ℕ) (rec : Reader StmtTree) (n j l e : ℕ) (x : ExprTree) (a b : StmtTree)
    → condition_at ks d n ≡ Ok (x, j) → body_at ks rec j ≡ Ok (a, l) → word_is w.Else (slice_get ks l) ≡ true
    → body_at ks rec (l + 1) ≡ Ok (b, e) → if_at ks d rec n ≡ Ok (tree.IfElse n x a b, e)
unfolding if_at
if_two ks d rec n j l e x a b c f h g =
    let g' : body_at ks rec (suc l) ≡ Ok (b, e) = rw (← add-one l) g in
    rw (c, f, h, g') refl

pub if_two_fails : (ks : List Kind) (d : ℕ) (rec : Reader StmtTree) (n j l : ℕ) (x : ExprTree) (a : StmtTree) (e : ReadError)
    → condition_at ks d n ≡ Ok (x, j) → body_at ks rec j ≡ Ok (a, l) → word_is w.Else (slice_get ks l) ≡ true
    → Fails e (body_at ks rec (l + 1)) → Fails e (if_at ks d rec n)
unfolding if_at
if_two_fails ks d rec n j l x a errors.Memory c f h g = tt
if_two_fails ks d rec n j l x a (errors.Fault t) c f h g =
    let g' : body_at ks rec (suc l) ≡ Err t = rw (← add-one l) g in
    rw (c, f, h, g') refl

-- a level that is left
pub at_level : (ks : List Kind) (d n : ℕ) → d ≢ 0 → stmt_at ks d n ≡ stmt_led ks (d - 1) (stmt_at ks (d - 1)) (lead_in (slice_get ks n)) n
unfolding stmt_at
at_level ks zero n h = absurd (h refl)
at_level ks (suc d) n h = rw (let e : suc d - 1 ≡ d = omega arith in e) refl
