-- The kinds of what declarations, statements of kernels and kernels print stand before those that follow them.
use Rattle.std.proofs.Common.{◌≡◌, ℕ, suc, Bool, true, false, List, [], ◌∷◌, refl, ap, ◌∙◌}
use Rattle.c_tree.specs.declared.lexer.tokens.Kind.{Kind}
use Rattle.c_tree.specs.declared.lexer.tokens.Sign.TheVariants as sign
use Rattle.c_tree.specs.declared.lexer.tokens.Word.{Word}
use Rattle.c_tree.specs.declared.kernels.ForHeader.{ForHeader}
use Rattle.c_tree.specs.declared.kernels.Param.{Param}
use Rattle.c_tree.specs.Tree.{ExprTree, DeclrTree, Plain, Init, Array, DeclarationTree, PlaceTree, Scalar, Element, Target, AssignmentTree, StmtTree, LocalDeclaration, Block, Empty, Assign, If, IfElse, For, StmtTrees, NoStmt, MoreStmt, KernelTree}
use Rattle.c_tree.specs.Print.{word_if, commas, declr, declrs, vars, place, assignment, condition, counter, stmt, stmts, param, params, kernel}
use Rattle.c_show.specs.Ahead.{sign_first, word_first_if, declr_first, more_declrs_first, declrs_first, declaration_first, place_first, assignment_first, condition_first, header_first, stmt_first, stmts_first, param_first, more_params_first, params_first, kernel_first}
use Rattle.c_show.proofs.ShownExprs.{ahead, ahead-append, expr_is}

pub word_if_is : (b : Bool) (k : ℕ) (w : Word) (rest : List Kind) → ahead (word_if b k w) rest ≡ word_first_if b w rest
word_if_is true k w rest = refl
word_if_is false k w rest = refl

declr_is : (k : ℕ) (d : DeclrTree) (rest : List Kind) → ahead (declr k d) rest ≡ declr_first d rest
declr_is k (Plain x) rest = refl
declr_is k (Init x e) rest = rw (expr_is (suc k) e) refl
declr_is k (Array x n) rest = refl

more_declrs_are : (k : ℕ) (d : DeclrTree) (ds : List DeclrTree) (rest : List Kind) → ahead (commas k (declrs k (d ∷ ds))) rest ≡ declr_first d (more_declrs_first ds rest)
more_declrs_are k d [] rest = declr_is k d rest
more_declrs_are k d (x ∷ ds) rest =
    ahead-append (declr k d) _ rest ∙ declr_is k d _ ∙ ap (λ z. declr_first d (sign_first sign.Comma z)) (more_declrs_are k x ds rest)

declrs_are : (k : ℕ) (ds : List DeclrTree) (rest : List Kind) → ahead (commas k (declrs k ds)) rest ≡ declrs_first ds rest
declrs_are k [] rest = refl
declrs_are k (d ∷ ds) rest = more_declrs_are k d ds rest

pub declaration_is : (k : ℕ) (v : DeclarationTree) (rest : List Kind) → ahead (vars k v) rest ≡ declaration_first v rest
declaration_is k v rest = rw (ahead-append, word_if_is v.is_const k, ahead-append, declrs_are k v.declrs) refl

place_is : (k : ℕ) (p : PlaceTree) (rest : List Kind) → ahead (place k p) rest ≡ place_first p rest
place_is k (Scalar x) rest = refl
place_is k (Element x e) rest = rw (ahead-append, expr_is (suc k) e) refl
place_is k (Target at x) rest = refl

pub assignment_is : (k : ℕ) (a : AssignmentTree) (rest : List Kind) → ahead (assignment k a) rest ≡ assignment_first a rest
assignment_is k a rest = rw (ahead-append, place_is k a.place, ahead-append, expr_is (suc k) a.value) refl

pub condition_is : (k at : ℕ) (e : ExprTree) (rest : List Kind) → ahead (condition k at e) rest ≡ condition_first e rest
condition_is k at e rest = rw (ahead-append, expr_is (suc k) e) refl

header_is : (k : ℕ) (c : ForHeader) (rest : List Kind) → ahead (counter k c) rest ≡ header_first c rest
header_is k c rest = refl

mutual
  pub stmt_is : (k : ℕ) (s : StmtTree) (rest : List Kind) → ahead (stmt k s) rest ≡ stmt_first s rest
  stmt_is k (LocalDeclaration v) rest = declaration_is k v rest
  stmt_is k (Block at ss) rest = rw (ahead-append, stmts_are (suc k) ss) refl
  stmt_is k (Empty at) rest = refl
  stmt_is k (Assign a) rest = assignment_is k a rest
  stmt_is k (If at e s) rest = ahead-append (condition k at e) _ rest ∙ condition_is k at e _ ∙ ap (condition_first e) (stmt_is (suc k) s rest)
  stmt_is k (IfElse at e s t) rest =
      ahead-append (condition k at e) _ rest ∙ condition_is k at e _ ∙ ap (condition_first e) (rw (ahead-append, stmt_is (suc k) s, stmt_is (suc k) t) refl)
  stmt_is k (For c s) rest = ahead-append (counter k c) _ rest ∙ header_is k c _ ∙ ap (header_first c) (stmt_is (suc k) s rest)

  pub stmts_are : (k : ℕ) (ss : StmtTrees) (rest : List Kind) → ahead (stmts k ss) rest ≡ stmts_first ss rest
  stmts_are k NoStmt rest = refl
  stmts_are k (MoreStmt s ss) rest = rw (ahead-append, stmt_is k s, stmts_are k ss) refl

param_is : (p : Param) (rest : List Kind) → ahead (param p) rest ≡ param_first p rest
param_is p rest = rw (ahead-append, word_if_is p.is_const 0) refl

more_params_are : (p : Param) (ps : List Param) (rest : List Kind) → ahead (commas 0 (params (p ∷ ps))) rest ≡ param_first p (more_params_first ps rest)
more_params_are p [] rest = param_is p rest
more_params_are p (x ∷ ps) rest =
    ahead-append (param p) _ rest ∙ param_is p _ ∙ ap (λ z. param_first p (sign_first sign.Comma z)) (more_params_are x ps rest)

params_are : (ps : List Param) (rest : List Kind) → ahead (commas 0 (params ps)) rest ≡ params_first ps rest
params_are [] rest = refl
params_are (p ∷ ps) rest = more_params_are p ps rest

pub kernel_is : (f : KernelTree) (rest : List Kind) → ahead (kernel f) rest ≡ kernel_first f rest
kernel_is f rest =
    rw (ahead-append, word_if_is f.is_static 0, ahead-append, word_if_is f.is_inline 0, ahead-append, params_are f.params, ahead-append, stmts_are 1 f.body) refl
