-- What the walk over a kernel finds, told by its tree: where it lies in memory is nothing to it.
use Rattle.std.proofs.Common.{◌≡◌, ℕ, ℤ, pos, ◌-◌, List, length, Bool, false, cond, ◌&&◌, Option, Some, None, nat_eq, refl, sym, ap, ◌∙◌}
use Rattle.std.specs.Prelude.{slice_index_or}
use Rattle.std.specs.Ordering.{int_eq}
use Rattle.std.proofs.Math.Path.{fun_ext}
use Rattle.c_tree.specs.declared.lexer.tokens.Pos.{Pos}
use Rattle.c_tree.specs.declared.expressions.MinMax.{MinMax}
use Rattle.c_tree.specs.declared.declarations.AssignOp.{AssignOp}
use Rattle.c_tree.specs.declared.declarations.AssignOp.TheVariants as assign
use Rattle.kernel_model.specs.declared.types.expressions.ElementForm.{ElementForm}
use Rattle.kernel_model.specs.declared.types.expressions.RExpr.{RExpr}
use Rattle.kernel_model.specs.declared.types.expressions.RExpr.TheVariants.{Number, Scalar, Constant, Arg', Local', Const', Unary', Binary', Choice', Paren', Extremum', Absolute'}
use Rattle.kernel_model.specs.declared.types.statements.RStmt.{RStmt, Block', Declare, SetScalar, SetLocal, SetArg, If', For', Row_of-RStmt, end_of-RStmt, more_of-RStmt}
use Rattle.kernel_model.specs.declared.types.kernels.RKernel.{RKernel}
use Rattle.kernel_model.specs.View as tree
use Rattle.kernel_model.specs.View.{RExprTree, RStmtTree, RStmtTrees, RKernelTree, rexpr_of, rstmt_of, rstmts_of_row, rkernel_of}
use Rattle.kernel_model.specs.SameTokens.{same_form, same_which, same_unary, same_op, same_tokens}
use Rattle.kernel_model.specs.Obeys.{Mode, Counters, no_counters, with_counter, static_op, static_unary, static, Reads, Owns, Own, Neither, First, Second, is_place, own_side, target_event}
use Rattle.kernel_model.specs.Walk.{Breach, Covered, none_covered, with_covered, both_covered, turns_covered, covered_after, row_covered_after, event_found, expr_found, own_found, right_found, turns_found, stmt_found, row_found, ends_found, walk}

-- ---- static indices

abbrev index : RExprTree → Counters → Option ℤ
index (tree.Number n) cs = Some n
index (tree.Scalar k) cs = cs k
index (tree.Constant k) cs = None
index (tree.Arg a form e at) cs = None
index (tree.Local from count form e at) cs = None
index (tree.Const from count form e at) cs = None
index (tree.Unary op a) cs = static_unary op (index a cs)
index (tree.Binary op a b at) cs = static_op op (index a cs) (index b cs)
index (tree.Choice c a b) cs = None
index (tree.Paren a) cs = index a cs
index (tree.Extremum which a b) cs = None
index (tree.Absolute a) cs = None

index_is : (e : RExpr) (cs : Counters) → static e cs ≡ index (rexpr_of e) cs
index_is (Number n) cs = refl
index_is (Scalar k) cs = refl
index_is (Constant k) cs = refl
index_is (Arg' a form p e at) cs = refl
index_is (Local' from count form p e at) cs = refl
index_is (Const' from count form p e at) cs = refl
index_is (Unary' op p a) cs = ap (static_unary op) (index_is a cs)
index_is (Binary' op p a q b at) cs = ap (λ x. static_op op x (static b cs)) (index_is a cs) ∙ ap (static_op op (index (rexpr_of a) cs)) (index_is b cs)
index_is (Choice' p c q a r b) cs = refl
index_is (Paren' p a) cs = index_is a cs
index_is (Extremum' which p a q b) cs = refl
index_is (Absolute' p a) cs = refl

-- ---- the same tokens

abbrev same : RExprTree → RExprTree → Bool
same (tree.Number n) (tree.Number m) = int_eq n m
same (tree.Scalar k) (tree.Scalar j) = nat_eq k j
same (tree.Constant k) (tree.Constant j) = nat_eq k j
same (tree.Arg a form e at) (tree.Arg b other_form f bt) = nat_eq a b && (same_form form other_form && same e f)
same (tree.Local from count form e at) (tree.Local other_from other_count other_form f bt) =
    nat_eq from other_from && (nat_eq count other_count && (same_form form other_form && same e f))
same (tree.Const from count form e at) (tree.Const other_from other_count other_form f bt) =
    nat_eq from other_from && (nat_eq count other_count && (same_form form other_form && same e f))
same (tree.Unary op a) (tree.Unary oq b) = same_unary op oq && same a b
same (tree.Binary op a b at) (tree.Binary oq c d bt) = same_op op oq && (same a c && same b d)
same (tree.Choice x a b) (tree.Choice y c d) = same x y && (same a c && same b d)
same (tree.Paren a) (tree.Paren b) = same a b
same (tree.Extremum which a b) (tree.Extremum other_which c d) = same_which which other_which && (same a c && same b d)
same (tree.Absolute a) (tree.Absolute b) = same a b
same e f = false

both_are : (a b c d : Bool) → a ≡ c → b ≡ d → (a && b) ≡ (c && d)
both_are a b c d e f = ap (λ x. x && b) e ∙ ap (λ x. c && x) f

same_is : (e f : RExpr) → same_tokens e f ≡ same (rexpr_of e) (rexpr_of f)
same_is (Number n) (Number m) = refl
same_is (Scalar k) (Scalar j) = refl
same_is (Constant k) (Constant j) = refl
same_is (Arg' a form p e at) (Arg' b other_form q f bt) = ap (λ x. nat_eq a b && (same_form form other_form && x)) (same_is e f)
same_is (Local' from count form p e at) (Local' other_from other_count other_form q f bt) =
    ap (λ x. nat_eq from other_from && (nat_eq count other_count && (same_form form other_form && x))) (same_is e f)
same_is (Const' from count form p e at) (Const' other_from other_count other_form q f bt) =
    ap (λ x. nat_eq from other_from && (nat_eq count other_count && (same_form form other_form && x))) (same_is e f)
same_is (Unary' op p a) (Unary' oq q b) = ap (λ x. same_unary op oq && x) (same_is a b)
same_is (Binary' op p a q b at) (Binary' oq r c t d bt) = ap (λ x. same_op op oq && x) (both_are _ _ _ _ (same_is a c) (same_is b d))
same_is (Choice' p x q a r b) (Choice' t y u c v d) = both_are _ _ _ _ (same_is x y) (both_are _ _ _ _ (same_is a c) (same_is b d))
same_is (Paren' p a) (Paren' q b) = same_is a b
same_is (Extremum' which p a q b) (Extremum' other_which r c t d) = ap (λ x. same_which which other_which && x) (both_are _ _ _ _ (same_is a c) (same_is b d))
same_is (Absolute' p a) (Absolute' q b) = same_is a b
same_is e f = refl

-- ---- P = MIN(P, e) and P = MAX(P, e)

abbrev place : ℕ → ElementForm → RExprTree → RExprTree → Bool
place a form ix (tree.Arg b other_form jx at) = nat_eq a b && (same_form form other_form && same ix jx)
place a form ix e = false

place_is : (a : ℕ) (form : ElementForm) (ix e : RExpr) → is_place a form ix e ≡ place a form (rexpr_of ix) (rexpr_of e)
place_is a form ix (Arg' b other_form p jx at) = ap (λ x. nat_eq a b && (same_form form other_form && x)) (same_is ix jx)
place_is a form ix e = refl

abbrev side : ℕ → ElementForm → RExprTree → AssignOp → RExprTree → Own
side a form ix assign.Set (tree.Extremum which x y) = cond (place a form ix x) (First which) (cond (place a form ix y) (Second which) Neither)
side a form ix op e = Neither

side_is : (a : ℕ) (form : ElementForm) (ix : RExpr) (op : AssignOp) (e : RExpr) → own_side a form ix op e ≡ side a form (rexpr_of ix) op (rexpr_of e)
side_is a form ix assign.Set (Extremum' which p x q y) =
    ap (λ b. cond b (First which) (cond (is_place a form ix y) (Second which) Neither)) (place_is a form ix x)
    ∙ ap (λ b. cond (place a form (rexpr_of ix) (rexpr_of x)) (First which) (cond b (Second which) Neither)) (place_is a form ix y)
side_is a form ix op e = refl

-- ---- what every path has assigned

abbrev mutual
  covered : RStmtTree → Counters → Covered → Covered
  covered (tree.Block all) cs c = covered_all all cs c
  covered (tree.Declare from count) cs c = c
  covered (tree.SetScalar k op opat e) cs c = c
  covered (tree.SetLocal from count form ix at op opat e) cs c = c
  covered (tree.SetArg a form ix at op opat e) cs c = with_covered a (index ix cs) c
  covered (tree.If e a b) cs c = both_covered (covered a cs c) (covered b cs c)
  covered (tree.For k first past body) cs c = turns_covered (λ i d. covered body (with_counter cs k (pos i)) d) first (past - first) c

  covered_all : RStmtTrees → Counters → Covered → Covered
  covered_all tree.NoStmt cs c = c
  covered_all (tree.MoreStmt first rest) cs c = covered_all rest cs (covered first cs c)

mutual
  covered_is : (x : RStmt) (cs : Counters) (c : Covered) → covered_after x cs c ≡ covered (rstmt_of x) cs c
  covered_is (Block' shape all) cs c = covered_all_is all cs c
  covered_is (Declare from count) cs c = refl
  covered_is (SetScalar k op opat e) cs c = refl
  covered_is (SetLocal from count form ix at op opat e) cs c = refl
  covered_is (SetArg a form ix at op opat e) cs c = ap (λ o. with_covered a o c) (index_is ix cs)
  covered_is (If' e p a q b) cs c = ap (λ d. both_covered d (covered_after b cs c)) (covered_is a cs c) ∙ ap (both_covered (covered (rstmt_of a) cs c)) (covered_is b cs c)
  covered_is (For' k first past p body) cs c = ap (λ f. turns_covered f first (past - first) c) (fun_ext (λ i. fun_ext (λ d. covered_is body (with_counter cs k (pos i)) d)))

  covered_all_is : {m : _} (all : Row_of-RStmt m) (cs : Counters) (c : Covered) → row_covered_after all cs c ≡ covered_all (rstmts_of_row all) cs c
  covered_all_is end_of-RStmt cs c = refl
  covered_all_is (more_of-RStmt first rest) cs c = ap (row_covered_after rest cs) (covered_is first cs c) ∙ covered_all_is rest cs (covered (rstmt_of first) cs c)

-- ---- what is found

module _ (modes : List Mode) where
  abbrev in_expr : RExprTree → Counters → Covered → Option Breach → Option Breach
  in_expr (tree.Number n) cs c found = found
  in_expr (tree.Scalar k) cs c found = found
  in_expr (tree.Constant k) cs c found = found
  in_expr (tree.Arg a form e at) cs c found = event_found modes c (Reads a (index e cs) at) (in_expr e cs c found)
  in_expr (tree.Local from count form e at) cs c found = in_expr e cs c found
  in_expr (tree.Const from count form e at) cs c found = in_expr e cs c found
  in_expr (tree.Unary op a) cs c found = in_expr a cs c found
  in_expr (tree.Binary op a b at) cs c found = in_expr b cs c (in_expr a cs c found)
  in_expr (tree.Choice x a b) cs c found = in_expr b cs c (in_expr a cs c (in_expr x cs c found))
  in_expr (tree.Paren a) cs c found = in_expr a cs c found
  in_expr (tree.Extremum which a b) cs c found = in_expr b cs c (in_expr a cs c found)
  in_expr (tree.Absolute a) cs c found = in_expr a cs c found

  expr_is : (e : RExpr) (cs : Counters) (c : Covered) (found : Option Breach) → expr_found modes e cs c found ≡ in_expr (rexpr_of e) cs c found
  expr_is (Number n) cs c found = refl
  expr_is (Scalar k) cs c found = refl
  expr_is (Constant k) cs c found = refl
  expr_is (Arg' a form p e at) cs c found =
      ap (λ o. event_found modes c (Reads a o at) (expr_found modes e cs c found)) (index_is e cs)
      ∙ ap (event_found modes c (Reads a (index (rexpr_of e) cs) at)) (expr_is e cs c found)
  expr_is (Local' from count form p e at) cs c found = expr_is e cs c found
  expr_is (Const' from count form p e at) cs c found = expr_is e cs c found
  expr_is (Unary' op p a) cs c found = expr_is a cs c found
  expr_is (Binary' op p a q b at) cs c found = ap (expr_found modes b cs c) (expr_is a cs c found) ∙ expr_is b cs c _
  expr_is (Choice' p x q a r b) cs c found =
      ap (λ f. expr_found modes b cs c (expr_found modes a cs c f)) (expr_is x cs c found) ∙ ap (expr_found modes b cs c) (expr_is a cs c _) ∙ expr_is b cs c _
  expr_is (Paren' p a) cs c found = expr_is a cs c found
  expr_is (Extremum' which p a q b) cs c found = ap (expr_found modes b cs c) (expr_is a cs c found) ∙ expr_is b cs c _
  expr_is (Absolute' p a) cs c found = expr_is a cs c found

  abbrev in_own : MinMax → RExprTree → Counters → Covered → Option Breach → Option Breach
  in_own which (tree.Arg b form jx at) cs c found = event_found modes c (Owns which b (index jx cs) at) (in_expr jx cs c found)
  in_own which e cs c found = in_expr e cs c found

  own_is : (which : MinMax) (e : RExpr) (cs : Counters) (c : Covered) (found : Option Breach) → own_found modes which e cs c found ≡ in_own which (rexpr_of e) cs c found
  own_is which (Arg' b form p jx at) cs c found =
      ap (λ o. event_found modes c (Owns which b o at) (expr_found modes jx cs c found)) (index_is jx cs)
      ∙ ap (event_found modes c (Owns which b (index (rexpr_of jx) cs) at)) (expr_is jx cs c found)
  own_is which (Number n) cs c found = refl
  own_is which (Scalar k) cs c found = refl
  own_is which (Constant k) cs c found = refl
  own_is which (Local' from count form p e at) cs c found = expr_is (Local' from count form p e at) cs c found
  own_is which (Const' from count form p e at) cs c found = expr_is (Const' from count form p e at) cs c found
  own_is which (Unary' op p a) cs c found = expr_is (Unary' op p a) cs c found
  own_is which (Binary' op p a q b at) cs c found = expr_is (Binary' op p a q b at) cs c found
  own_is which (Choice' p x q a r b) cs c found = expr_is (Choice' p x q a r b) cs c found
  own_is which (Paren' p a) cs c found = expr_is (Paren' p a) cs c found
  own_is which (Extremum' other p a q b) cs c found = expr_is (Extremum' other p a q b) cs c found
  own_is which (Absolute' p a) cs c found = expr_is (Absolute' p a) cs c found

  abbrev in_right : Own → RExprTree → Counters → Covered → Option Breach → Option Breach
  in_right (First which) (tree.Extremum other x y) cs c found = in_expr y cs c (in_own which x cs c found)
  in_right (Second which) (tree.Extremum other x y) cs c found = in_own which y cs c (in_expr x cs c found)
  in_right own e cs c found = in_expr e cs c found

  right_is : (own : Own) (e : RExpr) (cs : Counters) (c : Covered) (found : Option Breach) → right_found modes own e cs c found ≡ in_right own (rexpr_of e) cs c found
  right_is (First which) (Extremum' other p x q y) cs c found = ap (expr_found modes y cs c) (own_is which x cs c found) ∙ expr_is y cs c _
  right_is (Second which) (Extremum' other p x q y) cs c found = ap (own_found modes which y cs c) (expr_is x cs c found) ∙ own_is which y cs c _
  right_is own e cs c found = expr_is e cs c found

  abbrev mutual
    in_stmt : RStmtTree → Counters → Covered → Option Breach → Option Breach
    in_stmt (tree.Block all) cs c found = in_stmts all cs c found
    in_stmt (tree.Declare from count) cs c found = found
    in_stmt (tree.SetScalar k op opat e) cs c found = in_expr e cs c found
    in_stmt (tree.SetLocal from count form ix at op opat e) cs c found = in_expr e cs c (in_expr ix cs c found)
    in_stmt (tree.SetArg a form ix at op opat e) cs c found =
        event_found modes c (target_event (side a form ix op e) op a (index ix cs) at) (in_right (side a form ix op e) e cs c (in_expr ix cs c found))
    in_stmt (tree.If e a b) cs c found = in_stmt b cs c (in_stmt a cs c (in_expr e cs c found))
    in_stmt (tree.For k first past body) cs c found =
        turns_found modes (λ i d g. in_stmt body (with_counter cs k (pos i)) d g) (λ i d. covered body (with_counter cs k (pos i)) d) first (past - first) c found

    in_stmts : RStmtTrees → Counters → Covered → Option Breach → Option Breach
    in_stmts tree.NoStmt cs c found = found
    in_stmts (tree.MoreStmt first rest) cs c found = in_stmts rest cs (covered first cs c) (in_stmt first cs c found)

  mutual
    stmt_is : (x : RStmt) (cs : Counters) (c : Covered) (found : Option Breach) → stmt_found modes x cs c found ≡ in_stmt (rstmt_of x) cs c found
    stmt_is (Block' shape all) cs c found = stmts_are all cs c found
    stmt_is (Declare from count) cs c found = refl
    stmt_is (SetScalar k op opat e) cs c found = expr_is e cs c found
    stmt_is (SetLocal from count form ix at op opat e) cs c found = ap (expr_found modes e cs c) (expr_is ix cs c found) ∙ expr_is e cs c _
    stmt_is (SetArg a form ix at op opat e) cs c found =
        ap (λ w. event_found modes c (target_event w op a (static ix cs) at) (right_found modes w e cs c (expr_found modes ix cs c found))) (side_is a form ix op e)
        ∙ ap (λ o. event_found modes c (target_event (side a form (rexpr_of ix) op (rexpr_of e)) op a o at)
        (right_found modes (side a form (rexpr_of ix) op (rexpr_of e)) e cs c (expr_found modes ix cs c found))) (index_is ix cs)
        ∙ ap (λ f. event_found modes c (target_event (side a form (rexpr_of ix) op (rexpr_of e)) op a (index (rexpr_of ix) cs) at)
        (right_found modes (side a form (rexpr_of ix) op (rexpr_of e)) e cs c f)) (expr_is ix cs c found)
        ∙ ap (event_found modes c (target_event (side a form (rexpr_of ix) op (rexpr_of e)) op a (index (rexpr_of ix) cs) at)) (right_is (side a form (rexpr_of ix) op (rexpr_of e)) e cs c _)
    stmt_is (If' e p a q b) cs c found =
        ap (λ f. stmt_found modes b cs c (stmt_found modes a cs c f)) (expr_is e cs c found) ∙ ap (stmt_found modes b cs c) (stmt_is a cs c _) ∙ stmt_is b cs c _
    stmt_is (For' k first past p body) cs c found =
        ap (λ t. turns_found modes t (λ i d. covered_after body (with_counter cs k (pos i)) d) first (past - first) c found)
        (fun_ext (λ i. fun_ext (λ d. fun_ext (λ g. stmt_is body (with_counter cs k (pos i)) d g))))
        ∙ ap (λ f. turns_found modes (λ i d g. in_stmt (rstmt_of body) (with_counter cs k (pos i)) d g) f first (past - first) c found)
        (fun_ext (λ i. fun_ext (λ d. covered_is body (with_counter cs k (pos i)) d)))

    stmts_are : {m : _} (all : Row_of-RStmt m) (cs : Counters) (c : Covered) (found : Option Breach) → row_found modes all cs c found ≡ in_stmts (rstmts_of_row all) cs c found
    stmts_are end_of-RStmt cs c found = refl
    stmts_are (more_of-RStmt first rest) cs c found =
        ap (λ d. row_found modes rest cs d (stmt_found modes first cs c found)) (covered_is first cs c)
        ∙ ap (row_found modes rest cs (covered (rstmt_of first) cs c)) (stmt_is first cs c found)
        ∙ stmts_are rest cs (covered (rstmt_of first) cs c) _

-- ---- kernels

abbrev place_of : List Pos → ℕ → Pos
place_of ps a = slice_index_or ps a (record { line = 0; column = 0 })

abbrev in_kernel : RKernelTree → List Mode → Option Breach
in_kernel k modes =
    ends_found (place_of k.param_places) modes (covered k.statement no_counters none_covered) 0 (length modes)
    (in_stmt modes k.statement no_counters none_covered None)

walk_is : (k : RKernel) (modes : List Mode) → walk k modes ≡ in_kernel (rkernel_of k) modes
walk_is k modes =
    ap (λ c. ends_found (place_of k.body.param_places.items) modes c 0 (length modes)
    (stmt_found modes k.body.statement no_counters none_covered None)) (covered_is k.body.statement no_counters none_covered)
    ∙ ap (ends_found (place_of k.body.param_places.items) modes (covered (rstmt_of k.body.statement) no_counters none_covered) 0
    (length modes)) (stmt_is modes k.body.statement no_counters none_covered None)

-- the walk finds the same in kernels with one tree
pub walks_alike : (k l : RKernel) → rkernel_of k ≡ rkernel_of l → (modes : List Mode) → walk k modes ≡ walk l modes
walks_alike k l e modes = walk_is k modes ∙ ap (λ t. in_kernel t modes) e ∙ sym (walk_is l modes)
