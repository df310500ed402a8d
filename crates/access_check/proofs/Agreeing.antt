-- Sets that agree below the dims lead the walk to the same.
use Rattle.std.proofs.Common.{◌≡◌, ℕ, zero, suc, ℤ, pos, negsuc, ◌-◌, List, Option, Some, None, Bool, true, false, ◌&&◌, ◌||◌, refl, ap, ◌∙◌}
use Rattle.std.specs.Prelude.{nat_lt, nat_eq}
use Rattle.std.proofs.lemmas.Bool.{ltb-true}
use Rattle.c_tree.specs.declared.expressions.MinMax.{MinMax}
use Rattle.kernel_model.specs.declared.types.expressions.RExpr.{RExpr}
use Rattle.kernel_model.specs.declared.types.expressions.RExpr.TheVariants.{Number, Scalar, Constant, Arg', Local', Const', Unary', Binary', Choice', Paren', Extremum', Absolute'}
use Rattle.kernel_model.specs.declared.types.statements.RStmt.{RStmt, Block', Declare, SetScalar, SetLocal, SetArg, If', For', Row_of-RStmt, end_of-RStmt, more_of-RStmt}
use Rattle.kernel_model.specs.Obeys.{Mode, mode_at, Counters, with_counter, static, Event, Reads, Owns, Own, First, Second, own_side, target_event}
use Rattle.kernel_model.specs.Refusals.{WritesRead, ReadsInc, IncNotSum, ReadsUnwritten, WriteIndexNotStatic, LiteralIndexOut, MinMaxForm, argument_of, index_of, place_of, is_read, opposite}
use Rattle.kernel_model.specs.Walk.{Breach, Covered, with_covered, both_covered, turns_covered, covered_after, row_covered_after, is_op_write, is_unwritten, noted_if, with_rule, event_found, expr_found, own_found, right_found, turns_found, stmt_found, row_found}
use Rattle.access_check.specs.Agree.{Agree}

module _ (modes : List Mode) where
  unwritten_same : (c d : Covered) → Agree modes c d → (a : ℕ) (ix : Option ℤ) → is_unwritten (mode_at modes a).dim (c a) ix ≡ is_unwritten (mode_at modes a).dim (d a) ix
  unwritten_same c d h a None = refl
  unwritten_same c d h a (Some (negsuc i)) = refl
  unwritten_same c d h a (Some (pos i)) = pick (nat_lt i (mode_at modes a).dim) refl
    where
      pick : (b : Bool) → nat_lt i (mode_at modes a).dim ≡ b → (b && opposite (c a i)) ≡ (b && opposite (d a i))
      pick true e = ap opposite (h a i (ltb-true i (mode_at modes a).dim e))
      pick false e = refl

  event_same : (c d : Covered) → Agree modes c d → (e : Event) (found : Option Breach) → event_found modes c e found ≡ event_found modes d e found
  event_same c d h e found =
      let acc = (mode_at modes (argument_of e)).access in
      let dim = (mode_at modes (argument_of e)).dim in
      ap (λ u. with_rule d acc dim e MinMaxForm
      (with_rule d acc dim e LiteralIndexOut
      (with_rule d acc dim e WriteIndexNotStatic
      (noted_if (is_op_write acc && (is_read acc e && u)) ReadsUnwritten (place_of e)
      (with_rule d acc dim e IncNotSum (with_rule d acc dim e ReadsInc (with_rule d acc dim e WritesRead found)))))))
      (unwritten_same c d h (argument_of e) (index_of e))

  module _ (c d : Covered) (h : Agree modes c d) (cs : Counters) where
    pub expr_same : (e : RExpr) (found : Option Breach) → expr_found modes e cs c found ≡ expr_found modes e cs d found
    expr_same (Number n) found = refl
    expr_same (Scalar k) found = refl
    expr_same (Constant k) found = refl
    expr_same (Arg' a form p e at) found = event_same c d h (Reads a (static e cs) at) (expr_found modes e cs c found) ∙ ap (event_found modes d (Reads a (static e cs) at)) (expr_same e found)
    expr_same (Local' from count form p e at) found = expr_same e found
    expr_same (Const' from count form p e at) found = expr_same e found
    expr_same (Unary' op p a) found = expr_same a found
    expr_same (Binary' op p a q b at) found = expr_same b (expr_found modes a cs c found) ∙ ap (expr_found modes b cs d) (expr_same a found)
    expr_same (Choice' p x q a r b) found =
        expr_same b (expr_found modes a cs c (expr_found modes x cs c found))
        ∙ ap (expr_found modes b cs d) (expr_same a (expr_found modes x cs c found) ∙ ap (expr_found modes a cs d) (expr_same x found))
    expr_same (Paren' p a) found = expr_same a found
    expr_same (Extremum' which p a q b) found = expr_same b (expr_found modes a cs c found) ∙ ap (expr_found modes b cs d) (expr_same a found)
    expr_same (Absolute' p a) found = expr_same a found

    own_same : (which : MinMax) (e : RExpr) (found : Option Breach) → own_found modes which e cs c found ≡ own_found modes which e cs d found
    own_same which (Arg' b form p jx at) found = event_same c d h (Owns which b (static jx cs) at) (expr_found modes jx cs c found)
        ∙ ap (event_found modes d (Owns which b (static jx cs) at)) (expr_same jx found)
    own_same which e found = expr_same e found

    right_same : (own : Own) (e : RExpr) (found : Option Breach) → right_found modes own e cs c found ≡ right_found modes own e cs d found
    right_same (First which) (Extremum' other p x q y) found = expr_same y (own_found modes which x cs c found) ∙ ap (expr_found modes y cs d) (own_same which x found)
    right_same (Second which) (Extremum' other p x q y) found = own_same which y (expr_found modes x cs c found) ∙ ap (own_found modes which y cs d) (expr_same x found)
    right_same own e found = expr_same e found

  with_same : (c d : Covered) → Agree modes c d → (a : ℕ) (ix : Option ℤ) → Agree modes (with_covered a ix c) (with_covered a ix d)
  with_same c d h a None = h
  with_same c d h a (Some (negsuc i)) = h
  with_same c d h a (Some (pos i)) = λ b j l. ap (λ x. (nat_eq a b && nat_eq i j) || x) (h b j l)

  pub both_agree : (c d c' d' : Covered) → Agree modes c c' → Agree modes d d' → Agree modes (both_covered c d) (both_covered c' d')
  both_agree c d c' d' h k = λ b j l. ap (λ x. x && d b j) (h b j l) ∙ ap (λ x. c' b j && x) (k b j l)

  pub turns_agree : (u : ℕ → Covered → Covered) → ((i : ℕ) (c d : Covered) → Agree modes c d → Agree modes (u i c) (u i d))
      → (i n : ℕ) (c d : Covered) → Agree modes c d → Agree modes (turns_covered u i n c) (turns_covered u i n d)
  turns_agree u ih i zero c d h = h
  turns_agree u ih i (suc n) c d h = turns_agree u ih (suc i) n (u i c) (u i d) (ih i c d h)

  pub turns_same : (t : ℕ → Covered → Option Breach → Option Breach) (u : ℕ → Covered → Covered)
      → ((i : ℕ) (c d : Covered) → Agree modes c d → Agree modes (u i c) (u i d))
      → ((i : ℕ) (c d : Covered) → Agree modes c d → (found : Option Breach) → t i c found ≡ t i d found) → (i n : ℕ) (c d : Covered)
      → Agree modes c d → (found : Option Breach) → turns_found modes t u i n c found ≡ turns_found modes t u i n d found
  turns_same t u ih it i zero c d h found = refl
  turns_same t u ih it i (suc n) c d h found =
      turns_same t u ih it (suc i) n (u i c) (u i d) (ih i c d h) (t i c found) ∙ ap (turns_found modes t u (suc i) n (u i d)) (it i c d h found)

  mutual
    pub covered_agree : (st : RStmt) (cs : Counters) (c d : Covered) → Agree modes c d → Agree modes (covered_after st cs c) (covered_after st cs d)
    covered_agree (Block' shape all) cs c d h = row_agree all cs c d h
    covered_agree (Declare from count) cs c d h = h
    covered_agree (SetScalar k op opat e) cs c d h = h
    covered_agree (SetLocal from count form ix at op opat e) cs c d h = h
    covered_agree (SetArg a form ix at op opat e) cs c d h = with_same c d h a (static ix cs)
    covered_agree (If' e p a q b) cs c d h = both_agree (covered_after a cs c) (covered_after b cs c) (covered_after a cs d)
        (covered_after b cs d) (covered_agree a cs c d h) (covered_agree b cs c d h)
    covered_agree (For' k first past p body) cs c d h =
        turns_agree (λ i x. covered_after body (with_counter cs k (pos i)) x) (λ i x y g. covered_agree body (with_counter cs k (pos i)) x y g) first (past - first) c d h

    row_agree : {m : _} → (all : Row_of-RStmt m) (cs : Counters) (c d : Covered) → Agree modes c d → Agree modes (row_covered_after all cs c) (row_covered_after all cs d)
    row_agree end_of-RStmt cs c d h = h
    row_agree (more_of-RStmt first rest) cs c d h = row_agree rest cs (covered_after first cs c) (covered_after first cs d) (covered_agree first cs c d h)

  mutual
    pub stmt_same : (st : RStmt) (cs : Counters) (c d : Covered) → Agree modes c d → (found : Option Breach) → stmt_found modes st cs c found ≡ stmt_found modes st cs d found
    stmt_same (Block' shape all) cs c d h found = row_same all cs c d h found
    stmt_same (Declare from count) cs c d h found = refl
    stmt_same (SetScalar k op opat e) cs c d h found = expr_same c d h cs e found
    stmt_same (SetLocal from count form ix at op opat e) cs c d h found = expr_same c d h cs e (expr_found modes ix cs c found) ∙ ap (expr_found modes e cs d) (expr_same c d h cs ix found)
    stmt_same (SetArg a form ix at op opat e) cs c d h found =
        let own = own_side a form ix op e in
        let end = target_event own op a (static ix cs) at in
        event_same c d h end (right_found modes own e cs c (expr_found modes ix cs c found))
        ∙ ap (event_found modes d end) (right_same c d h cs own e (expr_found modes ix cs c found)
        ∙ ap (right_found modes own e cs d) (expr_same c d h cs ix found))
    stmt_same (If' e p a q b) cs c d h found =
        stmt_same b cs c d h (stmt_found modes a cs c (expr_found modes e cs c found))
        ∙ ap (stmt_found modes b cs d) (stmt_same a cs c d h (expr_found modes e cs c found)
        ∙ ap (stmt_found modes a cs d) (expr_same c d h cs e found))
    stmt_same (For' k first past p body) cs c d h found =
        turns_same (λ i x g. stmt_found modes body (with_counter cs k (pos i)) x g) (λ i x. covered_after body (with_counter cs k (pos i)) x)
        (λ i x y g. covered_agree body (with_counter cs k (pos i)) x y g) (λ i x y g f. stmt_same body (with_counter cs k (pos i)) x y g f) first (past - first) c d h found

    row_same : {m : _} → (all : Row_of-RStmt m) (cs : Counters) (c d : Covered) → Agree modes c d → (found : Option Breach) → row_found modes all cs c found ≡ row_found modes all cs d found
    row_same end_of-RStmt cs c d h found = refl
    row_same (more_of-RStmt first rest) cs c d h found =
        row_same rest cs (covered_after first cs c) (covered_after first cs d) (covered_agree first cs c d h)
        (stmt_found modes first cs c found) ∙ ap (row_found modes rest cs (covered_after first cs d)) (stmt_same first cs c d h found)
