-- Where no static index names a counter, its value counts for nothing.
use Rattle.std.proofs.Common.{◌≡◌, ℕ, ℤ, pos, ◌-◌, Some, Bool, true, false, cond, ◌||◌, List, refl, sym, ap, ◌∙◌}
use Rattle.std.specs.Prelude.{nat_eq}
use Rattle.std.proofs.Math.Path.{fun_ext}
use Rattle.c_tree.specs.declared.expressions.MinMax.{MinMax}
use Rattle.kernel_model.specs.declared.types.expressions.RExpr.{RExpr}
use Rattle.kernel_model.specs.declared.types.expressions.RExpr.TheVariants.{Number, Scalar, Constant, Arg', Local', Const', Unary', Binary', Choice', Paren', Extremum', Absolute'}
use Rattle.kernel_model.specs.declared.types.statements.RStmt.{RStmt, Block', Declare, SetScalar, SetLocal, SetArg, If', For', Row_of-RStmt, end_of-RStmt, more_of-RStmt}
use Rattle.kernel_model.specs.Obeys.{Mode, Counters, with_counter, static, static_op, static_unary, Reads, Owns, Own, First, Second, own_side, target_event}
use Rattle.kernel_model.specs.Walk.{Covered, with_covered, both_covered, turns_covered, covered_after, row_covered_after, event_found, expr_found, own_found, right_found, turns_found, stmt_found, row_found}
use Rattle.access_check.specs.Indices.{expr_names, stmt_names, row_names}
use Rattle.access_check.proofs.Least.{Found}
use Rattle.lemmas.proofs.Truth.{or_right}

-- the counters have the same values, but for that one
abbrev pub AgreeBut : ℕ → Counters → Counters → Type 0
AgreeBut k cs ds = (j : ℕ) → nat_eq j k ≡ false → cs j ≡ ds j

pub or_left : (x y : Bool) → (x || y) ≡ false → x ≡ false
or_left true y e = e
or_left false y e = refl

-- one more counter
but_with : (k j : ℕ) (v : ℤ) (cs ds : Counters) → AgreeBut k cs ds → AgreeBut k (with_counter cs j v) (with_counter ds j v)
but_with k j v cs ds h i e = ap (λ x. cond (nat_eq i j) (Some v) x) (h i e)

-- the counter itself
pub but_itself : (k : ℕ) (v w : ℤ) (cs : Counters) → AgreeBut k (with_counter cs k v) (with_counter cs k w)
but_itself k v w cs i e = ap (λ b. cond b (Some v) (cs i)) e ∙ sym (ap (λ b. cond b (Some w) (cs i)) e)

module _ (modes : List Mode) (k : ℕ) where
  module _ (cs ds : Counters) (h : AgreeBut k cs ds) where
    same_static : (e : RExpr) → expr_names true e k ≡ false → static e cs ≡ static e ds
    same_static (Number n) e = refl
    same_static (Scalar j) e = h j e
    same_static (Constant j) e = refl
    same_static (Arg' a form p ix at) e = refl
    same_static (Local' from count form p ix at) e = refl
    same_static (Const' from count form p ix at) e = refl
    same_static (Unary' op p a) e = ap (static_unary op) (same_static a e)
    same_static (Binary' op p a q b at) e =
        ap (λ x. static_op op x (static b cs)) (same_static a (or_left (expr_names true a k) (expr_names true b k) e))
        ∙ ap (static_op op (static a ds)) (same_static b (or_right (expr_names true a k) (expr_names true b k) e))
    same_static (Choice' p x q a r b) e = refl
    same_static (Paren' p a) e = same_static a e
    same_static (Extremum' which p a q b) e = refl
    same_static (Absolute' p a) e = refl

    -- an index names what its parts do
    not_index : (e : RExpr) → expr_names true e k ≡ false → expr_names false e k ≡ false
    not_index (Number n) e = refl
    not_index (Scalar j) e = refl
    not_index (Constant j) e = refl
    not_index (Arg' a form p ix at) e = e
    not_index (Local' from count form p ix at) e = e
    not_index (Const' from count form p ix at) e = e
    not_index (Unary' op p a) e = not_index a e
    not_index (Binary' op p a q b at) e =
        ap (λ x. x || expr_names false b k) (not_index a (or_left (expr_names true a k) (expr_names true b k) e)) ∙ not_index b (or_right (expr_names true a k) (expr_names true b k) e)
    not_index (Choice' p x q a r b) e = e
    not_index (Paren' p a) e = not_index a e
    not_index (Extremum' which p a q b) e = e
    not_index (Absolute' p a) e = e

    module _ (c : Covered) where
      expr_free : (e : RExpr) → expr_names false e k ≡ false → (f : Found) → expr_found modes e cs c f ≡ expr_found modes e ds c f
      expr_free (Number n) e f = refl
      expr_free (Scalar j) e f = refl
      expr_free (Constant j) e f = refl
      expr_free (Arg' a form p ix at) e f =
          ap (λ i. event_found modes c (Reads a i at) (expr_found modes ix cs c f)) (same_static ix e) ∙ ap (event_found modes c (Reads a (static ix ds) at)) (expr_free ix (not_index ix e) f)
      expr_free (Local' from count form p ix at) e f = expr_free ix e f
      expr_free (Const' from count form p ix at) e f = expr_free ix e f
      expr_free (Unary' op p a) e f = expr_free a e f
      expr_free (Binary' op p a q b at) e f =
          expr_free b (or_right (expr_names false a k) (expr_names false b k) e) (expr_found modes a cs c f)
          ∙ ap (expr_found modes b ds c) (expr_free a (or_left (expr_names false a k) (expr_names false b k) e) f)
      expr_free (Choice' p x q a r b) e f =
          let n = or_right (expr_names false x k) (expr_names false a k || expr_names false b k) e in
          expr_free b (or_right (expr_names false a k) (expr_names false b k) n) (expr_found modes a cs c (expr_found modes x cs c f))
          ∙ ap (expr_found modes b ds c) (expr_free a (or_left (expr_names false a k) (expr_names false b k) n) (expr_found modes x cs c f)
          ∙ ap (expr_found modes a ds c) (expr_free x (or_left (expr_names false x k) (expr_names false a k || expr_names false b k) e) f))
      expr_free (Paren' p a) e f = expr_free a e f
      expr_free (Extremum' which p a q b) e f =
          expr_free b (or_right (expr_names false a k) (expr_names false b k) e) (expr_found modes a cs c f)
          ∙ ap (expr_found modes b ds c) (expr_free a (or_left (expr_names false a k) (expr_names false b k) e) f)
      expr_free (Absolute' p a) e f = expr_free a e f

      own_free : (which : MinMax) (e : RExpr) → expr_names false e k ≡ false → (f : Found) → own_found modes which e cs c f ≡ own_found modes which e ds c f
      own_free which (Arg' b form p ix at) e f =
          ap (λ i. event_found modes c (Owns which b i at) (expr_found modes ix cs c f)) (same_static ix e)
          ∙ ap (event_found modes c (Owns which b (static ix ds) at)) (expr_free ix (not_index ix e) f)
      own_free which x e f = expr_free x e f

      right_free : (own : Own) (e : RExpr) → expr_names false e k ≡ false → (f : Found) → right_found modes own e cs c f ≡ right_found modes own e ds c f
      right_free (First which) (Extremum' other p x q y) e f =
          expr_free y (or_right (expr_names false x k) (expr_names false y k) e) (own_found modes which x cs c f)
          ∙ ap (expr_found modes y ds c) (own_free which x (or_left (expr_names false x k) (expr_names false y k) e) f)
      right_free (Second which) (Extremum' other p x q y) e f =
          own_free which y (or_right (expr_names false x k) (expr_names false y k) e) (expr_found modes x cs c f)
          ∙ ap (own_found modes which y ds c) (expr_free x (or_left (expr_names false x k) (expr_names false y k) e) f)
      right_free own x e f = expr_free x e f

  mutual
    pub covered_free : (st : RStmt) (cs ds : Counters) → AgreeBut k cs ds → stmt_names st k ≡ false → (c : Covered) → covered_after st cs c ≡ covered_after st ds c
    covered_free (Block' shape all) cs ds h e c = covered_row_free all cs ds h e c
    covered_free (Declare from count) cs ds h e c = refl
    covered_free (SetScalar j op opat x) cs ds h e c = refl
    covered_free (SetLocal from count form ix at op opat x) cs ds h e c = refl
    covered_free (SetArg a form ix at op opat x) cs ds h e c = ap (λ i. with_covered a i c) (same_static cs ds h ix (or_left (expr_names true ix k) (expr_names false x k) e))
    covered_free (If' x p a q b) cs ds h e c =
        let n = or_right (expr_names false x k) (stmt_names a k || stmt_names b k) e in
        ap (λ d. both_covered d (covered_after b cs c)) (covered_free a cs ds h (or_left (stmt_names a k) (stmt_names b k) n) c)
        ∙ ap (both_covered (covered_after a ds c)) (covered_free b cs ds h (or_right (stmt_names a k) (stmt_names b k) n) c)
    covered_free (For' j first past p body) cs ds h e c =
        ap (λ u. turns_covered u first (past - first) c) (fun_ext (λ i. fun_ext (λ d. covered_free body (with_counter cs j (pos i)) (with_counter ds j (pos i)) (but_with k j (pos i) cs ds h) e d)))

    covered_row_free : {m : _} → (all : Row_of-RStmt m) (cs ds : Counters) → AgreeBut k cs ds → row_names all k ≡ false → (c : Covered) → row_covered_after all cs c ≡ row_covered_after all ds c
    covered_row_free end_of-RStmt cs ds h e c = refl
    covered_row_free (more_of-RStmt first rest) cs ds h e c =
        covered_row_free rest cs ds h (or_right (stmt_names first k) (row_names rest k) e) (covered_after first cs c)
        ∙ ap (row_covered_after rest ds) (covered_free first cs ds h (or_left (stmt_names first k) (row_names rest k) e) c)

  mutual
    pub found_free : (st : RStmt) (cs ds : Counters) → AgreeBut k cs ds → stmt_names st k ≡ false → (c : Covered) (f : Found) → stmt_found modes st cs c f ≡ stmt_found modes st ds c f
    found_free (Block' shape all) cs ds h e c f = found_row_free all cs ds h e c f
    found_free (Declare from count) cs ds h e c f = refl
    found_free (SetScalar j op opat x) cs ds h e c f = expr_free cs ds h c x e f
    found_free (SetLocal from count form ix at op opat x) cs ds h e c f =
        expr_free cs ds h c x (or_right (expr_names false ix k) (expr_names false x k) e) (expr_found modes ix cs c f)
        ∙ ap (expr_found modes x ds c) (expr_free cs ds h c ix (or_left (expr_names false ix k) (expr_names false x k) e) f)
    found_free (SetArg a form ix at op opat x) cs ds h e c f =
        let own = own_side a form ix op x in
        let named = or_left (expr_names true ix k) (expr_names false x k) e in
        ap (λ i. event_found modes c (target_event own op a i at) (right_found modes own x cs c (expr_found modes ix cs c f))) (same_static cs ds h ix named)
        ∙ ap (event_found modes c (target_event own op a (static ix ds) at)) (right_free cs ds h c own x (or_right (expr_names true ix k) (expr_names false x k) e) (expr_found modes ix cs c f)
        ∙ ap (right_found modes own x ds c) (expr_free cs ds h c ix (not_index cs ds h ix named) f))
    found_free (If' x p a q b) cs ds h e c f =
        let n = or_right (expr_names false x k) (stmt_names a k || stmt_names b k) e in
        found_free b cs ds h (or_right (stmt_names a k) (stmt_names b k) n) c (stmt_found modes a cs c (expr_found modes x cs c f))
        ∙ ap (stmt_found modes b ds c) (found_free a cs ds h (or_left (stmt_names a k) (stmt_names b k) n) c (expr_found modes x cs c f)
        ∙ ap (stmt_found modes a ds c) (expr_free cs ds h c x (or_left (expr_names false x k) (stmt_names a k || stmt_names b k) e) f))
    found_free (For' j first past p body) cs ds h e c f =
        ap (λ t. turns_found modes t (λ i d. covered_after body (with_counter cs j (pos i)) d) first (past - first) c f)
        (fun_ext (λ i. fun_ext (λ d. fun_ext (λ g. found_free body (with_counter cs j (pos i)) (with_counter ds j (pos i)) (but_with k j (pos i) cs ds h) e d g))))
        ∙ ap (λ u. turns_found modes (λ i d g. stmt_found modes body (with_counter ds j (pos i)) d g) u first (past - first) c f)
        (fun_ext (λ i. fun_ext (λ d. covered_free body (with_counter cs j (pos i)) (with_counter ds j (pos i)) (but_with k j (pos i) cs ds h) e d)))

    found_row_free : {m : _} → (all : Row_of-RStmt m) (cs ds : Counters) → AgreeBut k cs ds → row_names all k ≡ false
        → (c : Covered) (f : Found) → row_found modes all cs c f ≡ row_found modes all ds c f
    found_row_free end_of-RStmt cs ds h e c f = refl
    found_row_free (more_of-RStmt first rest) cs ds h e c f =
        let one = or_left (stmt_names first k) (row_names rest k) e in
        let more = or_right (stmt_names first k) (row_names rest k) e in
        found_row_free rest cs ds h more (covered_after first cs c) (stmt_found modes first cs c f)
        ∙ ap (λ d. row_found modes rest ds d (stmt_found modes first cs c f)) (covered_free first cs ds h one c)
        ∙ ap (row_found modes rest ds (covered_after first ds c)) (found_free first cs ds h one c f)
