-- The walk finds the refusal of a kernel.
use Rattle.std.proofs.Common.{◌≡◌, ℕ, zero, suc, pos, ◌-◌, List, [], ◌∷◌, ◌++◌, Option, Some, None, refl, ap, ◌∙◌, ◌⊎◌, inl, inr}
use Rattle.c_tree.specs.declared.expressions.MinMax.{MinMax}
use Rattle.kernel_model.specs.declared.types.expressions.RExpr.{RExpr}
use Rattle.kernel_model.specs.declared.types.expressions.RExpr.TheVariants.{Number, Scalar, Constant, Arg', Local', Const', Unary', Binary', Choice', Paren', Extremum', Absolute'}
use Rattle.kernel_model.specs.declared.types.statements.RStmt.{RStmt, Block', Declare, SetScalar, SetLocal, SetArg, If', For', Row_of-RStmt, end_of-RStmt, more_of-RStmt}
use Rattle.kernel_model.specs.Numbers.{is_lazy}
use Rattle.kernel_model.specs.Obeys.{Mode, Counters, with_counter, static, Event, Reads, Owns, ExprPath, if_taken, taken_if, expr_events, Own, First, Second, own_side, own_events, right_events, target_event, EachTurn, Path, RowPath, on_branch, turn_events, events, row_events, Assigned, with_assigned, assigned_after}
use Rattle.kernel_model.specs.Walk.{Breach, Covered, with_covered, turns_covered, covered_after, row_covered_after, event_found, expr_found, own_found, right_found, turns_found, stmt_found, row_found}
use Rattle.kernel_model.proofs.Paths.{some_if, some_expr_path, each_turn, some_path, some_row_path, assigned_after-append, expr_keeps, own_keeps, right_keeps, target_event_after}
use Rattle.kernel_model.proofs.Covers.{Covers, covers_along, covers_with, covers_both}
use Rattle.kernel_model.proofs.Steps.{Step, s_none, s_then, s_keep, s_taken, s_taken_if, s_branch, s_last, s_along}

-- ---- expressions

module _ (modes : List Mode) where
  module _ {I : Type 0} (p0 : I) (c : Covered) (f : I → Assigned) (cov : Covers c f) where
    pub s_expr : (e : RExpr) (cs : Counters) → Step modes f (λ w. expr_events e w cs) (λ found. expr_found modes e cs c found)
    s_expr (Number n) cs = s_none modes _ f
    s_expr (Scalar k) cs = s_none modes _ f
    s_expr (Constant k) cs = s_none modes _ f
    s_expr (Arg' a form q e at) cs =
        s_last modes p0 (some_expr_path e) c f (λ w. expr_events e w cs) (λ found. expr_found modes e cs c found) cov (λ p w. expr_keeps e w cs (f p)) (s_expr e cs) (Reads a (static e cs) at)
    s_expr (Local' from count form q e at) cs = s_expr e cs
    s_expr (Const' from count form q e at) cs = s_expr e cs
    s_expr (Unary' op q a) cs = s_expr a cs
    s_expr (Binary' op q a r b at) cs =
        s_keep modes (some_expr_path a) (some_if (is_lazy op) (some_expr_path b)) f (λ w. expr_events a w cs)
        (λ w. taken_if (is_lazy op) (λ v. expr_events b v cs) w) (λ found. expr_found modes a cs c found)
        (λ found. expr_found modes b cs c found)
        (λ p w. expr_keeps a w cs (f p)) (s_expr a cs) (s_taken_if modes (is_lazy op) f (λ v. expr_events b v cs) (λ found. expr_found modes b cs c found) (s_expr b cs))
    s_expr (Choice' q x r a l b) cs =
        s_along modes f (λ (w : ExprPath x × (Option (ExprPath a) × Option (ExprPath b))). expr_events x w.0 cs ++
        (if_taken (λ v. expr_events a v cs) w.1.0 ++ if_taken (λ v. expr_events b v cs) w.1.1)) f
        (λ w. expr_events (Choice' q x r a l b) w cs)
        (λ found. expr_found modes b cs c (expr_found modes a cs c (expr_found modes x cs c found)))
        (λ rule at h. (h.0, (h.1.0, h.1.1.0, h.1.1.1), h.2)) (λ rule at h. (h.0, (h.1.0, (h.1.1, h.1.2)), h.2))
        (s_keep modes (some_expr_path x) (None, None) f (λ w. expr_events x w cs)
        (λ (w : Option (ExprPath a) × Option (ExprPath b)). if_taken (λ v. expr_events a v cs) w.0 ++ if_taken (λ v. expr_events b v cs)
        w.1) (λ found. expr_found modes x cs c found) (λ found. expr_found modes b cs c (expr_found modes a cs c found))
        (λ p w. expr_keeps x w cs (f p)) (s_expr x cs)
        (s_keep modes None None f (λ w. if_taken (λ v. expr_events a v cs) w) (λ w. if_taken (λ v. expr_events b v cs) w)
        (λ found. expr_found modes a cs c found) (λ found. expr_found modes b cs c found)
        (λ p w. taken_keeps (λ v. expr_events a v cs) w (f p) (λ v. expr_keeps a v cs (f p)))
        (s_taken modes f (λ v. expr_events a v cs) (λ found. expr_found modes a cs c found) (s_expr a cs))
        (s_taken modes f (λ v. expr_events b v cs) (λ found. expr_found modes b cs c found) (s_expr b cs))))
      where
        taken_keeps : {P : Type 0} → (g : P → List Event) (o : Option P) (before : Assigned) → ((w : P) → assigned_after before (g w) ≡ before) → assigned_after before (if_taken g o) ≡ before
        taken_keeps g None before h = refl
        taken_keeps g (Some w) before h = h w
    s_expr (Paren' q a) cs = s_expr a cs
    s_expr (Extremum' which q a r b) cs =
        s_keep modes (some_expr_path a) (some_expr_path b) f (λ w. expr_events a w cs) (λ w. expr_events b w cs)
        (λ found. expr_found modes a cs c found) (λ found. expr_found modes b cs c found) (λ p w. expr_keeps a w cs (f p)) (s_expr a cs)
        (s_expr b cs)
    s_expr (Absolute' q a) cs = s_expr a cs

    s_own : (which : MinMax) (e : RExpr) (cs : Counters) → Step modes f (λ w. own_events which e w cs) (λ found. own_found modes which e cs c found)
    s_own which (Arg' b form q jx at) cs =
        s_last modes p0 (some_expr_path jx) c f (λ w. expr_events jx w cs) (λ found. expr_found modes jx cs c found) cov
        (λ p w. expr_keeps jx w cs (f p)) (s_expr jx cs) (Owns which b (static jx cs) at)
    s_own which e cs = s_expr e cs

    pub s_right : (own : Own) (e : RExpr) (cs : Counters) → Step modes f (λ w. right_events own e w cs) (λ found. right_found modes own e cs c found)
    s_right (First which) (Extremum' other q x r y) cs =
        s_keep modes (some_expr_path x) (some_expr_path y) f (λ w. own_events which x w cs) (λ w. expr_events y w cs)
        (λ found. own_found modes which x cs c found) (λ found. expr_found modes y cs c found) (λ p w. own_keeps which x w cs (f p))
        (s_own which x cs) (s_expr y cs)
    s_right (Second which) (Extremum' other q x r y) cs =
        s_keep modes (some_expr_path x) (some_expr_path y) f (λ w. expr_events x w cs) (λ w. own_events which y w cs)
        (λ found. expr_found modes x cs c found) (λ found. own_found modes which y cs c found) (λ p w. expr_keeps x w cs (f p))
        (s_expr x cs) (s_own which y cs)
    s_right own e cs = s_expr e cs

-- ---- what is covered after a statement

after_expr_is : (e : RExpr) (w : ExprPath e) (cs : Counters) (before : Assigned) (ys : List Event) → assigned_after before (expr_events e w cs ++ ys) ≡ assigned_after before ys
after_expr_is e w cs before ys = assigned_after-append before (expr_events e w cs) ys ∙ ap (λ b. assigned_after b ys) (expr_keeps e w cs before)

seq_covers : {I P Q : Type 0} → (d : Covered) (f : I → Assigned) (x : P → List Event) (y : Q → List Event)
    → Covers d (λ (q : (I × P) × Q). assigned_after (assigned_after (f q.0.0) (x q.0.1)) (y q.1))
    → Covers d (λ (q : I × (P × Q)). assigned_after (f q.0) (x q.1.0 ++ y q.1.1))
seq_covers d f x y cov =
    covers_along d _ _ (λ q. (((q.0, q.1.0), q.1.1), assigned_after-append (f q.0) (x q.1.0) (y q.1.1))) (λ q. ((q.0.0, (q.0.1, q.1)), assigned_after-append (f q.0.0) (x q.0.1) (y q.1))) cov

covers_turns : {P : Type 0} → P → (g : ℕ → P → List Event) (u : ℕ → Covered → Covered)
    → ((i : ℕ) (J : Type 0) (c : Covered) (f : J → Assigned) → J → Covers c f
    → Covers (u i c) (λ (q : J × P). assigned_after (f q.0) (g i q.1))) → (i n : ℕ) (J : Type 0) (c : Covered) (f : J → Assigned) → J
    → Covers c f → Covers (turns_covered u i n c) (λ (q : J × EachTurn P n). assigned_after (f q.0) (turn_events g i n q.1))
covers_turns w0 g u ih i zero J c f j0 cov = covers_along c f _ (λ q. (q.0, refl)) (λ p. ((p, tt), refl)) cov
covers_turns {P} w0 g u ih i (suc n) J c f j0 cov =
    seq_covers (turns_covered u (suc i) n (u i c)) f (g i) (turn_events g (suc i) n)
    (covers_turns w0 g u ih (suc i) n (J × P) (u i c) (λ q. assigned_after (f q.0) (g i q.1)) (j0, w0) (ih i J c f j0 cov))

mutual
  pub covers_stmt : (st : RStmt) (cs : Counters) (J : Type 0) (c : Covered) (f : J → Assigned) → J → Covers c f
      → Covers (covered_after st cs c) (λ (q : J × Path st). assigned_after (f q.0) (events st q.1 cs))
  covers_stmt (Block' shape all) cs J c f j0 cov = covers_row all cs J c f j0 cov
  covers_stmt (Declare from count) cs J c f j0 cov = covers_along c f _ (λ q. (q.0, refl)) (λ p. ((p, tt), refl)) cov
  covers_stmt (SetScalar k op opat e) cs J c f j0 cov =
      covers_along c f _ (λ q. (q.0, expr_keeps e q.1 cs (f q.0))) (λ p. ((p, some_expr_path e), expr_keeps e (some_expr_path e) cs (f p))) cov
  covers_stmt (SetLocal from count form ix at op opat e) cs J c f j0 cov =
      let same = λ (p : J) (v : ExprPath ix) (w : ExprPath e). after_expr_is ix v cs (f p) (expr_events e w cs) ∙ expr_keeps e w cs (f p) in
      covers_along c f _ (λ q. (q.0, same q.0 q.1.0 q.1.1)) (λ p. ((p, (some_expr_path ix, some_expr_path e)), same p (some_expr_path ix) (some_expr_path e))) cov
  covers_stmt (SetArg a form ix at op opat e) cs J c f j0 cov =
      let own = own_side a form ix op e in
      let end = target_event own op a (static ix cs) at ∷ [] in
      let same = λ (p : J) (v : ExprPath ix) (w : ExprPath e). after_expr_is ix v cs (f p) (right_events own e w cs ++ end)
      ∙ assigned_after-append (f p) (right_events own e w cs) end ∙ ap (λ l. assigned_after l end) (right_keeps own e w cs (f p))
      ∙ target_event_after own op a (static ix cs) at (f p) in
      covers_along (with_covered a (static ix cs) c) (λ p. with_assigned a (static ix cs) (f p)) _ (λ q. (q.0, same q.0 q.1.0 q.1.1))
      (λ p. ((p, (some_expr_path ix, some_expr_path e)), same p (some_expr_path ix) (some_expr_path e)))
      (covers_with j0 c f cov a (static ix cs))
  covers_stmt (If' e p a q b) cs J c f j0 cov =
      covers_both (covered_after a cs c) (covered_after b cs c) (λ (r : J × Path a). assigned_after (f r.0) (events a r.1 cs))
      (λ (r : J × Path b). assigned_after (f r.0) (events b r.1 cs))
      (λ (r : J × (ExprPath e × (Path a ⊎ Path b))). assigned_after (f r.0)
      (expr_events e r.1.0 cs ++ on_branch (λ v. events a v cs) (λ v. events b v cs) r.1.1))
      (λ r. ((r.0, (some_expr_path e, inl r.1)), after_expr_is e (some_expr_path e) cs (f r.0) (events a r.1 cs)))
      (λ r. ((r.0, (some_expr_path e, inr r.1)), after_expr_is e (some_expr_path e) cs (f r.0) (events b r.1 cs)))
      (λ r. branch r.0 r.1.0 r.1.1) (covers_stmt a cs J c f j0 cov) (covers_stmt b cs J c f j0 cov)
    where
      branch : (j : J) (w : ExprPath e) (v : Path a ⊎ Path b)
          → ((r : J × Path a) × (assigned_after (f j) (expr_events e w cs ++ on_branch (λ v. events a v cs) (λ v. events b v cs) v) ≡
          assigned_after (f r.0) (events a r.1 cs))) ⊎
          ((r : J × Path b) × (assigned_after (f j) (expr_events e w cs ++ on_branch (λ v. events a v cs) (λ v. events b v cs) v) ≡
          assigned_after (f r.0) (events b r.1 cs)))
      branch j w (inl v) = inl ((j, v), after_expr_is e w cs (f j) (events a v cs))
      branch j w (inr v) = inr ((j, v), after_expr_is e w cs (f j) (events b v cs))
  covers_stmt (For' k first past p body) cs J c f j0 cov =
      covers_turns (some_path body) (λ i v. events body v (with_counter cs k (pos i))) (λ i d. covered_after body (with_counter cs k (pos i)) d)
      (λ i K d g k0 cov'. covers_stmt body (with_counter cs k (pos i)) K d g k0 cov') first (past - first) J c f j0 cov

  covers_row : {m : _} → (all : Row_of-RStmt m) (cs : Counters) (J : Type 0) (c : Covered) (f : J → Assigned) → J → Covers c f
      → Covers (row_covered_after all cs c) (λ (q : J × RowPath all). assigned_after (f q.0) (row_events all q.1 cs))
  covers_row end_of-RStmt cs J c f j0 cov = covers_along c f _ (λ q. (q.0, refl)) (λ p. ((p, tt), refl)) cov
  covers_row (more_of-RStmt first rest) cs J c f j0 cov =
      seq_covers (row_covered_after rest cs (covered_after first cs c)) f (λ w. events first w cs) (λ w. row_events rest w cs)
      (covers_row rest cs (J × Path first) (covered_after first cs c) (λ q. assigned_after (f q.0) (events first q.1 cs)) (j0, some_path first) (covers_stmt first cs J c f j0 cov))

-- ---- what is found after a statement

module _ (modes : List Mode) where
  s_turns : {P : Type 0} → P → (g : ℕ → P → List Event) (t : ℕ → Covered → Option Breach → Option Breach) (u : ℕ → Covered → Covered)
      → ((i : ℕ) (J : Type 0) (c : Covered) (f : J → Assigned) → J → Covers c f
      → Covers (u i c) (λ (q : J × P). assigned_after (f q.0) (g i q.1)))
      → ((i : ℕ) (J : Type 0) (c : Covered) (f : J → Assigned) → J → Covers c f → Step modes f (g i) (λ found. t i c found))
      → (i n : ℕ) (J : Type 0) (c : Covered) (f : J → Assigned) → J → Covers c f
      → Step modes f (λ (w : EachTurn P n). turn_events g i n w) (λ found. turns_found modes t u i n c found)
  s_turns w0 g t u ih st i zero J c f j0 cov = s_none modes _ f
  s_turns {P} w0 g t u ih st i (suc n) J c f j0 cov =
      s_then modes (each_turn w0 n) f (g i) (λ w. turn_events g (suc i) n w) (λ found. t i c found) (λ found. turns_found modes t u (suc i) n (u i c) found) (st i J c f j0 cov)
      (s_turns w0 g t u ih st (suc i) n (J × P) (u i c) (λ q. assigned_after (f q.0) (g i q.1)) (j0, w0) (ih i J c f j0 cov))

  mutual
    pub s_stmt : (st : RStmt) (cs : Counters) (J : Type 0) (c : Covered) (f : J → Assigned) → J → Covers c f → Step modes f (λ w. events st w cs) (λ found. stmt_found modes st cs c found)
    s_stmt (Block' shape all) cs J c f j0 cov = s_row all cs J c f j0 cov
    s_stmt (Declare from count) cs J c f j0 cov = s_none modes _ f
    s_stmt (SetScalar k op opat e) cs J c f j0 cov = s_expr modes j0 c f cov e cs
    s_stmt (SetLocal from count form ix at op opat e) cs J c f j0 cov =
        s_keep modes (some_expr_path ix) (some_expr_path e) f (λ w. expr_events ix w cs) (λ w. expr_events e w cs)
        (λ found. expr_found modes ix cs c found) (λ found. expr_found modes e cs c found) (λ p w. expr_keeps ix w cs (f p))
        (s_expr modes j0 c f cov ix cs) (s_expr modes j0 c f cov e cs)
    s_stmt (SetArg a form ix at op opat e) cs J c f j0 cov =
        let own = own_side a form ix op e in
        let end = target_event own op a (static ix cs) at in
        s_keep modes (some_expr_path ix) (some_expr_path e) f (λ w. expr_events ix w cs) (λ w. right_events own e w cs ++ end ∷ [])
        (λ found. expr_found modes ix cs c found) (λ found. event_found modes c end (right_found modes own e cs c found))
        (λ p w. expr_keeps ix w cs (f p)) (s_expr modes j0 c f cov ix cs)
        (s_last modes j0 (some_expr_path e) c f (λ w. right_events own e w cs) (λ found. right_found modes own e cs c found) cov
        (λ p w. right_keeps own e w cs (f p)) (s_right modes j0 c f cov own e cs) end)
    s_stmt (If' e p a q b) cs J c f j0 cov =
        s_keep modes (some_expr_path e) (inl (some_path a)) f (λ w. expr_events e w cs)
        (λ w. on_branch (λ v. events a v cs) (λ v. events b v cs) w) (λ found. expr_found modes e cs c found)
        (λ found. stmt_found modes b cs c (stmt_found modes a cs c found)) (λ p w. expr_keeps e w cs (f p))
        (s_expr modes j0 c f cov e cs)
        (s_branch modes f (λ v. events a v cs) (λ v. events b v cs) (λ found. stmt_found modes a cs c found)
        (λ found. stmt_found modes b cs c found) (s_stmt a cs J c f j0 cov) (s_stmt b cs J c f j0 cov))
    s_stmt (For' k first past p body) cs J c f j0 cov =
        s_turns (some_path body) (λ i v. events body v (with_counter cs k (pos i)))
        (λ i d g. stmt_found modes body (with_counter cs k (pos i)) d g) (λ i d. covered_after body (with_counter cs k (pos i)) d)
        (λ i K d g k0 cov'. covers_stmt body (with_counter cs k (pos i)) K d g k0 cov')
        (λ i K d g k0 cov'. s_stmt body (with_counter cs k (pos i)) K d g k0 cov') first (past - first) J c f j0 cov

    s_row : {m : _} → (all : Row_of-RStmt m) (cs : Counters) (J : Type 0) (c : Covered) (f : J → Assigned) → J → Covers c f
        → Step modes f (λ w. row_events all w cs) (λ found. row_found modes all cs c found)
    s_row end_of-RStmt cs J c f j0 cov = s_none modes _ f
    s_row (more_of-RStmt first rest) cs J c f j0 cov =
        s_then modes (some_row_path rest) f (λ w. events first w cs) (λ w. row_events rest w cs)
        (λ found. stmt_found modes first cs c found) (λ found. row_found modes rest cs (covered_after first cs c) found)
        (s_stmt first cs J c f j0 cov)
        (s_row rest cs (J × Path first) (covered_after first cs c) (λ q. assigned_after (f q.0) (events first q.1 cs)) (j0, some_path first) (covers_stmt first cs J c f j0 cov))
