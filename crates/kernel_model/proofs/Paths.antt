-- Paths, and what is allowed along them.
use Rattle.std.proofs.Common.{◌≡◌, ℕ, zero, suc, ℤ, ◌-◌, List, [], ◌∷◌, ◌++◌, Option, Some, None, refl, sym, ap, ◌∙◌, subst, inl}
use Rattle.std.specs.Prelude.{Bool, true, false}
use Rattle.c_tree.specs.declared.lexer.tokens.Pos.{Pos}
use Rattle.c_tree.specs.declared.expressions.MinMax.{MinMax}
use Rattle.c_tree.specs.declared.declarations.AssignOp.{AssignOp}
use Rattle.c_tree.specs.declared.declarations.AssignOp.TheVariants as assign
use Rattle.kernel_model.specs.declared.types.expressions.RExpr.{RExpr}
use Rattle.kernel_model.specs.declared.types.expressions.RExpr.TheVariants.{Number, Scalar, Constant, Arg', Local', Const', Unary', Binary', Choice', Paren', Extremum', Absolute'}
use Rattle.kernel_model.specs.declared.types.statements.RStmt.{RStmt, Block', Declare, SetScalar, SetLocal, SetArg, If', For', Row_of-RStmt, end_of-RStmt, more_of-RStmt}
use Rattle.kernel_model.specs.Numbers.{is_lazy}
use Rattle.kernel_model.specs.Obeys.{Mode, Counters, Event, Reads, Owns, PathIf, ExprPath, if_taken, taken_if, expr_events, EachTurn, Path, RowPath, Assigned, after_event, with_assigned, AllAllowed, assigned_after, static, Own, Neither, First, Second, own_events, right_events, store_event, target_event}

-- ---- there is a path

abbrev pub some_if : {P : Type 0} → (may_skip : Bool) → P → PathIf may_skip P
some_if true w = None
some_if false w = w

-- the path of a part that isn't skipped
abbrev pub taken : {P : Type 0} → (may_skip : Bool) → P → PathIf may_skip P
taken true w = Some w
taken false w = w

pub taken_if-taken : {P : Type 0} → (may_skip : Bool) (f : P → List Event) (w : P) → taken_if may_skip f (taken may_skip w) ≡ f w
taken_if-taken true f w = refl
taken_if-taken false f w = refl

-- a path that skips what may be skipped
pub some_expr_path : (e : RExpr) → ExprPath e
some_expr_path (Number n) = tt
some_expr_path (Scalar k) = tt
some_expr_path (Constant k) = tt
some_expr_path (Arg' a form p e at) = some_expr_path e
some_expr_path (Local' from count form p e at) = some_expr_path e
some_expr_path (Const' from count form p e at) = some_expr_path e
some_expr_path (Unary' op p a) = some_expr_path a
some_expr_path (Binary' op p a q b at) = (some_expr_path a, some_if (is_lazy op) (some_expr_path b))
some_expr_path (Choice' p c q a r b) = (some_expr_path c, None, None)
some_expr_path (Paren' p a) = some_expr_path a
some_expr_path (Extremum' which p a q b) = (some_expr_path a, some_expr_path b)
some_expr_path (Absolute' p a) = some_expr_path a

pub each_turn : {P : Type 0} → P → (n : ℕ) → EachTurn P n
each_turn w zero = tt
each_turn w (suc n) = (w, each_turn w n)

mutual
  pub some_path : (s : RStmt) → Path s
  some_path (Block' shape all) = some_row_path all
  some_path (Declare from count) = tt
  some_path (SetScalar k op opat e) = some_expr_path e
  some_path (SetLocal from count form ix at op opat e) = (some_expr_path ix, some_expr_path e)
  some_path (SetArg a form ix at op opat e) = (some_expr_path ix, some_expr_path e)
  some_path (If' e p a q b) = (some_expr_path e, inl (some_path a))
  some_path (For' k first past p body) = each_turn (some_path body) (past - first)

  pub some_row_path : {m : _} → (all : Row_of-RStmt m) → RowPath all
  some_row_path end_of-RStmt = tt
  some_row_path (more_of-RStmt first rest) = (some_path first, some_row_path rest)

-- ---- parts of a path

module _ (modes : List Mode) where
  pub allowed_front : (before : Assigned) (xs ys : List Event) → AllAllowed modes before (xs ++ ys) → AllAllowed modes before xs
  allowed_front before [] ys h = tt
  allowed_front before (x ∷ xs) ys h = (h.0, allowed_front (after_event x before) xs ys h.1)

  pub allowed_back : (before : Assigned) (xs ys : List Event) → AllAllowed modes before (xs ++ ys) → AllAllowed modes (assigned_after before xs) ys
  allowed_back before [] ys h = h
  allowed_back before (x ∷ xs) ys h = allowed_back (after_event x before) xs ys h.1

  pub allowed_both : (before : Assigned) (xs ys : List Event) → AllAllowed modes before xs → AllAllowed modes (assigned_after before xs) ys → AllAllowed modes before (xs ++ ys)
  allowed_both before [] ys h k = k
  allowed_both before (x ∷ xs) ys h k = (h.0, allowed_both (after_event x before) xs ys h.1 k)

pub assigned_after-append : (before : Assigned) (xs ys : List Event) → assigned_after before (xs ++ ys) ≡ assigned_after (assigned_after before xs) ys
assigned_after-append before [] ys = refl
assigned_after-append before (x ∷ xs) ys = assigned_after-append (after_event x before) xs ys

-- ---- an expression assigns nothing

if_taken_keeps : {P : Type 0} → (f : P → List Event) (o : Option P) (before : Assigned) → ((w : P) → assigned_after before (f w) ≡ before) → assigned_after before (if_taken f o) ≡ before
if_taken_keeps f None before h = refl
if_taken_keeps f (Some w) before h = h w

taken_if_keeps : {P : Type 0} → (b : Bool) (f : P → List Event) (o : PathIf b P) (before : Assigned)
    → ((w : P) → assigned_after before (f w) ≡ before) → assigned_after before (taken_if b f o) ≡ before
taken_if_keeps true f o before h = if_taken_keeps f o before h
taken_if_keeps false f o before h = h o

pub keeps_two : (xs ys : List Event) (before : Assigned) → assigned_after before xs ≡ before → assigned_after before ys ≡ before → assigned_after before (xs ++ ys) ≡ before
keeps_two xs ys before p q = assigned_after-append before xs ys ∙ ap (λ b. assigned_after b ys) p ∙ q

pub expr_keeps : (e : RExpr) (w : ExprPath e) (cs : Counters) (before : Assigned) → assigned_after before (expr_events e w cs) ≡ before
expr_keeps (Number n) w cs before = refl
expr_keeps (Scalar k) w cs before = refl
expr_keeps (Constant k) w cs before = refl
expr_keeps (Arg' a form p e at) w cs before =
    keeps_two (expr_events e w cs) (Reads a (static e cs) at ∷ []) before (expr_keeps e w cs before) refl
expr_keeps (Local' from count form p e at) w cs before = expr_keeps e w cs before
expr_keeps (Const' from count form p e at) w cs before = expr_keeps e w cs before
expr_keeps (Unary' op p a) w cs before = expr_keeps a w cs before
expr_keeps (Binary' op p a q b at) w cs before =
    keeps_two (expr_events a w.0 cs) (taken_if (is_lazy op) (λ v. expr_events b v cs) w.1) before (expr_keeps a w.0 cs before)
    (taken_if_keeps (is_lazy op) (λ v. expr_events b v cs) w.1 before (λ v. expr_keeps b v cs before))
expr_keeps (Choice' p c q a r b) w cs before =
    keeps_two (expr_events c w.0 cs) (if_taken (λ v. expr_events a v cs) w.1 ++ if_taken (λ v. expr_events b v cs) w.2) before (expr_keeps c w.0 cs before)
    (keeps_two (if_taken (λ v. expr_events a v cs) w.1) (if_taken (λ v. expr_events b v cs) w.2) before
    (if_taken_keeps (λ v. expr_events a v cs) w.1 before (λ v. expr_keeps a v cs before))
    (if_taken_keeps (λ v. expr_events b v cs) w.2 before (λ v. expr_keeps b v cs before)))
expr_keeps (Paren' p a) w cs before = expr_keeps a w cs before
expr_keeps (Extremum' which p a q b) w cs before =
    keeps_two (expr_events a w.0 cs) (expr_events b w.1 cs) before (expr_keeps a w.0 cs before) (expr_keeps b w.1 cs before)
expr_keeps (Absolute' p a) w cs before = expr_keeps a w cs before

-- so does the right side of an assignment
pub own_keeps : (which : MinMax) (e : RExpr) (w : ExprPath e) (cs : Counters) (before : Assigned) → assigned_after before (own_events which e w cs) ≡ before
own_keeps which (Arg' b form p jx at) w cs before = keeps_two (expr_events jx w cs) (Owns which b (static jx cs) at ∷ []) before (expr_keeps jx w cs before) refl
own_keeps which e w cs before = expr_keeps e w cs before

pub right_keeps : (own : Own) (e : RExpr) (w : ExprPath e) (cs : Counters) (before : Assigned) → assigned_after before (right_events own e w cs) ≡ before
right_keeps (First which) (Extremum' other p x q y) w cs before =
    keeps_two (own_events which x w.0 cs) (expr_events y w.1 cs) before (own_keeps which x w.0 cs before) (expr_keeps y w.1 cs before)
right_keeps (Second which) (Extremum' other p x q y) w cs before =
    keeps_two (expr_events x w.0 cs) (own_events which y w.1 cs) before (expr_keeps x w.0 cs before) (own_keeps which y w.1 cs before)
right_keeps own e w cs before = expr_keeps e w cs before

-- ---- a target is assigned

pub store_event_after : (op : AssignOp) (a : ℕ) (ix : Option ℤ) (at : Pos) (before : Assigned) → after_event (store_event op a ix at) before ≡ with_assigned a ix before
store_event_after assign.Set a ix at before = refl
store_event_after assign.Add a ix at before = refl
store_event_after assign.Sub a ix at before = refl
store_event_after op a ix at before = refl

pub target_event_after : (own : Own) (op : AssignOp) (a : ℕ) (ix : Option ℤ) (at : Pos) (before : Assigned) → after_event (target_event own op a ix at) before ≡ with_assigned a ix before
target_event_after Neither op a ix at before = store_event_after op a ix at before
target_event_after (First which) op a ix at before = refl
target_event_after (Second which) op a ix at before = refl

-- ---- what stands behind an expression

module _ (modes : List Mode) where
  pub after_keeping : (xs ys : List Event) (before : Assigned) → assigned_after before xs ≡ before → AllAllowed modes before (xs ++ ys) → AllAllowed modes before ys
  after_keeping xs ys before e h = subst (λ b. AllAllowed modes b ys) e (allowed_back modes before xs ys h)

  pub after_expr : (e : RExpr) (w : ExprPath e) (cs : Counters) (before : Assigned) (ys : List Event) → AllAllowed modes before (expr_events e w cs ++ ys) → AllAllowed modes before ys
  after_expr e w cs before ys h = after_keeping (expr_events e w cs) ys before (expr_keeps e w cs before) h

  pub keeping_both : (xs ys : List Event) (before : Assigned) → assigned_after before xs ≡ before → AllAllowed modes before xs → AllAllowed modes before ys → AllAllowed modes before (xs ++ ys)
  keeping_both xs ys before e h k = allowed_both modes before xs ys h (subst (λ b. AllAllowed modes b ys) (sym e) k)
