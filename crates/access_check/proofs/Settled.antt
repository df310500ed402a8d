-- What one turn of a for finds, a second turn doesn't add to, where it starts with more components covered.
use Rattle.std.proofs.Common.{◌≡◌, ℕ, zero, suc, ℤ, pos, negsuc, ◌-◌, List, Option, Some, None, Bool, true, false, ◌&&◌, refl, sym, ap, ◌∙◌}
use Rattle.std.specs.Prelude.{nat_lt}
use Rattle.c_tree.specs.declared.lexer.tokens.Pos.{Pos}
use Rattle.op_num.specs.Access.{Access}
use Rattle.c_tree.specs.declared.expressions.MinMax.{MinMax}
use Rattle.kernel_model.specs.declared.types.expressions.RExpr.{RExpr}
use Rattle.kernel_model.specs.declared.types.expressions.RExpr.TheVariants.{Number, Scalar, Constant, Arg', Local', Const', Unary', Binary', Choice', Paren', Extremum', Absolute'}
use Rattle.kernel_model.specs.declared.types.statements.RStmt.{RStmt, Block', Declare, SetScalar, SetLocal, SetArg, If', For', Row_of-RStmt, end_of-RStmt, more_of-RStmt}
use Rattle.kernel_model.specs.Obeys.{Mode, mode_at, Counters, with_counter, static, Event, Reads, Owns, Own, First, Second, own_side, target_event}
use Rattle.kernel_model.specs.Refusals.{Rule, WritesRead, ReadsInc, IncNotSum, ReadsUnwritten, WriteIndexNotStatic, LiteralIndexOut, MinMaxForm, argument_of, index_of, place_of, is_read, opposite}
use Rattle.kernel_model.specs.Walk.{Covered, covered_after, is_op_write, is_unwritten, noted_if, breaks, event_found, expr_found, own_found, right_found, turns_found, stmt_found, row_found}
use Rattle.access_check.proofs.Least.{Found, Has, has_still, has_now, note_again}
use Rattle.access_check.proofs.Assigning.{Within, within_after}

-- what x has, y has too
abbrev pub Below : Found → Found → Type 0
Below x y = (r : Rule) (p : Pos) → Has x r p → Has y r p

-- after G, F finds nothing more, and G loses nothing
abbrev pub Settled : (Found → Found) → (Found → Found) → Type 0
Settled F G = ((x y : Found) → Below (G x) y → F y ≡ y) × ((x : Found) → Below x (G x))

settled_none : Settled (λ x. x) (λ x. x)
settled_none = (λ x y h. refl, λ x r p h. h)

settled_then : (F G : Found → Found) (K L : Found → Found) → Settled F G → Settled K L → Settled (λ x. K (F x)) (λ x. L (G x))
settled_then F G K L h k =
    (λ x y b. ap K (h.0 x y (λ r p m. b r p (k.1 (G x) r p m))) ∙ k.0 (G x) y b, λ x r p m. k.1 (G x) r p (h.1 x r p m))

settled_note : (b c : Bool) (r : Rule) (p : Pos) → (b ≡ true → c ≡ true) → Settled (noted_if b r p) (noted_if c r p)
settled_note b c r p f = (again b refl, λ x s q h. has_still c r p x s q h)
  where
    again : (d : Bool) → b ≡ d → (x y : Found) → Below (noted_if c r p x) y → noted_if b r p y ≡ y
    again true e x y h = note_again b r p y (h r p (has_now c r p x (f e)))
    again false e x y h = ap (λ d. noted_if d r p y) e

fewer : (c d : Bool) → (c ≡ true → d ≡ true) → opposite d ≡ true → opposite c ≡ true
fewer true d f e = ap opposite (sym (f refl)) ∙ e
fewer false d f e = refl

both_true : (a b c : Bool) → (b ≡ true → c ≡ true) → (a && b) ≡ true → (a && c) ≡ true
both_true true b c f e = f e
both_true false b c f e = e

fewer_unwritten : (dim : ℕ) (c d : ℕ → Bool) → ((i : ℕ) → c i ≡ true → d i ≡ true) → (ix : Option ℤ) → is_unwritten dim d ix ≡ true → is_unwritten dim c ix ≡ true
fewer_unwritten dim c d h None e = e
fewer_unwritten dim c d h (Some (negsuc i)) e = e
fewer_unwritten dim c d h (Some (pos i)) e = both_true (nat_lt i dim) (opposite (d i)) (opposite (c i)) (fewer (c i) (d i) (h i)) e

module _ (modes : List Mode) where
  module _ (c d : Covered) (h : Within c d) where
    breaks_less : (acc : Access) (dim : ℕ) (e : Event) → breaks d acc dim e ReadsUnwritten ≡ true → breaks c acc dim e ReadsUnwritten ≡ true
    breaks_less acc dim e =
        both_true (is_op_write acc) _ _
        (both_true (is_read acc e) _ _ (fewer_unwritten dim (c (argument_of e)) (d (argument_of e)) (h (argument_of e)) (index_of e)))

    pub settled_event : (e : Event) → Settled (event_found modes d e) (event_found modes c e)
    settled_event e =
        let acc = (mode_at modes (argument_of e)).access in
        let dim = (mode_at modes (argument_of e)).dim in
        let p = place_of e in
        settled_then _ _ _ _
        (settled_then _ _ _ _
        (settled_then _ _ _ _
        (settled_then _ _ _ _
        (settled_then _ _ _ _
        (settled_then _ _ _ _
        (settled_note (breaks d acc dim e WritesRead) (breaks c acc dim e WritesRead) WritesRead p (λ q. q))
        (settled_note (breaks d acc dim e ReadsInc) (breaks c acc dim e ReadsInc) ReadsInc p (λ q. q)))
        (settled_note (breaks d acc dim e IncNotSum) (breaks c acc dim e IncNotSum) IncNotSum p (λ q. q)))
        (settled_note (breaks d acc dim e ReadsUnwritten) (breaks c acc dim e ReadsUnwritten) ReadsUnwritten p (breaks_less acc dim e)))
        (settled_note (breaks d acc dim e WriteIndexNotStatic) (breaks c acc dim e WriteIndexNotStatic) WriteIndexNotStatic p (λ q. q)))
        (settled_note (breaks d acc dim e LiteralIndexOut) (breaks c acc dim e LiteralIndexOut) LiteralIndexOut p (λ q. q)))
        (settled_note (breaks d acc dim e MinMaxForm) (breaks c acc dim e MinMaxForm) MinMaxForm p (λ q. q))

    module _ (cs : Counters) where
      pub settled_expr : (e : RExpr) → Settled (expr_found modes e cs d) (expr_found modes e cs c)
      settled_expr (Number n) = settled_none
      settled_expr (Scalar k) = settled_none
      settled_expr (Constant k) = settled_none
      settled_expr (Arg' a form p e at) = settled_then _ _ _ _ (settled_expr e) (settled_event (Reads a (static e cs) at))
      settled_expr (Local' from count form p e at) = settled_expr e
      settled_expr (Const' from count form p e at) = settled_expr e
      settled_expr (Unary' op p a) = settled_expr a
      settled_expr (Binary' op p a q b at) = settled_then _ _ _ _ (settled_expr a) (settled_expr b)
      settled_expr (Choice' p x q a r b) = settled_then _ _ _ _ (settled_then _ _ _ _ (settled_expr x) (settled_expr a)) (settled_expr b)
      settled_expr (Paren' p a) = settled_expr a
      settled_expr (Extremum' which p a q b) = settled_then _ _ _ _ (settled_expr a) (settled_expr b)
      settled_expr (Absolute' p a) = settled_expr a

      settled_own : (which : MinMax) (e : RExpr) → Settled (own_found modes which e cs d) (own_found modes which e cs c)
      settled_own which (Arg' b form p jx at) = settled_then _ _ _ _ (settled_expr jx) (settled_event (Owns which b (static jx cs) at))
      settled_own which e = settled_expr e

      pub settled_right : (own : Own) (e : RExpr) → Settled (right_found modes own e cs d) (right_found modes own e cs c)
      settled_right (First which) (Extremum' other p x q y) = settled_then _ _ _ _ (settled_own which x) (settled_expr y)
      settled_right (Second which) (Extremum' other p x q y) = settled_then _ _ _ _ (settled_expr x) (settled_own which y)
      settled_right own e = settled_expr e

  -- turns, each settled
  settled_turns : (t : ℕ → Covered → Found → Found) (u : ℕ → Covered → Covered)
      → ((i : ℕ) (c d : Covered) → Within c d → Settled (t i d) (t i c)) → ((i : ℕ) (c d : Covered) → Within c d → Within (u i c) (u i d))
      → (i n : ℕ) (c d : Covered) → Within c d → Settled (turns_found modes t u i n d) (turns_found modes t u i n c)
  settled_turns t u f g i zero c d h = settled_none
  settled_turns t u f g i (suc n) c d h =
      settled_then (t i d) (t i c) (turns_found modes t u (suc i) n (u i d)) (turns_found modes t u (suc i) n (u i c)) (f i c d h) (settled_turns t u f g (suc i) n (u i c) (u i d) (g i c d h))

  mutual
    pub settled_stmt : (st : RStmt) (cs : Counters) (c d : Covered) → Within c d → Settled (stmt_found modes st cs d) (stmt_found modes st cs c)
    settled_stmt (Block' shape all) cs c d h = settled_row all cs c d h
    settled_stmt (Declare from count) cs c d h = settled_none
    settled_stmt (SetScalar k op opat e) cs c d h = settled_expr c d h cs e
    settled_stmt (SetLocal from count form ix at op opat e) cs c d h = settled_then _ _ _ _ (settled_expr c d h cs ix) (settled_expr c d h cs e)
    settled_stmt (SetArg a form ix at op opat e) cs c d h =
        let own = own_side a form ix op e in
        settled_then _ _ _ _ (settled_then _ _ _ _ (settled_expr c d h cs ix) (settled_right c d h cs own e)) (settled_event c d h (target_event own op a (static ix cs) at))
    settled_stmt (If' e p a q b) cs c d h =
        settled_then _ _ _ _ (settled_then _ _ _ _ (settled_expr c d h cs e) (settled_stmt a cs c d h)) (settled_stmt b cs c d h)
    settled_stmt (For' k first past p body) cs c d h =
        settled_turns (λ i x g. stmt_found modes body (with_counter cs k (pos i)) x g)
        (λ i x. covered_after body (with_counter cs k (pos i)) x) (λ i x y g. settled_stmt body (with_counter cs k (pos i)) x y g)
        (λ i x y g. within_after body (with_counter cs k (pos i)) x y g) first (past - first) c d h

    settled_row : {m : _} → (all : Row_of-RStmt m) (cs : Counters) (c d : Covered) → Within c d → Settled (row_found modes all cs d) (row_found modes all cs c)
    settled_row end_of-RStmt cs c d h = settled_none
    settled_row (more_of-RStmt first rest) cs c d h =
        settled_then _ _ _ _ (settled_stmt first cs c d h) (settled_row rest cs (covered_after first cs c) (covered_after first cs d) (within_after first cs c d h))
