-- Cells that OP_READ arguments alone reach stay.
use Rattle.std.proofs.Common.{◌≡◌, ℕ, zero, suc, ℤ, pos, ◌-◌, ◌<◌, List, [], ◌∷◌, ◌++◌, Option, set, subst, inl, inr, replicate}
use Rattle.c_tree.specs.declared.lexer.tokens.Pos.{Pos}
use Rattle.c_tree.specs.declared.expressions.MinMax.{MinMax}
use Rattle.c_tree.specs.declared.expressions.MinMax.TheVariants as min_max
use Rattle.c_tree.specs.declared.declarations.AssignOp.{AssignOp}
use Rattle.c_tree.specs.declared.declarations.AssignOp.TheVariants as assign
use Rattle.kernel_model.specs.declared.types.statements.RStmt.{RStmt, Block', Declare, SetScalar, SetLocal, SetArg, If', For', Row_of-RStmt, end_of-RStmt, more_of-RStmt}
use Rattle.kernel_model.specs.Numbers.{is_zero}
use Rattle.kernel_model.specs.Meaning.{Store, Target, target_at, store_arg, value_of, stored, turns, meaning, meaning_of_all, read_arg}
use Rattle.op_num.specs.Access.{OpRead}
use Rattle.kernel_model.specs.Obeys.{Mode, mode_at, Counters, no_counters, with_counter, static, Path, RowPath, EachTurn, own_side, right_events, store_event, Own, Neither, First, Second, target_event, turn_events, events, row_events, Assigned, MayAssign, MayAdd, MayChange, MayMerge, Allowed, AllAllowed, assigned_after}
use Rattle.kernel_model.specs.Independence.{ReadsStay}
use Rattle.kernel_model.proofs.Paths.{some_expr_path, some_path, some_row_path, each_turn, allowed_front, allowed_back, right_keeps, after_expr, after_keeping}
use Rattle.kernel_model.proofs.Reached.{OnEnd, on_end_value, on_end_index, on_end_then, on_end_cond, SameCell, cell_kept, cell_after, same_at_first}

module _ (modes : List Mode) where
  merge_not_read : (which : MinMax) (dim a : ℕ) (ix : Option ℤ) (before : Assigned) → MayMerge which OpRead dim a ix before → ⊥
  merge_not_read min_max.Min dim a ix before m = m
  merge_not_read min_max.Max dim a ix before m = m

  store_not_read : (op : AssignOp) (a : ℕ) (ix : Option ℤ) (at : Pos) (before : Assigned) → (mode_at modes a).access ≡ OpRead → Allowed modes before (store_event op a ix at) → ⊥
  store_not_read assign.Set a ix at before e m = subst (λ acc. MayAssign acc (mode_at modes a).dim a ix before) e m
  store_not_read assign.Add a ix at before e m = subst (λ acc. MayAdd acc (mode_at modes a).dim a ix before) e m
  store_not_read assign.Sub a ix at before e m = subst (λ acc. MayAdd acc (mode_at modes a).dim a ix before) e m
  store_not_read op a ix at before e m = subst (λ acc. MayChange acc (mode_at modes a).dim a ix before) e m

  target_not_read : (own : Own) (op : AssignOp) (a : ℕ) (ix : Option ℤ) (at : Pos) (before : Assigned) → (mode_at modes a).access ≡ OpRead → Allowed modes before (target_event own op a ix at) → ⊥
  target_not_read Neither op a ix at before e m = store_not_read op a ix at before e m
  target_not_read (First which) op a ix at before e m = merge_not_read which (mode_at modes a).dim a ix before (subst (λ acc. MayMerge which acc (mode_at modes a).dim a ix before) e m)
  target_not_read (Second which) op a ix at before e m = merge_not_read which (mode_at modes a).dim a ix before (subst (λ acc. MayMerge which acc (mode_at modes a).dim a ix before) e m)

module _ (modes : List Mode) (ts : List Target) (consts : List ℤ) (P : Store → Type 0)
    (keep : (a i : ℕ) (v : ℤ) (s : Store) → ((mode_at modes a).access ≡ OpRead → ⊥) → i < (target_at ts a).count → P s
    → P (store_arg ts s a i v)) where
  abbrev Fine : (st : RStmt) → Counters → Assigned → Type 0
  Fine st cs before = (w : Path st) → AllAllowed modes before (events st w cs)

  turns_keep : (body : RStmt) (k : ℕ) (cs : Counters)
      → ((i : ℕ) (before : Assigned) (s : Store) (ls : List ℤ) → Fine body (with_counter cs k (pos i)) before → P s
      → OnEnd P (meaning ts consts body s ls)) → (i n : ℕ) (before : Assigned) (s : Store) (ls : List ℤ)
      → ((w : EachTurn (Path body) n) → AllAllowed modes before (turn_events (λ i v. events body v (with_counter cs k (pos i))) i n w))
      → P s → OnEnd P (turns (meaning ts consts body) k i n s ls)
  turns_keep body k cs hb i zero before s ls h p = p
  turns_keep body k cs hb i (suc n) before s ls h p =
      let turn = λ (j : ℕ) (v : Path body). events body v (with_counter cs k (pos j)) in
      let others = each_turn (some_path body) n in
      let one = some_path body in
      on_end_then P (meaning ts consts body s (set ls k (pos i))) (turns (meaning ts consts body) k (suc i) n)
      (hb i before s (set ls k (pos i)) (λ w. allowed_front modes before (turn i w) (turn_events turn (suc i) n others) (h (w, others))) p)
      (λ s' ls' q. turns_keep body k cs hb (suc i) n (assigned_after before (turn i one)) s' ls' (λ w. allowed_back modes before (turn i one) (turn_events turn (suc i) n w) (h (one, w))) q)

  mutual
    stmt_keeps : (st : RStmt) (cs : Counters) (before : Assigned) (s : Store) (ls : List ℤ) → Fine st cs before → P s → OnEnd P (meaning ts consts st s ls)
    stmt_keeps (Block' shape all) cs before s ls h p = row_keeps all cs before s ls h p
    stmt_keeps (Declare from count) cs before s ls h p = p
    stmt_keeps (SetScalar k op opat e) cs before s ls h p =
        on_end_value P s ls (value_of ts consts e s ls) _ p (λ v. on_end_value P s ls (stored op opat _ v) _ p (λ r. p))
    stmt_keeps (SetLocal from count form ix at op opat e) cs before s ls h p =
        on_end_value P s ls (value_of ts consts ix s ls) _ p
        (λ z. on_end_index P s ls count at z _ p
        (λ i lt. on_end_value P s ls (value_of ts consts e s ls) _ p (λ v. on_end_value P s ls (stored op opat _ v) _ p (λ r. p))))
    stmt_keeps (SetArg a form ix at op opat e) cs before s ls h p =
        let own = own_side a form ix op e in
        let wi = some_expr_path ix in
        let we = some_expr_path e in
        let end = target_event own op a (static ix cs) at ∷ [] in
        let m = after_keeping modes (right_events own e we cs) end before (right_keeps own e we cs before) (after_expr modes ix wi cs before (right_events own e we cs ++ end) (h (wi, we))) in
        let no_read = λ (f : (mode_at modes a).access ≡ OpRead). target_not_read modes own op a (static ix cs) at before f m.0 in
        on_end_value P s ls (value_of ts consts ix s ls) _ p
        (λ z. on_end_index P s ls (target_at ts a).count at z _ p
        (λ i lt. on_end_value P s ls (value_of ts consts e s ls) _ p
        (λ v. on_end_value P s ls (stored op opat (read_arg ts s a i) v) _ p (λ r. keep a i r s no_read lt p))))
    stmt_keeps (If' e q a r b) cs before s ls h p =
        let we = some_expr_path e in
        on_end_value P s ls (value_of ts consts e s ls) _ p
        (λ x. on_end_cond P (is_zero x) _ _ (stmt_keeps b cs before s ls (λ w. after_expr modes e we cs before (events b w cs) (h (we, inr w))) p)
        (stmt_keeps a cs before s ls (λ w. after_expr modes e we cs before (events a w cs) (h (we, inl w))) p))
    stmt_keeps (For' k first past q body) cs before s ls h p =
        turns_keep body k cs (λ i b s' ls' f p'. stmt_keeps body (with_counter cs k (pos i)) b s' ls' f p') first (past - first) before s ls h p

    row_keeps : {m : _} → (all : Row_of-RStmt m) (cs : Counters) (before : Assigned) (s : Store) (ls : List ℤ)
        → ((w : RowPath all) → AllAllowed modes before (row_events all w cs)) → P s → OnEnd P (meaning_of_all ts consts all s ls)
    row_keeps end_of-RStmt cs before s ls h p = p
    row_keeps (more_of-RStmt first rest) cs before s ls h p =
        let one = some_path first in
        let others = some_row_path rest in
        on_end_then P (meaning ts consts first s ls) (meaning_of_all ts consts rest)
        (stmt_keeps first cs before s ls (λ w. allowed_front modes before (events first w cs) (row_events rest others cs) (h (w, others))) p)
        (λ s' ls' q. row_keeps rest cs (assigned_after before (events first one cs)) s' ls' (λ w. allowed_back modes before (events first one cs) (row_events rest w cs) (h (one, w))) q)

pub reads_stay : ReadsStay
reads_stay k modes ts consts s x j obeys fits only =
    cell_after s x j (meaning ts consts k.body.statement s (replicate k.scratch (pos 0)))
    (stmt_keeps modes ts consts (SameCell s x j)
    (λ a i v t no_read lt h. cell_kept ts s t x j a i v fits lt (λ e f. no_read (only a i lt e f)) h) k.body.statement no_counters [] s
    (replicate k.scratch (pos 0)) (λ w. (obeys w).0) (same_at_first s x j))
