-- What a kernel that obeys its modes evaluates over two stores that agree.
use Rattle.std.proofs.Common.{◌≡◌, ℕ, ℤ, pos, negsuc, ◌+◌, List, [], ◌∷◌, ◌++◌, Option, Some, None, Ok, Err, Bool, true, false, cond, refl, sym, ap, ◌∙◌, subst}
use Rattle.std.specs.Prelude.{nat_lt, slice_index_or}
use Rattle.std.proofs.lemmas.Bool.{ltb-true}
use Rattle.c_tree.specs.declared.lexer.tokens.Pos.{Pos}
use Rattle.op_num.specs.declared.refusals.Fault.TheVariants.{Index}
use Rattle.kernel_model.specs.declared.types.expressions.RExpr.{RExpr}
use Rattle.kernel_model.specs.declared.types.expressions.RExpr.TheVariants.{Number, Scalar, Constant, Arg', Local', Const', Unary', Binary', Choice', Paren', Extremum', Absolute'}
use Rattle.kernel_model.specs.Numbers.{Value, fault, truth, is_zero, not, is_settled, is_lazy, apply, apply_unary, extremum, magnitude}
use Rattle.kernel_model.specs.Meaning.{Store, Target, target_at, read_arg, and_then, index_in, value_of}
use Rattle.op_num.specs.Access.{Access, OpRead, OpWrite, OpRw, OpReduce}
use Rattle.kernel_model.specs.Obeys.{Mode, Counters, static, Reads, ExprPath, taken_if, expr_events, Assigned, HasAssigned, MayRead, AllAllowed}
use Rattle.kernel_model.specs.Independence.{access, dim, SameStoredAliases}
use Rattle.kernel_model.proofs.Paths.{some_if, taken, taken_if-taken, some_expr_path, allowed_front, after_expr}
use Rattle.kernel_model.proofs.Static.{Static, static_value}
use Rattle.kernel_model.proofs.Agreement.{Known, known_read, known_rw, known_write, Agrees}

module _ (modes : List Mode) (consts : List ℤ) (ts us : List Target) (aliases : SameStoredAliases modes ts us) (s0 t0 : Store)
    (counts_s : (a : ℕ) → (target_at ts a).count ≡ dim modes a) (counts_t : (a : ℕ) → (target_at us a).count ≡ dim modes a) where
  abbrev Agree : Assigned → Store → Store → Type 0
  Agree before s t = Agrees modes ts us aliases s0 t0 before s t

  pub known_if_read : (acc : Access) (a i : ℕ) (ix : Option ℤ) (before : Assigned) → access modes a ≡ acc
      → MayRead acc (dim modes a) a ix before → ((z : ℤ) → ix ≡ Some z → z ≡ pos i) → Known modes before a i
  known_if_read OpRead a i ix before e m hz = known_read e
  known_if_read OpRw a i ix before e m hz = known_rw e
  known_if_read OpWrite a i None before e m hz = absurd m
  known_if_read OpWrite a i (Some (negsuc n)) before e m hz = absurd m
  known_if_read OpWrite a i (Some (pos n)) before e m hz =
      let p = hz (pos n) refl in
      let q : n ≡ i = cc in
      known_write e (subst (λ k. HasAssigned before a k) q m.1)
  known_if_read (OpReduce r) a i ix before e m hz = absurd m

  arg_same : (r : Value) (a : ℕ) (at : Pos) (ix : Option ℤ) (before : Assigned) (s t : Store) → ((z : ℤ) → ix ≡ Some z → r ≡ Ok z)
      → MayRead (access modes a) (dim modes a) a ix before → Agree before s t
      → and_then r (λ z. and_then (index_in (target_at ts a).count at z) (λ i. Ok (read_arg ts s a i))) ≡ and_then r
      (λ z. and_then (index_in (target_at us a).count at z) (λ i. Ok (read_arg us t a i)))
  arg_same (Err f) a at ix before s t hz m ag = refl
  arg_same (Ok (negsuc n)) a at ix before s t hz m ag = refl
  arg_same (Ok (pos n)) a at ix before s t hz m ag =
      ap (λ c. and_then (index_in c at (pos n)) (λ i. Ok (read_arg ts s a i))) (counts_s a)
      ∙ pick (nat_lt n (dim modes a)) refl
      ∙ sym (ap (λ c. and_then (index_in c at (pos n)) (λ i. Ok (read_arg us t a i))) (counts_t a))
    where
      pick : (b : Bool) → nat_lt n (dim modes a) ≡ b → and_then (cond b (Ok n) (Err (fault Index at))) (λ i. Ok (read_arg ts s a i)) ≡
          and_then (cond b (Ok n) (Err (fault Index at))) (λ i. Ok (read_arg us t a i))
      pick true e =
          ap Ok (ag.known a n (ltb-true n (dim modes a) e)
          (known_if_read (access modes a) a n ix before refl m
          (λ z f. let g : ◌≡◌ {A = Value} (Ok (pos n)) (Ok z) = hz z f in let k : z ≡ pos n = cc in k)))
      pick false e = refl

  abbrev pub Fine : (e : RExpr) → Counters → Assigned → Type 0
  Fine e cs before = (w : ExprPath e) → AllAllowed modes before (expr_events e w cs)

  pub expr_same : (e : RExpr) (cs : Counters) (before : Assigned) (s t : Store) (ls : List ℤ) → Static cs ls → Agree before s t
      → Fine e cs before → value_of ts consts e s ls ≡ value_of us consts e t ls
  expr_same (Number n) cs before s t ls st ag h = refl
  expr_same (Scalar k) cs before s t ls st ag h = refl
  expr_same (Constant k) cs before s t ls st ag h = refl
  expr_same (Arg' a form p e at) cs before s t ls st ag h =
      let ih = expr_same e cs before s t ls st ag (λ w. allowed_front modes before (expr_events e w cs) (Reads a (static e cs) at ∷ []) (h w)) in
      let w = some_expr_path e in
      let m = after_expr modes e w cs before (Reads a (static e cs) at ∷ []) (h w) in
      ap (λ r. and_then r (λ z. and_then (index_in (target_at ts a).count at z) (λ i. Ok (read_arg ts s a i)))) ih
      ∙ arg_same (value_of us consts e t ls) a at (static e cs) before s t (λ z f. static_value us consts e cs t ls st z f) m.0 ag
  expr_same (Local' from count form p e at) cs before s t ls st ag h =
      ap (λ r. and_then r (λ z. and_then (index_in count at z) (λ i. Ok (slice_index_or ls (from + i) (pos 0))))) (expr_same e cs before s t ls st ag h)
  expr_same (Const' from count form p e at) cs before s t ls st ag h =
      ap (λ r. and_then r (λ z. and_then (index_in count at z) (λ i. Ok (slice_index_or consts (from + i) (pos 0))))) (expr_same e cs before s t ls st ag h)
  expr_same (Unary' op p a) cs before s t ls st ag h = ap (λ r. and_then r (λ x. Ok (apply_unary op x))) (expr_same a cs before s t ls st ag h)
  expr_same (Binary' op p a q b at) cs before s t ls st ag h =
      let wa = some_expr_path a in
      let right = λ (v : ExprPath b). expr_events b v cs in
      let vb = some_if (is_lazy op) (some_expr_path b) in
      let x = expr_same a cs before s t ls st ag (λ w. allowed_front modes before (expr_events a w cs) (taken_if (is_lazy op) right vb) (h (w, vb))) in
      let y = expr_same b cs before s t ls st ag
      (λ w. subst (λ l. AllAllowed modes before l) (taken_if-taken (is_lazy op) right w)
      (after_expr modes a wa cs before (taken_if (is_lazy op) right (taken (is_lazy op) w)) (h (wa, taken (is_lazy op) w)))) in
      ap (λ r. and_then r (λ u. cond (is_settled op u) (Ok (truth (not (is_zero u)))) (and_then (value_of ts consts b s ls) (λ v. apply op at u v)))) x
      ∙ ap (λ r. and_then (value_of us consts a t ls) (λ u. cond (is_settled op u) (Ok (truth (not (is_zero u)))) (and_then r (λ v. apply op at u v)))) y
  expr_same (Choice' p c q a r b) cs before s t ls st ag h =
      let x = expr_same c cs before s t ls st ag (λ w. allowed_front modes before (expr_events c w cs) [] (h (w, None, None))) in
      let w = some_expr_path c in
      let y = expr_same a cs before s t ls st ag (λ v. allowed_front modes before (expr_events a v cs) [] (after_expr modes c w cs before (expr_events a v cs ++ []) (h (w, Some v, None)))) in
      let z = expr_same b cs before s t ls st ag (λ v. after_expr modes c w cs before (expr_events b v cs) (h (w, None, Some v))) in
      ap (λ r. and_then r (λ u. cond (is_zero u) (value_of ts consts b s ls) (value_of ts consts a s ls))) x
      ∙ ap (λ r. and_then (value_of us consts c t ls) (λ u. cond (is_zero u) r (value_of ts consts a s ls))) z
      ∙ ap (λ r. and_then (value_of us consts c t ls) (λ u. cond (is_zero u) (value_of us consts b t ls) r)) y
  expr_same (Paren' p a) cs before s t ls st ag h = expr_same a cs before s t ls st ag h
  expr_same (Extremum' which p a q b) cs before s t ls st ag h =
      let x = expr_same a cs before s t ls st ag (λ w. allowed_front modes before (expr_events a w cs) (expr_events b (some_expr_path b) cs) (h (w, some_expr_path b))) in
      let y = expr_same b cs before s t ls st ag (λ w. after_expr modes a (some_expr_path a) cs before (expr_events b w cs) (h (some_expr_path a, w))) in
      ap (λ r. and_then r (λ u. and_then (value_of ts consts b s ls) (λ v. Ok (extremum which u v)))) x
      ∙ ap (λ r. and_then (value_of us consts a t ls) (λ u. and_then r (λ v. Ok (extremum which u v)))) y
  expr_same (Absolute' p a) cs before s t ls st ag h = ap (λ r. and_then r (λ x. Ok (magnitude x))) (expr_same a cs before s t ls st ag h)
