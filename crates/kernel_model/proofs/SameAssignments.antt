-- What an assignment to an argument does to two stores that agree.
use Rattle.std.proofs.Common.{◌≡◌, ℕ, ℤ, pos, ◌<◌, List, [], ◌∷◌, ◌++◌, Option, Some, Ok, Err, Bool, true, false, cond, refl, sym, ap, ◌∙◌, subst, ◌⊎◌, inl, inr}
use Rattle.std.specs.Prelude.{◌&&◌, nat_eq}
use Rattle.std.proofs.lemmas.Bool.{eqb-true}
use Rattle.c_tree.specs.declared.lexer.tokens.Pos.{Pos}
use Rattle.c_tree.specs.declared.expressions.MinMax.{MinMax}
use Rattle.c_tree.specs.declared.expressions.MinMax.TheVariants as min_max
use Rattle.c_tree.specs.declared.declarations.AssignOp.{AssignOp}
use Rattle.c_tree.specs.declared.declarations.AssignOp.TheVariants as assign
use Rattle.op_num.specs.Reduction.{Reduction, Add, Min, Max}
use Rattle.kernel_model.specs.declared.types.expressions.ElementForm.{ElementForm}
use Rattle.kernel_model.specs.declared.types.expressions.RExpr.{RExpr}
use Rattle.kernel_model.specs.declared.types.expressions.RExpr.TheVariants.{Arg', Extremum'}
use Rattle.kernel_model.specs.Numbers.{Value, extremum, reduction_of}
use Rattle.kernel_model.specs.Meaning.{Store, Target, target_at, read_arg, store_arg, on_value, and_then, index_in, value_of, Outcome, Done, with_value, stored}
use Rattle.op_num.specs.Access.{Access, OpReduce}
use Rattle.kernel_model.specs.Obeys.{Mode, Counters, static, Event, Reads, Assigns, Owns, Merges, ExprPath, expr_events, store_event, Assigned, MayRead, MayAssign, MayOwn, MayMerge, is_place, Own, Neither, First, Second, own_side, own_events, right_events, target_event, Allowed, with_assigned, AllAllowed, assigned_after}
use Rattle.kernel_model.specs.SameTokens.{same_form, same_tokens}
use Rattle.kernel_model.specs.Independence.{access, dim, SameStoredAliases}
use Rattle.kernel_model.proofs.Paths.{some_expr_path, allowed_front, assigned_after-append, expr_keeps, keeps_two, own_keeps, right_keeps, target_event_after, after_keeping, after_expr, keeping_both}
use Rattle.kernel_model.proofs.Static.{Static, static_value, index_ok}
use Rattle.kernel_model.proofs.Agreement.{Agrees, sum_stored, more_merged, merged_before}
use Rattle.kernel_model.proofs.Tokens.{same_value, index_other_place}
use Rattle.kernel_model.proofs.SameValues.{expr_same}
use Rattle.kernel_model.proofs.SameStores.{Ends, ends_value, store_same}
use Rattle.lemmas.proofs.Truth.{and_first, and_second}

module _ (modes : List Mode) (consts : List ℤ) (ts us : List Target) (aliases : SameStoredAliases modes ts us) (s0 t0 : Store)
    (counts_s : (a : ℕ) → (target_at ts a).count ≡ dim modes a) (counts_t : (a : ℕ) → (target_at us a).count ≡ dim modes a) where
  abbrev Agree : Assigned → Store → Store → Type 0
  Agree before s t = Agrees modes ts us aliases s0 t0 before s t

  abbrev Fine : (e : RExpr) → Counters → Assigned → Type 0
  Fine e cs before = (w : ExprPath e) → AllAllowed modes before (expr_events e w cs)

  abbrev pub Run : Store → List ℤ → List Target → ℕ → Pos → Value → AssignOp → Pos → Value → Outcome
  Run s ls rs a at z op opat e =
      with_value s ls z (λ z. with_value s ls (index_in (target_at rs a).count at z)
      (λ i. with_value s ls e (λ v. with_value s ls (stored op opat (read_arg rs s a i) v) (λ r. Done (store_arg rs s a i r) ls))))

  module _ (a : ℕ) (form : ElementForm) (ix : RExpr) (at : Pos) (opat : Pos) (cs : Counters) (before : Assigned) (s t : Store) (ls : List ℤ) (st : Static cs ls) (ag : Agree before s t) where
    abbrev pub ArgEnds : (Assigned → Type 0) → AssignOp → RExpr → Type 0
    ArgEnds Q op e = Ends modes consts ts us aliases s0 t0 counts_s counts_t Q
        (Run s ls ts a at (value_of ts consts ix s ls) op opat (value_of ts consts e s ls))
        (Run t ls us a at (value_of us consts ix t ls) op opat (value_of us consts e t ls))

    -- the index is the same, and the component is in range
    at_index : (Q : Assigned → Type 0) (op : AssignOp) (e : RExpr) → Fine ix cs before
        → ((z : ℤ) (i : ℕ) → value_of ts consts ix s ls ≡ Ok z → value_of us consts ix t ls ≡ Ok z
        → index_in (target_at us a).count at z ≡ Ok i → i < dim modes a → ((y : ℤ) → static ix cs ≡ Some y → y ≡ pos i)
        → Ends modes consts ts us aliases s0 t0 counts_s counts_t Q
        (with_value s ls (value_of ts consts e s ls)
        (λ v. with_value s ls (stored op opat (read_arg ts s a i) v) (λ r. Done (store_arg ts s a i r) ls)))
        (with_value t ls (value_of us consts e t ls)
        (λ v. with_value t ls (stored op opat (read_arg us t a i) v) (λ r. Done (store_arg us t a i r) ls)))) → ArgEnds Q op e
    at_index Q op e fine go =
        let same = expr_same modes consts ts us aliases s0 t0 counts_s counts_t ix cs before s t ls st ag fine in
        ends_value modes consts ts us aliases s0 t0 counts_s counts_t Q s t ls (value_of ts consts ix s ls) (value_of us consts ix t ls) _ _ same
        (λ z f. ends_value modes consts ts us aliases s0 t0 counts_s counts_t Q s t ls (index_in (target_at ts a).count at z)
        (index_in (target_at us a).count at z) _ _ (ap (λ c. index_in c at z) (counts_s a ∙ sym (counts_t a)))
        (λ i g.
        let ok = index_ok (target_at us a).count at z i g in
        let lt = subst (λ c. i < c) (counts_t a) ok.0 in
        let hz = λ (y : ℤ) (p : static ix cs ≡ Some y). let u : ◌≡◌ {A = Value} (Ok y) (Ok z) = sym (static_value us consts ix cs t ls st y p) ∙ f in let k : y ≡ z = cc in k ∙ ok.1 in
        go z i (same ∙ f) f g lt hz))

    set_plain : (Q : Assigned → Type 0) (op : AssignOp) (e : RExpr)
        → ((w : ExprPath ix × ExprPath e) → AllAllowed modes before
        (expr_events ix w.0 cs ++ (expr_events e w.1 cs ++ store_event op a (static ix cs) at ∷ [])))
        → Q (with_assigned a (static ix cs) before) → ArgEnds Q op e
    set_plain Q op e h q =
        let wi = some_expr_path ix in
        let we = some_expr_path e in
        let end = store_event op a (static ix cs) at ∷ [] in
        let last = after_expr modes e we cs before end (after_expr modes ix wi cs before (expr_events e we cs ++ end) (h (wi, we))) in
        at_index Q op e (λ w. allowed_front modes before (expr_events ix w cs) (expr_events e we cs ++ end) (h (w, we)))
        (λ z i fs f g lt hz.
        ends_value modes consts ts us aliases s0 t0 counts_s counts_t Q s t ls (value_of ts consts e s ls) (value_of us consts e t ls) _ _
        (expr_same modes consts ts us aliases s0 t0 counts_s counts_t e cs before s t ls st ag
        (λ w. allowed_front modes before (expr_events e w cs) end
        (after_expr modes ix wi cs before (expr_events e w cs ++ end) (h (wi, w)))))
        (λ v l. store_same modes consts ts us aliases s0 t0 counts_s counts_t Q before s t ls a i (static ix cs) lt hz ag q op opat at v last.0))

    -- the target itself on the right
    place_value : (rs : List Target) (u : Store) (x : RExpr) (z : ℤ) (i : ℕ) → is_place a form ix x ≡ true
        → value_of rs consts ix u ls ≡ Ok z → index_in (target_at rs a).count at z ≡ Ok i
        → value_of rs consts x u ls ≡ Ok (read_arg rs u a i)
    place_value rs u (Arg' b other_form p jx bt) z i e f g =
        let same : a ≡ b = eqb-true a b (and_first _ _ e) in
        let tok : same_tokens ix jx ≡ true = and_second (same_form form other_form) (same_tokens ix jx) (and_second (nat_eq a b) (same_form form other_form && same_tokens ix jx) e) in
        subst (λ c. and_then (value_of rs consts jx u ls) (λ z. and_then (index_in (target_at rs c).count bt z) (λ i. Ok (read_arg rs u c i))) ≡ Ok (read_arg rs u a i)) same
        (ap (λ r. and_then r (λ z. and_then (index_in (target_at rs a).count bt z) (λ i. Ok (read_arg rs u a i)))) (same_value rs consts u ls ix jx tok z f)
        ∙ ap (λ r. on_value Err r (λ i. Ok (read_arg rs u a i))) (index_other_place (target_at rs a).count at bt z i g))
    place_value rs u x z i e f g = absurd (let k : ⊥ = cc in k)

    abbrev Stores : Store → List Target → ℕ → Value → Outcome
    Stores u rs i e = with_value u ls e (λ v. with_value u ls (stored assign.Set opat (read_arg rs u a i) v) (λ r. Done (store_arg rs u a i r) ls))

    -- P = MIN(P, e) through an OP_MIN argument, P = MAX(P, e) through an OP_MAX argument
    merge_first : (Q : Assigned → Type 0) (which : MinMax) (p q : _) (x y : RExpr) → access modes a ≡ OpReduce (reduction_of which)
        → is_place a form ix x ≡ true → Fine ix cs before → Fine y cs before → Q (with_assigned a (static ix cs) before)
        → ArgEnds Q assign.Set (Extremum' which p x q y)
    merge_first Q which p q x y acc place fine_ix fine_y k =
        at_index Q assign.Set (Extremum' which p x q y) fine_ix
        (λ z i fs f g lt hz.
        let gs : index_in (target_at ts a).count at z ≡ Ok i = ap (λ c. index_in c at z) (counts_s a ∙ sym (counts_t a)) ∙ g in
        let es = ap (λ o. and_then o (λ u. and_then (value_of ts consts y s ls) (λ v. Ok (extremum which u v)))) (place_value ts s x z i place fs gs) in
        let et = ap (λ o. and_then o (λ u. and_then (value_of us consts y t ls) (λ v. Ok (extremum which u v)))) (place_value us t x z i place f g) in
        let each = λ (v : ℤ). sum_stored modes ts us aliases s0 t0 (reduction_of which) before a i (static ix cs) s t
        (λ o. extremum which o v) (λ d. extremum which d v) (λ x d. more_merged (reduction_of which) x d v) lt acc ag in
        subst (λ o. Ends modes consts ts us aliases s0 t0 counts_s counts_t Q (Stores s ts i o) (Stores t us i (value_of us consts (Extremum' which p x q y) t ls))) (sym es)
        (subst (λ o. Ends modes consts ts us aliases s0 t0 counts_s counts_t Q
        (Stores s ts i (and_then (value_of ts consts y s ls) (λ v. Ok (extremum which (read_arg ts s a i) v)))) (Stores t us i o))
        (sym et)
        (subst (λ o. Ends modes consts ts us aliases s0 t0 counts_s counts_t Q
        (Stores s ts i (and_then o (λ v. Ok (extremum which (read_arg ts s a i) v))))
        (Stores t us i (and_then (value_of us consts y t ls) (λ v. Ok (extremum which (read_arg us t a i) v)))))
        (sym (expr_same modes consts ts us aliases s0 t0 counts_s counts_t y cs before s t ls st ag fine_y))
        (both (value_of us consts y t ls) i each))))
      where
        both : (o : Value) (i : ℕ) → ((v : ℤ) → Agree (with_assigned a (static ix cs) before)
            (store_arg ts s a i (extremum which (read_arg ts s a i) v)) (store_arg us t a i (extremum which (read_arg us t a i) v)))
            → Ends modes consts ts us aliases s0 t0 counts_s counts_t Q
            (Stores s ts i (and_then o (λ v. Ok (extremum which (read_arg ts s a i) v))))
            (Stores t us i (and_then o (λ v. Ok (extremum which (read_arg us t a i) v))))
        both (Err f) i each = refl
        both (Ok v) i each = (with_assigned a (static ix cs) before, k, refl, each v)

    -- P = MIN(e, P) and P = MAX(e, P)
    merge_second : (Q : Assigned → Type 0) (which : MinMax) (p q : _) (x y : RExpr) → access modes a ≡ OpReduce (reduction_of which)
        → is_place a form ix y ≡ true → Fine ix cs before → Fine x cs before → Q (with_assigned a (static ix cs) before)
        → ArgEnds Q assign.Set (Extremum' which p x q y)
    merge_second Q which p q x y acc place fine_ix fine_x k =
        at_index Q assign.Set (Extremum' which p x q y) fine_ix
        (λ z i fs f g lt hz.
        let gs : index_in (target_at ts a).count at z ≡ Ok i = ap (λ c. index_in c at z) (counts_s a ∙ sym (counts_t a)) ∙ g in
        let es = ap (λ o. and_then (value_of ts consts x s ls) (λ u. and_then o (λ v. Ok (extremum which u v)))) (place_value ts s y z i place fs gs) in
        let et = ap (λ o. and_then (value_of us consts x t ls) (λ u. and_then o (λ v. Ok (extremum which u v)))) (place_value us t y z i place f g) in
        let each = λ (v : ℤ). sum_stored modes ts us aliases s0 t0 (reduction_of which) before a i (static ix cs) s t
        (λ o. extremum which v o) (λ d. extremum which v d) (λ x d. merged_before (reduction_of which) x d v) lt acc ag in
        subst (λ o. Ends modes consts ts us aliases s0 t0 counts_s counts_t Q (Stores s ts i o) (Stores t us i (value_of us consts (Extremum' which p x q y) t ls))) (sym es)
        (subst (λ o. Ends modes consts ts us aliases s0 t0 counts_s counts_t Q
        (Stores s ts i (and_then (value_of ts consts x s ls) (λ u. Ok (extremum which u (read_arg ts s a i))))) (Stores t us i o))
        (sym et)
        (subst (λ o. Ends modes consts ts us aliases s0 t0 counts_s counts_t Q
        (Stores s ts i (and_then o (λ u. Ok (extremum which u (read_arg ts s a i)))))
        (Stores t us i (and_then (value_of us consts x t ls) (λ u. Ok (extremum which u (read_arg us t a i))))))
        (sym (expr_same modes consts ts us aliases s0 t0 counts_s counts_t x cs before s t ls st ag fine_x))
        (both (value_of us consts x t ls) i each))))
      where
        both : (o : Value) (i : ℕ) → ((v : ℤ) → Agree (with_assigned a (static ix cs) before)
            (store_arg ts s a i (extremum which v (read_arg ts s a i))) (store_arg us t a i (extremum which v (read_arg us t a i))))
            → Ends modes consts ts us aliases s0 t0 counts_s counts_t Q
            (Stores s ts i (and_then o (λ u. Ok (extremum which u (read_arg ts s a i)))))
            (Stores t us i (and_then o (λ u. Ok (extremum which u (read_arg us t a i)))))
        both (Err f) i each = refl
        both (Ok v) i each = (with_assigned a (static ix cs) before, k, refl, each v)

    abbrev pub ArgReach : AssignOp → (e : RExpr) → Assigned → Type 0
    ArgReach op e after = (w : ExprPath ix × ExprPath e)
        × (assigned_after before (expr_events ix w.0 cs ++
        (right_events (own_side a form ix op e) e w.1 cs ++ target_event (own_side a form ix op e) op a (static ix cs) at ∷ [])) ≡ after)

    pub arg_reach : (op : AssignOp) (e : RExpr) → ArgReach op e (with_assigned a (static ix cs) before)
    arg_reach op e =
        let own = own_side a form ix op e in
        let wi = some_expr_path ix in
        let we = some_expr_path e in
        let end = target_event own op a (static ix cs) at ∷ [] in (
          (wi, we),
          assigned_after-append before (expr_events ix wi cs) (right_events own e we cs ++ end) ∙ ap (λ b. assigned_after b (right_events own e we cs ++ end)) (expr_keeps ix wi cs before)
              ∙ assigned_after-append before (right_events own e we cs) end ∙ ap (λ b. assigned_after b end) (right_keeps own e we cs before)
              ∙ target_event_after own op a (static ix cs) at before,
        )

    -- through an argument of another access the form is a read and an assignment
    own_read : (which : MinMax) (acc : Access) (dim b : ℕ) (jx : Option ℤ) → (acc ≡ OpReduce (reduction_of which) → ⊥) → MayOwn which acc dim b jx before → MayRead acc dim b jx before
    own_read min_max.Min (OpReduce Min) dim b jx n m = absurd (n refl)
    own_read min_max.Max (OpReduce Max) dim b jx n m = absurd (n refl)
    own_read which acc dim b jx n m = m

    merge_assign : (which : MinMax) (acc : Access) (dim b : ℕ) (jx : Option ℤ) → (acc ≡ OpReduce (reduction_of which) → ⊥) → MayMerge which acc dim b jx before → MayAssign acc dim b jx before
    merge_assign min_max.Min (OpReduce Min) dim b jx n m = absurd (n refl)
    merge_assign min_max.Max (OpReduce Max) dim b jx n m = absurd (n refl)
    merge_assign which acc dim b jx n m = m

    own_relaxed : (which : MinMax) (x : RExpr) (w : ExprPath x) → is_place a form ix x ≡ true
        → (access modes a ≡ OpReduce (reduction_of which) → ⊥) → AllAllowed modes before (own_events which x w cs)
        → AllAllowed modes before (expr_events x w cs)
    own_relaxed which (Arg' b other_form p jx bt) w e n h =
        let same : a ≡ b = eqb-true a b (and_first _ _ e) in
        let own = after_expr modes jx w cs before (Owns which b (static jx cs) bt ∷ []) h in
        keeping_both modes (expr_events jx w cs) (Reads b (static jx cs) bt ∷ []) before (expr_keeps jx w cs before)
        (allowed_front modes before (expr_events jx w cs) (Owns which b (static jx cs) bt ∷ []) h)
        (own_read which (access modes b) (dim modes b) b (static jx cs) (λ g. n (ap (access modes) same ∙ g)) own.0, tt)
    own_relaxed which x w e n h = h

    -- two parts of a right side, and the target
    parts : (xs ys : List Event) (t : Event) → assigned_after before xs ≡ before → assigned_after before ys ≡ before
        → AllAllowed modes before ((xs ++ ys) ++ t ∷ []) → AllAllowed modes before xs × AllAllowed modes before ys × Allowed modes before t
    parts xs ys t kx ky h =
        let both = allowed_front modes before (xs ++ ys) (t ∷ []) h in (
          allowed_front modes before xs ys both,
          after_keeping modes xs ys before kx both,
          (after_keeping modes (xs ++ ys) (t ∷ []) before (keeps_two xs ys before kx ky) h).0,
        )

    together : (xs ys : List Event) (t : Event) → assigned_after before xs ≡ before → assigned_after before ys ≡ before
        → AllAllowed modes before xs → AllAllowed modes before ys → Allowed modes before t → AllAllowed modes before ((xs ++ ys) ++ t ∷ [])
    together xs ys t kx ky hx hy ht =
        keeping_both modes (xs ++ ys) (t ∷ []) before (keeps_two xs ys before kx ky) (keeping_both modes xs ys before kx hx hy) (ht, tt)

    is_reduction : (acc : Access) (r : Reduction) → (acc ≡ OpReduce r) ⊎ (acc ≡ OpReduce r → ⊥)
    is_reduction (OpReduce Add) Add = inl refl
    is_reduction (OpReduce Min) Min = inl refl
    is_reduction (OpReduce Max) Max = inl refl
    is_reduction acc r = inr (λ g. cc)

    module _ (which : MinMax) (x y : RExpr) (Q : Assigned → Type 0) (k : Q (with_assigned a (static ix cs) before)) where
      abbrev two_events : Own → ExprPath x × ExprPath y → List Event
      two_events Neither w = expr_events x w.0 cs ++ expr_events y w.1 cs
      two_events (First o) w = own_events o x w.0 cs ++ expr_events y w.1 cs
      two_events (Second o) w = expr_events x w.0 cs ++ own_events o y w.1 cs

      abbrev OwnFine : Own → Type 0
      OwnFine own = (w : ExprPath ix × (ExprPath x × ExprPath y)) → AllAllowed modes before (expr_events ix w.0 cs ++ (two_events own w.1 ++ target_event own assign.Set a (static ix cs) at ∷ []))

      abbrev end : Event
      end = Merges which a (static ix cs) at

      first_parts : OwnFine (First which) → (w : ExprPath x × ExprPath y) → AllAllowed modes before (own_events which x w.0 cs)
          × AllAllowed modes before (expr_events y w.1 cs) × Allowed modes before end
      first_parts h w =
          parts (own_events which x w.0 cs) (expr_events y w.1 cs) end (own_keeps which x w.0 cs before) (expr_keeps y w.1 cs before)
          (after_expr modes ix (some_expr_path ix) cs before _ (h (some_expr_path ix, w)))

      second_parts : OwnFine (Second which) → (w : ExprPath x × ExprPath y) → AllAllowed modes before (expr_events x w.0 cs)
          × AllAllowed modes before (own_events which y w.1 cs) × Allowed modes before end
      second_parts h w =
          parts (expr_events x w.0 cs) (own_events which y w.1 cs) end (expr_keeps x w.0 cs before) (own_keeps which y w.1 cs before)
          (after_expr modes ix (some_expr_path ix) cs before _ (h (some_expr_path ix, w)))

      fine_index : (own : Own) → OwnFine own → Fine ix cs before
      fine_index own h w = allowed_front modes before (expr_events ix w cs) _ (h (w, (some_expr_path x, some_expr_path y)))

      plain_first : is_place a form ix x ≡ true → (access modes a ≡ OpReduce (reduction_of which) → ⊥) → OwnFine (First which) → OwnFine Neither
      plain_first e n h w =
          let r = first_parts h w.1 in
          keeping_both modes (expr_events ix w.0 cs) _ before (expr_keeps ix w.0 cs before) (fine_index (First which) h w.0)
          (together (expr_events x w.1.0 cs) (expr_events y w.1.1 cs) (Assigns a (static ix cs) at) (expr_keeps x w.1.0 cs before)
          (expr_keeps y w.1.1 cs before) (own_relaxed which x w.1.0 e n r.0) r.1
          (merge_assign which (access modes a) (dim modes a) a (static ix cs) n r.2))

      plain_second : is_place a form ix y ≡ true → (access modes a ≡ OpReduce (reduction_of which) → ⊥) → OwnFine (Second which) → OwnFine Neither
      plain_second e n h w =
          let r = second_parts h w.1 in
          keeping_both modes (expr_events ix w.0 cs) _ before (expr_keeps ix w.0 cs before) (fine_index (Second which) h w.0)
          (together (expr_events x w.1.0 cs) (expr_events y w.1.1 cs) (Assigns a (static ix cs) at) (expr_keeps x w.1.0 cs before)
          (expr_keeps y w.1.1 cs before) r.0 (own_relaxed which y w.1.1 e n r.1)
          (merge_assign which (access modes a) (dim modes a) a (static ix cs) n r.2))

      own_form : (p q : _) (bx by : Bool) → is_place a form ix x ≡ bx → is_place a form ix y ≡ by
          → ((w : ExprPath ix × (ExprPath x × ExprPath y)) → AllAllowed modes before
          (expr_events ix w.0 cs ++ (right_events (cond bx (First which) (cond by (Second which) Neither)) (Extremum' which p x q y) w.1 cs
          ++ target_event (cond bx (First which) (cond by (Second which) Neither)) assign.Set a (static ix cs) at ∷ [])))
          → ArgEnds Q assign.Set (Extremum' which p x q y)
      own_form p q true by ex ey h = pick (is_reduction (access modes a) (reduction_of which))
        where
          pick : (access modes a ≡ OpReduce (reduction_of which)) ⊎ (access modes a ≡ OpReduce (reduction_of which) → ⊥) → ArgEnds Q assign.Set (Extremum' which p x q y)
          pick (inl e) = merge_first Q which p q x y e ex (fine_index (First which) h) (λ w. (first_parts h (some_expr_path x, w)).1) k
          pick (inr n) = set_plain Q assign.Set (Extremum' which p x q y) (plain_first ex n h) k
      own_form p q false true ex ey h = pick (is_reduction (access modes a) (reduction_of which))
        where
          pick : (access modes a ≡ OpReduce (reduction_of which)) ⊎ (access modes a ≡ OpReduce (reduction_of which) → ⊥) → ArgEnds Q assign.Set (Extremum' which p x q y)
          pick (inl e) = merge_second Q which p q x y e ey (fine_index (Second which) h) (λ w. (second_parts h (w, some_expr_path y)).0) k
          pick (inr n) = set_plain Q assign.Set (Extremum' which p x q y) (plain_second ey n h) k
      own_form p q false false ex ey h = set_plain Q assign.Set (Extremum' which p x q y) h k

    pub set_arg : (op : AssignOp) (e : RExpr) →
        ((w : ExprPath ix × ExprPath e) → AllAllowed modes before
        (expr_events ix w.0 cs ++ (right_events (own_side a form ix op e) e w.1 cs ++ target_event (own_side a form ix op e) op a
        (static ix cs) at ∷ []))) → ArgEnds (ArgReach op e) op e
    set_arg assign.Set (Extremum' which p x q y) h = own_form which x y (ArgReach assign.Set (Extremum' which p x q y))
        (arg_reach assign.Set (Extremum' which p x q y)) p q (is_place a form ix x) (is_place a form ix y) refl refl h
    set_arg op e h = set_plain (ArgReach op e) op e h (arg_reach op e)
