-- How two runs end, and what one assignment to a cell makes of two stores that agree.
use Rattle.std.proofs.Common.{◌≡◌, ◌≢◌, ℕ, ℤ, pos, ◌<◌, List, Option, Some, Result, Ok, Err, Bool, true, false, cond, refl, sym, ap, ◌∙◌, subst}
use Rattle.c_tree.specs.declared.lexer.tokens.Pos.{Pos}
use Rattle.c_tree.specs.declared.declarations.AssignOp.{AssignOp}
use Rattle.c_tree.specs.declared.declarations.AssignOp.TheVariants as assign
use Rattle.op_num.specs.Reduction.{Reduction, Add, Min, Max}
use Rattle.kernel_model.specs.declared.types.faults.KernelFault.{KernelFault}
use Rattle.kernel_model.specs.Numbers.{Value, sum, difference}
use Rattle.kernel_model.specs.Meaning.{Store, Target, target_at, read_arg, store_arg, Outcome, Done, Faulted, then_do, with_value, stored}
use Rattle.op_num.specs.Access.{Access, OpRead, OpWrite, OpRw, OpReduce}
use Rattle.kernel_model.specs.Obeys.{Mode, store_event, Assigned, MayAssign, MayAdd, MayChange, Allowed, with_assigned}
use Rattle.kernel_model.specs.Independence.{access, dim, SameStoredAliases}
use Rattle.kernel_model.proofs.Locals.{OnDone}
use Rattle.kernel_model.proofs.Agreement.{Known, known_rw, Agrees, same_stored, sum_stored, more_added, more_taken}
use Rattle.kernel_model.proofs.SameValues.{known_if_read}

module _ (modes : List Mode) (consts : List ℤ) (ts us : List Target) (aliases : SameStoredAliases modes ts us) (s0 t0 : Store)
    (counts_s : (a : ℕ) → (target_at ts a).count ≡ dim modes a) (counts_t : (a : ℕ) → (target_at us a).count ≡ dim modes a) where
  abbrev Agree : Assigned → Store → Store → Type 0
  Agree before s t = Agrees modes ts us aliases s0 t0 before s t

  -- both runs are done, with the same locals, or stop with the same fault
  abbrev pub Ends : (Assigned → Type 0) → Outcome → Outcome → Type 0
  Ends R (Done s ls) (Done t ms) = (after : Assigned) × R after × (ls ≡ ms) × Agree after s t
  Ends R (Faulted s ls f) (Faulted t ms g) = f ≡ g
  Ends R (Done s ls) (Faulted t ms g) = ⊥
  Ends R (Faulted s ls f) (Done t ms) = ⊥

  pub ends_weaker : (R Q : Assigned → Type 0) → ((b : Assigned) → R b → Q b) → (o p : Outcome) → Ends R o p → Ends Q o p
  ends_weaker R Q f (Done s ls) (Done t ms) h = (h.0, f h.0 h.1, h.2, h.3)
  ends_weaker R Q f (Faulted s ls g) (Faulted t ms k) h = h
  ends_weaker R Q f (Done s ls) (Faulted t ms g) h = absurd h
  ends_weaker R Q f (Faulted s ls g) (Done t ms) h = absurd h

  pub ends_then : (R Q : Assigned → Type 0) (P : List ℤ → Type 0) (o p : Outcome) (go go' : Store → List ℤ → Outcome) → Ends R o p
      → OnDone P o → ((b : Assigned) (s t : Store) (ls : List ℤ) → R b → P ls → Agree b s t → Ends Q (go s ls) (go' t ls))
      → Ends Q (then_do o go) (then_do p go')
  ends_then R Q P (Done s ls) (Done t ms) go go' h d f =
      subst (λ l. Ends Q (go s ls) (go' t l)) h.2 (f h.0 s t ls h.1 d h.3)
  ends_then R Q P (Faulted s ls g) (Faulted t ms k) go go' h d f = h
  ends_then R Q P (Done s ls) (Faulted t ms g) go go' h d f = absurd h
  ends_then R Q P (Faulted s ls g) (Done t ms) go go' h d f = absurd h

  pub ends_value : {A : Type 0} → (Q : Assigned → Type 0) (s t : Store) (ls : List ℤ) (r r' : Result A KernelFault) (go go' : A → Outcome)
      → r ≡ r' → ((v : A) → r' ≡ Ok v → Ends Q (go v) (go' v)) → Ends Q (with_value s ls r go) (with_value t ls r' go')
  ends_value {A} Q s t ls r r' go go' e h = subst (λ x. Ends Q (with_value s ls x go) (with_value t ls r' go')) (sym e) (core r' h)
    where
      core : (x : Result A KernelFault) → ((v : A) → x ≡ Ok v → Ends Q (go v) (go' v)) → Ends Q (with_value s ls x go) (with_value t ls x go')
      core (Err f) k = refl
      core (Ok v) k = k v refl

  pub ends_cond : (Q : Assigned → Type 0) (b : Bool) (o o' p p' : Outcome) → Ends Q o p → Ends Q o' p' → Ends Q (cond b o o') (cond b p p')
  ends_cond Q true o o' p p' x y = x
  ends_cond Q false o o' p p' x y = y

  -- ---- one store

  module _ (Q : Assigned → Type 0) (before : Assigned) (s t : Store) (ls : List ℤ) (a i : ℕ) (ix : Option ℤ) (lt : i < dim modes a)
      (hz : (z : ℤ) → ix ≡ Some z → z ≡ pos i) (ag : Agree before s t) (q : Q (with_assigned a ix before)) where
    abbrev StoreEnds : Value → Value → Type 0
    StoreEnds x y = Ends Q (with_value s ls x (λ r. Done (store_arg ts s a i r) ls)) (with_value t ls y (λ r. Done (store_arg us t a i r) ls))

    one_value : (acc : Access) (x y : Value) → access modes a ≡ acc → ((r : Reduction) → acc ≡ OpReduce r → ⊥) → acc ≢ OpRead → x ≡ y → StoreEnds x y
    one_value acc x y f n m e =
        ends_value Q s t ls x y (λ r. Done (store_arg ts s a i r) ls) (λ r. Done (store_arg us t a i r) ls) e
        (λ v g. (with_assigned a ix before, q, refl, same_stored modes ts us aliases s0 t0 before a i ix s t v lt (λ red. n red.0 (sym f ∙ red.1)) (λ r. m (sym f ∙ r)) hz ag))

    plain_store : (acc : Access) (v : ℤ) → access modes a ≡ acc → MayAssign acc (dim modes a) a ix before → StoreEnds (Ok v) (Ok v)
    plain_store OpRead v e m = absurd m
    plain_store OpRw v e m = one_value OpRw (Ok v) (Ok v) e (λ r f. cc) (λ f. cc) refl
    plain_store OpWrite v e m = one_value OpWrite (Ok v) (Ok v) e (λ r f. cc) (λ f. cc) refl
    plain_store (OpReduce r) v e m = absurd m

    -- a store over an old value that is the same in both runs
    over_known : (acc : Access) (op : AssignOp) (opat : Pos) (v : ℤ) → access modes a ≡ acc → ((r : Reduction) → acc ≡ OpReduce r → ⊥)
        → acc ≢ OpRead → Known modes before a i → StoreEnds (stored op opat (read_arg ts s a i) v) (stored op opat (read_arg us t a i) v)
    over_known acc op opat v e n m k = one_value acc _ _ e n m (ap (λ o. stored op opat o v) (ag.known a i lt k))

    change_store : (acc : Access) (op : AssignOp) (opat : Pos) (v : ℤ) → access modes a ≡ acc → MayChange acc (dim modes a) a ix before
        → StoreEnds (stored op opat (read_arg ts s a i) v) (stored op opat (read_arg us t a i) v)
    change_store OpRead op opat v e m = absurd m
    change_store OpRw op opat v e m = over_known OpRw op opat v e (λ r f. cc) (λ f. cc) (known_rw e)
    change_store OpWrite op opat v e m = over_known OpWrite op opat v e (λ r f. cc) (λ f. cc) (known_if_read modes consts ts us aliases s0 t0 counts_s counts_t OpWrite a i ix before e m hz)
    change_store (OpReduce r) op opat v e m = absurd m

    add_store : (acc : Access) (opat : Pos) (v : ℤ) → access modes a ≡ acc → MayAdd acc (dim modes a) a ix before
        → StoreEnds (stored assign.Add opat (read_arg ts s a i) v) (stored assign.Add opat (read_arg us t a i) v)
    add_store OpRead opat v e m = absurd m
    add_store OpRw opat v e m = change_store OpRw assign.Add opat v e m
    add_store OpWrite opat v e m = change_store OpWrite assign.Add opat v e m
    add_store (OpReduce Add) opat v e m =
        (with_assigned a ix before, q, refl, sum_stored modes ts us aliases s0 t0 Add before a i ix s t (λ o. sum o v) (λ d. sum d v) (λ x d. more_added x d v) lt e ag)
    add_store (OpReduce Min) opat v e m = absurd m
    add_store (OpReduce Max) opat v e m = absurd m

    sub_store : (acc : Access) (opat : Pos) (v : ℤ) → access modes a ≡ acc → MayAdd acc (dim modes a) a ix before
        → StoreEnds (stored assign.Sub opat (read_arg ts s a i) v) (stored assign.Sub opat (read_arg us t a i) v)
    sub_store OpRead opat v e m = absurd m
    sub_store OpRw opat v e m = change_store OpRw assign.Sub opat v e m
    sub_store OpWrite opat v e m = change_store OpWrite assign.Sub opat v e m
    sub_store (OpReduce Add) opat v e m =
        (with_assigned a ix before, q, refl, sum_stored modes ts us aliases s0 t0 Add before a i ix s t (λ o. difference o v) (λ d. difference d v) (λ x d. more_taken x d v) lt e ag)
    sub_store (OpReduce Min) opat v e m = absurd m
    sub_store (OpReduce Max) opat v e m = absurd m

    pub store_same : (op : AssignOp) (opat at : Pos) (v : ℤ) → Allowed modes before (store_event op a ix at) → StoreEnds (stored op opat (read_arg ts s a i) v) (stored op opat (read_arg us t a i) v)
    store_same assign.Set opat at v m = plain_store (access modes a) v refl m
    store_same assign.Add opat at v m = add_store (access modes a) opat v refl m
    store_same assign.Sub opat at v m = sub_store (access modes a) opat v refl m
    store_same assign.Mul opat at v m = change_store (access modes a) assign.Mul opat v refl m
    store_same assign.Div opat at v m = change_store (access modes a) assign.Div opat v refl m
    store_same assign.Rem opat at v m = change_store (access modes a) assign.Rem opat v refl m
    store_same assign.ShiftLeft opat at v m = change_store (access modes a) assign.ShiftLeft opat v refl m
    store_same assign.ShiftRight opat at v m = change_store (access modes a) assign.ShiftRight opat v refl m
    store_same assign.BitAnd opat at v m = change_store (access modes a) assign.BitAnd opat v refl m
    store_same assign.BitOr opat at v m = change_store (access modes a) assign.BitOr opat v refl m
    store_same assign.BitXor opat at v m = change_store (access modes a) assign.BitXor opat v refl m
