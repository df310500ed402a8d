-- How a run ends, by the effects of its statement.
use Rattle.std.proofs.Common.{◌≡◌, ℕ, zero, suc, ℤ, pos, ◌+◌, ◌-◌, List, set, Result, Ok, Err, Bool, true, false, cond, ◌&&◌, ◌||◌, refl, sym, ◌∙◌, ap, subst, arith, replicate}
use Rattle.std.specs.Prelude.{slice_index_or}
use Rattle.kernel_model.specs.declared.types.faults.KernelFault.{KernelFault}
use Rattle.kernel_model.specs.declared.types.statements.RStmt.{RStmt, Block', Declare, SetScalar, SetLocal, SetArg, If', For', Row_of-RStmt, end_of-RStmt, more_of-RStmt}
use Rattle.kernel_model.specs.Numbers.{is_zero, not}
use Rattle.kernel_model.specs.Meaning.{Store, Target, target_at, index_in, value_of, Outcome, Done, Faulted, then_do, with_value, stored, turns, meaning, meaning_of_all, read_arg, without_locals, Stopped}
use Rattle.kernel_model.specs.Independence.{store_after}
use Rattle.kernel_model.specs.declared.fault_order.effects.Effects.{Effects}
use Rattle.kernel_model.specs.Effects.{may_be_out, sign_may_fault, count_at, may_fault, fault_if, in_order, either, effects_of, row_effects}
use Rattle.kernel_model.specs.Law.{HaveCounts, UnchangedAfterFaults}
use Rattle.kernel_model.proofs.fault_order.Values.{HasValue, sign_has, index_has, index_value, has_value}
use Rattle.std.proofs.lemmas.Bool.{and_parts, or_left, or_parts, or_right, true_from_ne_false}

-- ---- tests

not_both : (b c : Bool) → not (b && c) ≡ true → c ≡ true → b ≡ false
not_both true true e f = absurd (let g : ⊥ = cc in g)
not_both true false e f = absurd (let g : ⊥ = cc in g)
not_both false c e f = refl

-- ---- ends

-- The run of a part with those effects, which began with that store, ends so: where nothing is stored the store is as it was; it
-- faults only where something may; and where faults come first the store is as it was after a fault.
abbrev pub EndsBy : Effects → Store → Outcome → Type 0
EndsBy x s (Done t ls) = x.stores ≡ false → t ≡ s
EndsBy x s (Faulted t ls f) = (x.faults ≡ true) × (x.stores ≡ false → t ≡ s) × (x.ordered ≡ true → t ≡ s)

ends_after : (x y : Effects) (s t : Store) (o : Outcome) → (x.stores ≡ false → t ≡ s) → EndsBy y t o → EndsBy (in_order x y) s o
ends_after x y s t (Done u ls) h k = λ e. let parts = or_parts x.stores y.stores e in k parts.1 ∙ h parts.0
ends_after x y s t (Faulted u ls f) h k = (
  or_right x.faults y.faults k.0,
  λ e. let parts = or_parts x.stores y.stores e in k.1 parts.1 ∙ h parts.0,
  λ e.
      let parts = and_parts (not (x.stores && y.faults)) (x.ordered && y.ordered) e in
      k.2 (and_parts x.ordered y.ordered parts.1).1 ∙ h (not_both x.stores y.faults parts.0 k.0),
)

ends_then : (x y : Effects) (s : Store) (o : Outcome) (go : Store → List ℤ → Outcome) → EndsBy x s o → ((t : Store) (ls : List ℤ) → EndsBy y t (go t ls)) → EndsBy (in_order x y) s (then_do o go)
ends_then x y s (Done t ls) go h k = ends_after x y s t (go t ls) h (k t ls)
ends_then x y s (Faulted t ls f) go h k = (
  or_left x.faults y.faults h.0,
  λ e. h.1 (or_parts x.stores y.stores e).0,
  λ e. h.2 (and_parts x.ordered y.ordered (and_parts (not (x.stores && y.faults)) (x.ordered && y.ordered) e).1).0,
)

ends_with : {A : Type 0} → (x : Effects) (s : Store) (ls : List ℤ) (r : Result A KernelFault) (go : A → Outcome)
    → (x.faults ≡ false → HasValue r) → ((v : A) → r ≡ Ok v → EndsBy x s (go v)) → EndsBy x s (with_value s ls r go)
ends_with x s ls (Ok v) go h k = k v refl
ends_with x s ls (Err f) go h k = (true_from_ne_false x.faults h, λ e. refl, λ e. refl)

ends_first : (x y : Effects) (s : Store) (o : Outcome) → EndsBy x s o → EndsBy (either x y) s o
ends_first x y s (Done t ls) h = λ e. h (or_parts x.stores y.stores e).0
ends_first x y s (Faulted t ls f) h = (
  or_left x.faults y.faults h.0,
  λ e. h.1 (or_parts x.stores y.stores e).0,
  λ e. h.2 (and_parts x.ordered y.ordered e).0,
)

ends_second : (x y : Effects) (s : Store) (o : Outcome) → EndsBy y s o → EndsBy (either x y) s o
ends_second x y s (Done t ls) h = λ e. h (or_parts x.stores y.stores e).1
ends_second x y s (Faulted t ls f) h = (
  or_right x.faults y.faults h.0,
  λ e. h.1 (or_parts x.stores y.stores e).1,
  λ e. h.2 (and_parts x.ordered y.ordered e).1,
)

ends_cond : (x : Effects) (s : Store) (b : Bool) (o p : Outcome) → EndsBy x s o → EndsBy x s p → EndsBy x s (cond b o p)
ends_cond x s true o p h k = h
ends_cond x s false o p h k = k

-- ---- turns

abbrev made : Bool → Bool → Bool → Effects
made s f o = record { stores = s; faults = f; ordered = o }

made_again : (s f o : Bool) → in_order (made s f o) (in_order (made s f o) (made s f o)) ≡ in_order (made s f o) (made s f o)
made_again true true o = refl
made_again true false true = refl
made_again true false false = refl
made_again false true true = refl
made_again false true false = refl
made_again false false true = refl
made_again false false false = refl

-- three turns have the effects of two
again : (x : Effects) → in_order x (in_order x x) ≡ in_order x x
again x = made_again x.stores x.faults x.ordered

turns_end : (x : Effects) (body : Store → List ℤ → Outcome) (k : ℕ) → ((s : Store) (ls : List ℤ) → EndsBy x s (body s ls))
    → (i n : ℕ) (s : Store) (ls : List ℤ) → EndsBy (in_order x x) s (turns body k i n s ls)
turns_end x body k h i zero s ls = λ e. refl
turns_end x body k h i (suc n) s ls =
    subst (λ y. EndsBy y s (turns body k i (suc n) s ls)) (again x)
    (ends_then x (in_order x x) s (body s (set ls k (pos i))) (turns body k (suc i) n) (h s (set ls k (pos i))) (λ t ms. turns_end x body k h (suc i) n t ms))

-- ---- statements

module _ (counts : List ℕ) (ts : List Target) (consts : List ℤ) (counted : HaveCounts counts ts) where
  mutual
    ends : (st : RStmt) (s : Store) (ls : List ℤ) → EndsBy (effects_of counts st) s (meaning ts consts st s ls)
    ends (Block' shape all) s ls = row_ends all s ls
    ends (Declare from count) s ls = λ e. refl
    ends (SetScalar k op opat e) s ls =
        let x = effects_of counts (SetScalar k op opat e) in
        let parts = or_parts (sign_may_fault op e) (may_fault counts e) in
        ends_with x s ls (value_of ts consts e s ls) _ (λ h. has_value ts consts s ls counts counted e (parts h).1)
        (λ v f. ends_with x s ls (stored op opat (slice_index_or ls k (pos 0)) v) _ (λ h. sign_has ts consts s ls op e opat (slice_index_or ls k (pos 0)) (parts h).0 v f)
        (λ r g. λ h. refl))
    ends (SetLocal from count form ix at op opat e) s ls =
        let x = effects_of counts (SetLocal from count form ix at op opat e) in
        let parts = or_parts (may_be_out count ix) (sign_may_fault op e || may_fault counts e) in
        let sides = or_parts (sign_may_fault op e) (may_fault counts e) in
        ends_with x s ls (value_of ts consts ix s ls) _ (λ h. index_value ts consts s ls count ix (parts h).0)
        (λ z d. ends_with x s ls (index_in count at z) _ (λ h. index_has ts consts s ls count count ix at (omega arith) (parts h).0 z d)
        (λ i c. ends_with x s ls (value_of ts consts e s ls) _ (λ h. has_value ts consts s ls counts counted e (sides (parts h).1).1)
        (λ v f. ends_with x s ls (stored op opat (slice_index_or ls (from + i) (pos 0)) v) _ (λ h. sign_has ts consts s ls op e opat (slice_index_or ls (from + i) (pos 0)) (sides (parts h).1).0 v f)
        (λ r g. λ h. refl))))
    ends (SetArg a form ix at op opat e) s ls =
        let x = effects_of counts (SetArg a form ix at op opat e) in
        let parts = λ (h : x.faults ≡ false). or_parts (may_be_out (count_at counts a) ix) (sign_may_fault op e || may_fault counts e)
        (or_parts (may_be_out (count_at counts a) ix || (sign_may_fault op e || may_fault counts e)) false h).0 in
        let sides = or_parts (sign_may_fault op e) (may_fault counts e) in
        ends_with x s ls (value_of ts consts ix s ls) _ (λ h. index_value ts consts s ls (count_at counts a) ix (parts h).0)
        (λ z d. ends_with x s ls (index_in (target_at ts a).count at z) _ (λ h. index_has ts consts s ls (count_at counts a) (target_at ts a).count ix at (counted a) (parts h).0 z d)
        (λ i c. ends_with x s ls (value_of ts consts e s ls) _ (λ h. has_value ts consts s ls counts counted e (sides (parts h).1).1)
        (λ v f. ends_with x s ls (stored op opat (read_arg ts s a i) v) _ (λ h. sign_has ts consts s ls op e opat (read_arg ts s a i) (sides (parts h).1).0 v f)
        (λ r g. λ h. absurd (let j : ⊥ = cc in j)))))
    ends (If' e p a q b) s ls =
        let x = either (effects_of counts a) (effects_of counts b) in
        let m = fault_if (may_fault counts e) in
        ends_with (in_order m x) s ls (value_of ts consts e s ls) _ (λ h. has_value ts consts s ls counts counted e (or_parts (may_fault counts e) x.faults h).0)
        (λ v f. ends_after m x s s (cond (is_zero v) (meaning ts consts b s ls) (meaning ts consts a s ls)) (λ h. refl)
        (ends_cond x s (is_zero v) (meaning ts consts b s ls) (meaning ts consts a s ls)
        (ends_second (effects_of counts a) (effects_of counts b) s (meaning ts consts b s ls) (ends b s ls))
        (ends_first (effects_of counts a) (effects_of counts b) s (meaning ts consts a s ls) (ends a s ls))))
    ends (For' k first past p body) s ls =
        turns_end (effects_of counts body) (meaning ts consts body) k (λ t ms. ends body t ms) first (past - first) s ls

    row_ends : {m : _} → (all : Row_of-RStmt m) (s : Store) (ls : List ℤ) → EndsBy (row_effects counts all) s (meaning_of_all ts consts all s ls)
    row_ends end_of-RStmt s ls = λ e. refl
    row_ends (more_of-RStmt first rest) s ls =
        ends_then (effects_of counts first) (row_effects counts rest) s (meaning ts consts first s ls) (meaning_of_all ts consts rest) (ends first s ls) (λ t ms. row_ends rest t ms)

-- ---- kernels

stop_unchanged : (x : Effects) (s t : Store) (f : KernelFault) (o : Outcome) → x.ordered ≡ true → EndsBy x s o → without_locals o ≡ Stopped t f → t ≡ s
stop_unchanged x s t f (Done u ls) h k e = absurd (let g : ⊥ = cc in g)
stop_unchanged x s t f (Faulted u ls g) h k e = sym (ap store_after e) ∙ k.2 h

pub unchanged_after_faults : UnchangedAfterFaults
unchanged_after_faults counts k ts consts h counted s t f e =
    stop_unchanged (effects_of counts k.body.statement) s t f (meaning ts consts k.body.statement s (replicate k.scratch (pos 0))) h
    (ends counts ts consts counted k.body.statement s (replicate k.scratch (pos 0))) e
