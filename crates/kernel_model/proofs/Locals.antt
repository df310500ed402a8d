-- What a statement keeps of the locals.
use Rattle.std.proofs.Common.{◌≡◌, ℕ, zero, suc, ℤ, pos, negsuc, ◌+◌, ◌-◌, ◌<◌, ◌≤◌, List, set, Result, Ok, Err, Bool, true, false, cond, refl, arith}
use Rattle.std.specs.Prelude.{nat_lt, slice_index_or}
use Rattle.std.proofs.lemmas.Bool.{ltb-true}
use Rattle.op_num.specs.declared.refusals.Fault.TheVariants.{Index}
use Rattle.c_tree.specs.declared.lexer.tokens.Pos.{Pos}
use Rattle.kernel_model.specs.declared.types.faults.KernelFault.{KernelFault}
use Rattle.kernel_model.specs.declared.types.statements.RStmt.{RStmt, Block', Declare, SetScalar, SetLocal, SetArg, If', For', Row_of-RStmt, end_of-RStmt, more_of-RStmt}
use Rattle.kernel_model.specs.Numbers.{fault, is_zero}
use Rattle.kernel_model.specs.Meaning.{Store, Target, target_at, index_in, value_of, Outcome, Done, Faulted, then_do, with_value, stored, cleared, turns, meaning, meaning_of_all, read_arg}
use Rattle.kernel_model.specs.Resolved.{StoresOnly, RowStoresOnly}

abbrev pub OnDone : (List ℤ → Type 0) → Outcome → Type 0
OnDone P (Done s ls) = P ls
OnDone P (Faulted s ls f) = Unit {0}

on_done_value : {A : Type 0} → (P : List ℤ → Type 0) (s : Store) (ls : List ℤ) (r : Result A KernelFault) (go : A → Outcome) → ((v : A) → OnDone P (go v)) → OnDone P (with_value s ls r go)
on_done_value P s ls (Err f) go h = tt
on_done_value P s ls (Ok v) go h = h v

on_done_index : (P : List ℤ → Type 0) (s : Store) (ls : List ℤ) (count : ℕ) (at : Pos) (z : ℤ) (go : ℕ → Outcome)
    → ((i : ℕ) → i < count → OnDone P (go i)) → OnDone P (with_value s ls (index_in count at z) go)
on_done_index P s ls count at (negsuc i) go h = tt
on_done_index P s ls count at (pos i) go h = pick (nat_lt i count) refl
  where
    pick : (b : Bool) → nat_lt i count ≡ b → OnDone P (with_value s ls (cond b (Ok i) (Err (fault Index at))) go)
    pick true e = h i (ltb-true i count e)
    pick false e = tt

on_done_then : (P Q : List ℤ → Type 0) (o : Outcome) (go : Store → List ℤ → Outcome) → OnDone Q o → ((s : Store) (ls : List ℤ) → Q ls → OnDone P (go s ls)) → OnDone P (then_do o go)
on_done_then P Q (Done s ls) go q h = h s ls q
on_done_then P Q (Faulted s ls f) go q h = tt

on_done_cond : (P : List ℤ → Type 0) (b : Bool) (o p : Outcome) → OnDone P o → OnDone P p → OnDone P (cond b o p)
on_done_cond P true o p x y = x
on_done_cond P false o p x y = y

module _ (ts : List Target) (consts : List ℤ) where
  -- a property of the locals that each store keeps
  module _ (P : List ℤ → Type 0) (may : ℕ → Type 0) (keep : (j : ℕ) (v : ℤ) (ls : List ℤ) → may j → P ls → P (set ls j v)) where
    kept_clear : (from n : ℕ) (ls : List ℤ) → ((j : ℕ) → from ≤ j → j < from + n → may j) → P ls → P (cleared from n ls)
    kept_clear from zero ls h p = p
    kept_clear from (suc n) ls h p =
        kept_clear (suc from) n (set ls from (pos 0)) (λ j a b. h j (omega arith) (omega arith)) (keep from (pos 0) ls (h from (omega arith) (omega arith)) p)

    kept_turns : (body : Store → List ℤ → Outcome) (k : ℕ) → may k → ((s : Store) (ls : List ℤ) → P ls → OnDone P (body s ls))
        → (i n : ℕ) (s : Store) (ls : List ℤ) → P ls → OnDone P (turns body k i n s ls)
    kept_turns body k m hb i zero s ls p = p
    kept_turns body k m hb i (suc n) s ls p =
        on_done_then P P (body s (set ls k (pos i))) (turns body k (suc i) n) (hb s (set ls k (pos i)) (keep k (pos i) ls m p)) (λ s' ls' q. kept_turns body k m hb (suc i) n s' ls' q)

    mutual
      pub kept : (st : RStmt) → StoresOnly may st → (s : Store) (ls : List ℤ) → P ls → OnDone P (meaning ts consts st s ls)
      kept (Block' shape all) h s ls p = kept_row all h s ls p
      kept (Declare from count) h s ls p = kept_clear from count ls h p
      kept (SetScalar k op opat e) h s ls p =
          on_done_value P s ls (value_of ts consts e s ls) _ (λ v. on_done_value P s ls (stored op opat (slice_index_or ls k (pos 0)) v) _ (λ r. keep k r ls h p))
      kept (SetLocal from count form ix at op opat e) h s ls p =
          on_done_value P s ls (value_of ts consts ix s ls) _
          (λ z. on_done_index P s ls count at z _
          (λ i lt. on_done_value P s ls (value_of ts consts e s ls) _
          (λ v. on_done_value P s ls (stored op opat (slice_index_or ls (from + i) (pos 0)) v) _
          (λ r. keep (from + i) r ls (h (from + i) (omega arith) (omega arith)) p))))
      kept (SetArg a form ix at op opat e) h s ls p =
          on_done_value P s ls (value_of ts consts ix s ls) _
          (λ z. on_done_index P s ls (target_at ts a).count at z _
          (λ i lt. on_done_value P s ls (value_of ts consts e s ls) _
          (λ v. on_done_value P s ls (stored op opat (read_arg ts s a i) v) _ (λ r. p))))
      kept (If' e q a r b) h s ls p =
          on_done_value P s ls (value_of ts consts e s ls) _ (λ x. on_done_cond P (is_zero x) _ _ (kept b h.1 s ls p) (kept a h.0 s ls p))
      kept (For' k first past q body) h s ls p =
          kept_turns (meaning ts consts body) k h.0 (λ s' ls' p'. kept body h.1 s' ls' p') first (past - first) s ls p

      pub kept_row : {m : _} → (all : Row_of-RStmt m) → RowStoresOnly may all → (s : Store) (ls : List ℤ) → P ls → OnDone P (meaning_of_all ts consts all s ls)
      kept_row end_of-RStmt h s ls p = p
      kept_row (more_of-RStmt first rest) h s ls p =
          on_done_then P P (meaning ts consts first s ls) (meaning_of_all ts consts rest) (kept first h.0 s ls p) (λ s' ls' q. kept_row rest h.1 s' ls' q)
