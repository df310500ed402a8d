-- Cells that no argument reaches stay.
use Rattle.std.proofs.Common.{◌≡◌, ℕ, zero, suc, ℤ, pos, negsuc, ◌+◌, ◌-◌, ◌<◌, List, [], length, set, Result, Ok, Err, Bool, true, false, cond, ◌&&◌, refl, sym, ◌∙◌, subst, replicate}
use Rattle.std.specs.Prelude.{nat_lt, nat_eq, slice_index_or}
use Rattle.std.proofs.lemmas.Bool.{ltb-true, eqb-true}
use Rattle.op_num.specs.declared.refusals.Fault.TheVariants.{Index}
use Rattle.c_tree.specs.declared.lexer.tokens.Pos.{Pos}
use Rattle.kernel_model.specs.declared.types.faults.KernelFault.{KernelFault}
use Rattle.kernel_model.specs.declared.types.statements.RStmt.{RStmt, Block', Declare, SetScalar, SetLocal, SetArg, If', For', Row_of-RStmt, end_of-RStmt, more_of-RStmt}
use Rattle.kernel_model.specs.Numbers.{fault, is_zero}
use Rattle.kernel_model.specs.Meaning.{Store, cell, Target, target_at, index_in, value_of, Outcome, Done, Faulted, then_do, with_value, stored, turns, meaning, meaning_of_all, read_arg, store_arg, without_locals}
use Rattle.kernel_model.specs.Independence.{Fits, OthersStay, ShapeStays, store_after}
use Rattle.kernel_model.proofs.Stores.{cell-with_cell, length-with_cell, length-array_with_cell}

abbrev pub OnEnd : (Store → Type 0) → Outcome → Type 0
OnEnd P (Done s ls) = P s
OnEnd P (Faulted s ls f) = P s

pub on_end_value : {A : Type 0} → (P : Store → Type 0) (s : Store) (ls : List ℤ) (r : Result A KernelFault) (go : A → Outcome) → P s → ((v : A) → OnEnd P (go v)) → OnEnd P (with_value s ls r go)
on_end_value P s ls (Err f) go p h = p
on_end_value P s ls (Ok v) go p h = h v

pub on_end_index : (P : Store → Type 0) (s : Store) (ls : List ℤ) (count : ℕ) (at : Pos) (z : ℤ) (go : ℕ → Outcome) → P s
    → ((i : ℕ) → i < count → OnEnd P (go i)) → OnEnd P (with_value s ls (index_in count at z) go)
on_end_index P s ls count at (negsuc i) go p h = p
on_end_index P s ls count at (pos i) go p h = pick (nat_lt i count) refl
  where
    pick : (b : Bool) → nat_lt i count ≡ b → OnEnd P (with_value s ls (cond b (Ok i) (Err (fault Index at))) go)
    pick true e = h i (ltb-true i count e)
    pick false e = p

pub on_end_then : (P : Store → Type 0) (o : Outcome) (go : Store → List ℤ → Outcome) → OnEnd P o → ((s : Store) (ls : List ℤ) → P s → OnEnd P (go s ls)) → OnEnd P (then_do o go)
on_end_then P (Done s ls) go p h = h s ls p
on_end_then P (Faulted s ls f) go p h = p

pub on_end_cond : (P : Store → Type 0) (b : Bool) (o p : Outcome) → OnEnd P o → OnEnd P p → OnEnd P (cond b o p)
on_end_cond P true o p x y = x
on_end_cond P false o p x y = y

module _ (ts : List Target) (consts : List ℤ) (P : Store → Type 0) (keep : (a i : ℕ) (v : ℤ) (s : Store) → i < (target_at ts a).count → P s → P (store_arg ts s a i v)) where
  end_turns : (body : Store → List ℤ → Outcome) (k : ℕ) → ((s : Store) (ls : List ℤ) → P s → OnEnd P (body s ls)) → (i n : ℕ) (s : Store) (ls : List ℤ) → P s → OnEnd P (turns body k i n s ls)
  end_turns body k hb i zero s ls p = p
  end_turns body k hb i (suc n) s ls p =
      on_end_then P (body s (set ls k (pos i))) (turns body k (suc i) n) (hb s (set ls k (pos i)) p) (λ s' ls' q. end_turns body k hb (suc i) n s' ls' q)

  mutual
    pub kept_store : (st : RStmt) (s : Store) (ls : List ℤ) → P s → OnEnd P (meaning ts consts st s ls)
    kept_store (Block' shape all) s ls p = kept_store_row all s ls p
    kept_store (Declare from count) s ls p = p
    kept_store (SetScalar k op opat e) s ls p =
        on_end_value P s ls (value_of ts consts e s ls) _ p (λ v. on_end_value P s ls (stored op opat (slice_index_or ls k (pos 0)) v) _ p (λ r. p))
    kept_store (SetLocal from count form ix at op opat e) s ls p =
        on_end_value P s ls (value_of ts consts ix s ls) _ p
        (λ z. on_end_index P s ls count at z _ p
        (λ i lt. on_end_value P s ls (value_of ts consts e s ls) _ p
        (λ v. on_end_value P s ls (stored op opat (slice_index_or ls (from + i) (pos 0)) v) _ p (λ r. p))))
    kept_store (SetArg a form ix at op opat e) s ls p =
        on_end_value P s ls (value_of ts consts ix s ls) _ p
        (λ z. on_end_index P s ls (target_at ts a).count at z _ p
        (λ i lt. on_end_value P s ls (value_of ts consts e s ls) _ p
        (λ v. on_end_value P s ls (stored op opat (read_arg ts s a i) v) _ p (λ r. keep a i r s lt p))))
    kept_store (If' e q a r b) s ls p =
        on_end_value P s ls (value_of ts consts e s ls) _ p (λ x. on_end_cond P (is_zero x) _ _ (kept_store b s ls p) (kept_store a s ls p))
    kept_store (For' k first past q body) s ls p =
        end_turns (meaning ts consts body) k (λ s' ls' p'. kept_store body s' ls' p') first (past - first) s ls p

    kept_store_row : {m : _} → (all : Row_of-RStmt m) (s : Store) (ls : List ℤ) → P s → OnEnd P (meaning_of_all ts consts all s ls)
    kept_store_row end_of-RStmt s ls p = p
    kept_store_row (more_of-RStmt first rest) s ls p =
        on_end_then P (meaning ts consts first s ls) (meaning_of_all ts consts rest) (kept_store first s ls p) (λ s' ls' q. kept_store_row rest s' ls' q)

-- a store of the same shape
pub record SameShape (s t : Store) : Type 0 where
  pub long : length t ≡ length s
  pub wide : (y : ℕ) → length (slice_index_or t y []) ≡ length (slice_index_or s y [])

pub shape_kept : (ts : List Target) (s t : Store) (a i : ℕ) (v : ℤ) → Fits ts s → i < (target_at ts a).count → SameShape s t → SameShape s (store_arg ts t a i v)
shape_kept ts s t a i v fits lt h =
    let y = (target_at ts a).array in
    let n = (target_at ts a).from + i in
    let la : y < length t = subst (λ m. y < m) (sym h.long) (fits.arrays a i lt) in
    record {
      long = length-with_cell t y n v ∙ h.long;
      wide = λ z. length-array_with_cell t y n z v la ∙ h.wide z;
    }

pub shape_stays : ShapeStays
shape_stays k ts consts s fits =
    done (meaning ts consts k.body.statement s (replicate k.scratch (pos 0)))
    (kept_store ts consts (SameShape s) (λ a i v t lt h. shape_kept ts s t a i v fits lt h) k.body.statement s (replicate k.scratch (pos 0)) (record { long = refl; wide = λ y. refl }))
  where
    done : (o : Outcome) → OnEnd (SameShape s) o → (length (store_after (without_locals o)) ≡ length s)
        × ((x : ℕ) → length (slice_index_or (store_after (without_locals o)) x []) ≡ length (slice_index_or s x []))
    done (Done t ls) h = (h.long, h.wide)
    done (Faulted t ls f) h = (h.long, h.wide)

-- a store of the same shape, with the same number in one cell
pub record SameCell (s : Store) (x j : ℕ) (t : Store) : Type 0 where
  pub here : cell t x j ≡ cell s x j
  pub shape : SameShape s t

-- storing into another cell keeps it
pub cell_kept : (ts : List Target) (s t : Store) (x j a i : ℕ) (v : ℤ) → Fits ts s → i < (target_at ts a).count
    → ((target_at ts a).array ≡ x → (target_at ts a).from + i ≡ j → ⊥) → SameCell s x j t → SameCell s x j (store_arg ts t a i v)
cell_kept ts s t x j a i v fits lt other h =
    let y = (target_at ts a).array in
    let n = (target_at ts a).from + i in
    let la : y < length t = subst (λ m. y < m) (sym h.shape.long) (fits.arrays a i lt) in
    let lc : n < length (slice_index_or t y []) = subst (λ m. n < m) (sym (h.shape.wide y)) (fits.cells a i lt) in
    record {
      here = cell-with_cell t y n x j v la lc ∙ pick (nat_eq y x) (nat_eq n j) refl refl ∙ h.here;
      shape = shape_kept ts s t a i v fits lt h.shape;
    }
  where
    pick : (b c : Bool) → nat_eq (target_at ts a).array x ≡ b → nat_eq ((target_at ts a).from + i) j ≡ c → cond (b && c) v (cell t x j) ≡ cell t x j
    pick true true e f = absurd (other (eqb-true (target_at ts a).array x e) (eqb-true ((target_at ts a).from + i) j f))
    pick true false e f = refl
    pick false c e f = refl

pub cell_after : (s : Store) (x j : ℕ) (o : Outcome) → OnEnd (SameCell s x j) o → cell (store_after (without_locals o)) x j ≡ cell s x j
cell_after s x j (Done t ls) h = h.here
cell_after s x j (Faulted t ls f) h = h.here

pub same_at_first : (s : Store) (x j : ℕ) → SameCell s x j s
same_at_first s x j = record { here = refl; shape = record { long = refl; wide = λ y. refl } }

pub others_stay : OthersStay
others_stay k ts consts s x j fits reached =
    cell_after s x j (meaning ts consts k.body.statement s (replicate k.scratch (pos 0)))
    (kept_store ts consts (SameCell s x j) (λ a i v t lt h. cell_kept ts s t x j a i v fits lt (λ e f. reached (a, i, lt, e, f)) h)
    k.body.statement s (replicate k.scratch (pos 0)) (same_at_first s x j))
