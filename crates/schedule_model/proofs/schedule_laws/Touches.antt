-- What the touch of a cell says of the arguments that reach it.
use Rattle.std.proofs.Common.{◌≡◌, ℕ, zero, suc, ◌<◌, Bool, true, false, cond, ◌⊎◌, inl, inr, refl, sym, ap, subst, ◌∙◌, arith, ⊎_elim}
use Rattle.std.specs.Prelude.{◌&&◌, ◌==◌, nat_lt}
use Rattle.std.proofs.lemmas.Bool.{cases_eq, cases_Bool, false≢true, and_parts, and_from, cond-true, cond-false, eqb-true, eq-eqb, lt-ltb}
use Rattle.op_num.specs.Reduction.{Reduction, Add, Min, Max}
use Rattle.schedule_model.specs.Cells.{Cell, Data, Variable, DatCell, VarCell}
use Rattle.schedule_model.specs.Effects.{Touch, Untouched, Read, Updated, Written, Merged, Mixed, is_read, is_modified}
use Rattle.op_num.specs.Access.{Access, OpRead, OpWrite, OpRw, OpReduce}
use Rattle.schedule_model.specs.Arguments.{Argument, Direct, Indirect, Global, access_of, modifying, reading, is_direct, is_on, Entries, target, reaches, same_reduction, joined, touch_by}

same_refl : (o : Reduction) → same_reduction o o ≡ true
same_refl Add = refl
same_refl Min = refl
same_refl Max = refl

read_joined : (k : Touch) (x : Access) → is_read (joined k x) ≡ true → (is_read k ≡ true) ⊎ (reading x ≡ true)
read_joined k OpRead h = inr refl
read_joined k OpRw h = inr refl
read_joined Untouched OpWrite h = absurd (false≢true h)
read_joined Read OpWrite h = inl refl
read_joined Updated OpWrite h = inl refl
read_joined Written OpWrite h = absurd (false≢true h)
read_joined (Merged o) OpWrite h = absurd (false≢true h)
read_joined Mixed OpWrite h = absurd (false≢true h)
read_joined Untouched (OpReduce o) h = absurd (false≢true h)
read_joined Read (OpReduce o) h = inl refl
read_joined Updated (OpReduce o) h = inl refl
read_joined Written (OpReduce o) h = absurd (false≢true h)
read_joined (Merged n) (OpReduce o) h = absurd (unread (same_reduction n o) h)
  where
    unread : (b : Bool) → is_read (cond b (Merged n) Mixed) ≡ true → ⊥
    unread true h = false≢true h
    unread false h = false≢true h
read_joined Mixed (OpReduce o) h = absurd (false≢true h)

modified_joined : (k : Touch) (x : Access) → is_modified (joined k x) ≡ true → (is_modified k ≡ true) ⊎ (modifying x ≡ true)
modified_joined Untouched OpRead h = absurd (false≢true h)
modified_joined Read OpRead h = absurd (false≢true h)
modified_joined Updated OpRead h = inl refl
modified_joined Written OpRead h = inl refl
modified_joined (Merged o) OpRead h = inl refl
modified_joined Mixed OpRead h = inl refl
modified_joined k OpRw h = inr refl
modified_joined k OpWrite h = inr refl
modified_joined k (OpReduce o) h = inr refl

module _ (entry : Entries) (dim width : ℕ → ℕ) (arg : ℕ → Argument) (e : ℕ) (c : Cell) where
  abbrev C : ℕ → Touch
  C n = touch_by entry dim width arg n e c

  abbrev reach : ℕ → Bool
  reach n = reaches entry dim width e (arg n) c

  touch_more : (n : ℕ) → reach n ≡ true → C (suc n) ≡ joined (C n) (access_of (arg n))
  touch_more n h = cond-true (reach n) (joined (C n) (access_of (arg n))) (C n) h

  touch_same : (n : ℕ) → reach n ≡ false → C (suc n) ≡ C n
  touch_same n h = cond-false (reach n) (joined (C n) (access_of (arg n))) (C n) h

  pub read_by : (n : ℕ) → is_read (C n) ≡ true → (a : ℕ) × (a < n) × (reach a ≡ true) × (reading (access_of (arg a)) ≡ true)
  read_by zero h = absurd (false≢true h)
  read_by (suc n) h = ⊎_elim
      (λ (t : reach n ≡ true). ⊎_elim
      (λ u. let r : (a : ℕ) × (a < n) × (reach a ≡ true) × (reading (access_of (arg a)) ≡ true) = read_by n u in (r.0, (let l : r.0 < n = r.1 in omega arith), r.2, r.3))
      (λ u. (n, omega arith, t, u))
      (read_joined (C n) (access_of (arg n)) (ap is_read (sym (touch_more n t)) ∙ h)))
      (λ (t : reach n ≡ false). let r : (a : ℕ) × (a < n) × (reach a ≡ true) × (reading (access_of (arg a)) ≡ true) =
      read_by n (ap is_read (sym (touch_same n t)) ∙ h) in (r.0, (let l : r.0 < n = r.1 in omega arith), r.2, r.3))
      (cases_Bool (reach n))

  pub modified_by : (n : ℕ) → is_modified (C n) ≡ true → (a : ℕ) × (a < n) × (reach a ≡ true) × (modifying (access_of (arg a)) ≡ true)
  modified_by zero h = absurd (false≢true h)
  modified_by (suc n) h = ⊎_elim
      (λ (t : reach n ≡ true). ⊎_elim
      (λ u. let r : (a : ℕ) × (a < n) × (reach a ≡ true) × (modifying (access_of (arg a)) ≡ true) = modified_by n u in (r.0, (let l : r.0 < n = r.1 in omega arith), r.2, r.3))
      (λ u. (n, omega arith, t, u))
      (modified_joined (C n) (access_of (arg n)) (ap is_modified (sym (touch_more n t)) ∙ h)))
      (λ (t : reach n ≡ false). let r : (a : ℕ) × (a < n) × (reach a ≡ true) × (modifying (access_of (arg a)) ≡ true) =
      modified_by n (ap is_modified (sym (touch_same n t)) ∙ h) in (r.0, (let l : r.0 < n = r.1 in omega arith), r.2, r.3))
      (cases_Bool (reach n))

  -- no argument reaches the cell
  pub none_reach : (n : ℕ) → ((a : ℕ) → a < n → reach a ≡ false) → C n ≡ Untouched
  none_reach zero h = refl
  none_reach (suc n) h = touch_same n (h n (omega arith)) ∙ none_reach n (λ a lt. h a (omega arith))

  -- arguments of one reduction alone reach it
  merged_more : (o : Reduction) (k : Touch) → (k ≡ Untouched) ⊎ (k ≡ Merged o) → joined k (OpReduce o) ≡ Merged o
  merged_more o k h = ⊎_elim
      (λ (i : k ≡ Untouched). ap (λ z. joined z (OpReduce o)) i)
      (λ (i : k ≡ Merged o). ap (λ z. joined z (OpReduce o)) i ∙ cond-true (same_reduction o o) (Merged o) Mixed (same_refl o))
      h

  pub one_reduction : (n : ℕ) (o : Reduction) → ((a : ℕ) → a < n → reach a ≡ true → access_of (arg a) ≡ OpReduce o) → (C n ≡ Untouched) ⊎ (C n ≡ Merged o)
  one_reduction zero o h = inl refl
  one_reduction (suc n) o h = ⊎_elim
      (λ (t : reach n ≡ true). inr (touch_more n t ∙ (ap (joined (C n)) (h n (omega arith) t) ∙ merged_more o (C n) (one_reduction n o (λ a lt u. h a (omega arith) u)))))
      (λ (t : reach n ≡ false). subst (λ z. (z ≡ Untouched) ⊎ (z ≡ Merged o)) (sym (touch_same n t)) (one_reduction n o (λ a lt u. h a (omega arith) u)))
      (cases_Bool (reach n))

  -- one argument alone reaches it, for a reduction
  pub one_argument : (n a : ℕ) (o : Reduction) → a < n → reach a ≡ true → access_of (arg a) ≡ OpReduce o → ((b : ℕ) → b < n → reach b ≡ true → b ≡ a) → C n ≡ Merged o
  one_argument zero a o lt t x only = absurd (omega arith)
  one_argument (suc n) a o lt t x only = ⊎_elim
      (λ (i : a ≡ n).
      touch_more n (ap reach (sym i) ∙ t)
      ∙ (ap (λ z. joined z (access_of (arg n))) (none_reach n (λ b lb. ⊎_elim (λ u. absurd (let j : b ≡ a = only b (omega arith) u in omega arith)) (λ u. u) (cases_Bool (reach b))))
      ∙ ap (joined Untouched) (ap (λ z. access_of (arg z)) (sym i) ∙ x)))
      (λ (ne : a ≡ n → ⊥).
      touch_same n (⊎_elim (λ u. absurd (ne (sym (only n (omega arith) u)))) (λ u. u) (cases_Bool (reach n)))
      ∙ one_argument n a o (omega arith) t x (λ b lb u. only b (omega arith) u))
      (cases_eq a n)

-- an argument that reaches a cell of a dat is on the dat, and the cell is its target's
pub reaches_on : (entry : Entries) (dim width : ℕ → ℕ) (e : ℕ) (x : Argument) (c : DatCell) → reaches entry dim width e x (Data c) ≡ true → (is_on c.dat x ≡ true) × (target entry e x ≡ c.element)
reaches_on entry dim width e (Direct d x) c h =
    let a : ((d == c.dat) ≡ true) × (((e == c.element) && nat_lt c.component (dim d)) ≡ true) = and_parts (d == c.dat) ((e == c.element) && nat_lt c.component (dim d)) h in
    (a.0, eqb-true e c.element (and_parts (e == c.element) (nat_lt c.component (dim d)) a.1).0)
reaches_on entry dim width e (Indirect d m i x) c h =
    let a : ((d == c.dat) ≡ true) × (((entry m e i == c.element) && nat_lt c.component (dim d)) ≡ true) = and_parts (d == c.dat) ((entry m e i == c.element) && nat_lt c.component (dim d)) h in
    (a.0, eqb-true (entry m e i) c.element (and_parts (entry m e i == c.element) (nat_lt c.component (dim d)) a.1).0)
reaches_on entry dim width e (Global v x) c h = absurd (false≢true h)

-- an argument that reaches a variable names it
pub reaches_named : (entry : Entries) (dim width : ℕ → ℕ) (e : ℕ) (x : Argument) (v : VarCell) → reaches entry dim width e x (Variable v) ≡ true → (y : Access) × (x ≡ Global v.variable y)
reaches_named entry dim width e (Direct d x) v h = absurd (false≢true h)
reaches_named entry dim width e (Indirect d m i x) v h = absurd (false≢true h)
reaches_named entry dim width e (Global u x) v h = (x, ap (λ z. Global z x) (eqb-true u v.variable (and_parts (u == v.variable) (nat_lt v.component (width u)) h).0))

pub named_reaches : (entry : Entries) (dim width : ℕ → ℕ) (e : ℕ) (x : Argument) (v : VarCell) (y : Access) → x ≡ Global v.variable y
    → v.component < width v.variable → reaches entry dim width e x (Variable v) ≡ true
named_reaches entry dim width e x v y i lt = subst (λ z. reaches entry dim width e z (Variable v) ≡ true) (sym i)
    (and_from (v.variable == v.variable) (nat_lt v.component (width v.variable)) (eq-eqb v.variable v.variable refl) (lt-ltb v.component (width v.variable) lt))

-- ---- a cell that a modifying argument reaches
joined_modifies : (k : Touch) (x : Access) → modifying x ≡ true → is_modified (joined k x) ≡ true
joined_modifies k OpRead h = absurd (false≢true h)
joined_modifies k OpRw h = refl
joined_modifies Untouched OpWrite h = refl
joined_modifies Read OpWrite h = refl
joined_modifies Updated OpWrite h = refl
joined_modifies Written OpWrite h = refl
joined_modifies (Merged o) OpWrite h = refl
joined_modifies Mixed OpWrite h = refl
joined_modifies Untouched (OpReduce o) h = refl
joined_modifies Read (OpReduce o) h = refl
joined_modifies Updated (OpReduce o) h = refl
joined_modifies Written (OpReduce o) h = refl
joined_modifies (Merged n) (OpReduce o) h = either (same_reduction n o)
  where
    either : (b : Bool) → is_modified (cond b (Merged n) Mixed) ≡ true
    either true = refl
    either false = refl
joined_modifies Mixed (OpReduce o) h = refl

joined_keeps : (k : Touch) (x : Access) → is_modified k ≡ true → is_modified (joined k x) ≡ true
joined_keeps Untouched OpRead h = absurd (false≢true h)
joined_keeps Read OpRead h = absurd (false≢true h)
joined_keeps Updated OpRead h = refl
joined_keeps Written OpRead h = refl
joined_keeps (Merged o) OpRead h = refl
joined_keeps Mixed OpRead h = refl
joined_keeps k OpWrite h = joined_modifies k OpWrite refl
joined_keeps k OpRw h = refl
joined_keeps k (OpReduce o) h = joined_modifies k (OpReduce o) refl

pub modified_if : (entry : Entries) (dim width : ℕ → ℕ) (arg : ℕ → Argument) (e : ℕ) (c : Cell) (n a : ℕ) → a < n
    → reaches entry dim width e (arg a) c ≡ true → modifying (access_of (arg a)) ≡ true
    → is_modified (touch_by entry dim width arg n e c) ≡ true
modified_if entry dim width arg e c zero a lt r m = absurd (omega arith)
modified_if entry dim width arg e c (suc n) a lt r m = ⊎_elim
    (λ (i : a ≡ n).
    ap is_modified (cond-true (reaches entry dim width e (arg n) c) (joined (touch_by entry dim width arg n e c) (access_of (arg n)))
    (touch_by entry dim width arg n e c) (ap (λ z. reaches entry dim width e (arg z) c) (sym i) ∙ r))
    ∙ joined_modifies (touch_by entry dim width arg n e c) (access_of (arg n)) (ap (λ z. modifying (access_of (arg z))) (sym i) ∙ m))
    (λ (ne : a ≡ n → ⊥).
    let before : is_modified (touch_by entry dim width arg n e c) ≡ true = modified_if entry dim width arg e c n a (omega arith) r m in
    ⊎_elim
    (λ (t : reaches entry dim width e (arg n) c ≡ true). ap is_modified
    (cond-true (reaches entry dim width e (arg n) c) (joined (touch_by entry dim width arg n e c) (access_of (arg n)))
    (touch_by entry dim width arg n e c) t) ∙ joined_keeps (touch_by entry dim width arg n e c) (access_of (arg n)) before)
    (λ (t : reaches entry dim width e (arg n) c ≡ false). ap is_modified
    (cond-false (reaches entry dim width e (arg n) c) (joined (touch_by entry dim width arg n e c) (access_of (arg n)))
    (touch_by entry dim width arg n e c) t) ∙ before)
    (cases_Bool (reaches entry dim width e (arg n) c)))
    (cases_eq a n)

-- direct arguments on one dat reach the same cells
pub direct_reaches : (entry : Entries) (dim width : ℕ → ℕ) (e : ℕ) (x y : Argument) (c : DatCell)
    → reaches entry dim width e x (Data c) ≡ true → is_direct x ≡ true → is_on c.dat y ≡ true → is_direct y ≡ true
    → reaches entry dim width e y (Data c) ≡ true
direct_reaches entry dim width e (Direct d x) (Direct f y) c h i on j =
    let a : ((d == c.dat) ≡ true) × (((e == c.element) && nat_lt c.component (dim d)) ≡ true) = and_parts (d == c.dat) ((e == c.element) && nat_lt c.component (dim d)) h in
    and_from (f == c.dat) ((e == c.element) && nat_lt c.component (dim f)) on
    (subst (λ z. ((e == c.element) && nat_lt c.component (dim z)) ≡ true) (eqb-true d c.dat a.0 ∙ sym (eqb-true f c.dat on)) a.1)
direct_reaches entry dim width e (Direct d x) (Indirect f m k y) c h i on j = absurd (false≢true j)
direct_reaches entry dim width e (Direct d x) (Global v y) c h i on j = absurd (false≢true j)
direct_reaches entry dim width e (Indirect d m k x) y c h i on j = absurd (false≢true i)
direct_reaches entry dim width e (Global v x) y c h i on j = absurd (false≢true i)
