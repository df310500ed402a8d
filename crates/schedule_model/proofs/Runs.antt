-- What runs on two stores say of the effects of one element.
use Rattle.std.proofs.Common.{◌≡◌, ℤ, true, false, refl, sym, ap, subst, ◌∙◌, Option, Some, None, FitsSigned, w32}
use Rattle.std.proofs.lemmas.Bool.{false≢true, false_from_ne_true, cond-true, cond-false, cond_both}
use Rattle.op_num.specs.Reduction.{Reduction, IsCommuting, unit_of, merged}
use Rattle.schedule_model.specs.Cells.{Cell, Store, InRange, same_cell, with_cell}
use Rattle.schedule_model.specs.Effects.{Ran, Faulted, Finished, Touch, Untouched, Read, Updated, Written, Merged, Mixed, is_read, is_modified, CellAlike, Alike, Independent, at_unit, with_units, fault_of, left_by, made_of, unless_faulty, effect_of, outcome, GivesEffects}
use Rattle.schedule_model.specs.Tests.{same_cell_refl, same_cell_true}

-- the laws of the three reductions
abbrev pub Reductions : Type 0
Reductions = (o : Reduction) → IsCommuting (unit_of o) (merged o)

with_cell_here : (c : Cell) (v : ℤ) (s : Store) → with_cell c v s c ≡ v
with_cell_here c v s = cond-true (same_cell c c) v (s c) (same_cell_refl c)

with_cell_other : (c : Cell) (v : ℤ) (s : Store) (x : Cell) → (x ≡ c → ⊥) → with_cell c v s x ≡ s x
with_cell_other c v s x ne = cond-false (same_cell x c) v (s x) (false_from_ne_true (same_cell x c) (λ h. ne (same_cell_true x c h)))

at_unit_read : (k : Touch) (v : ℤ) → is_read k ≡ true → v ≡ at_unit k v
at_unit_read Untouched v h = absurd (false≢true h)
at_unit_read Read v h = refl
at_unit_read Updated v h = refl
at_unit_read Written v h = absurd (false≢true h)
at_unit_read (Merged o) v h = absurd (false≢true h)
at_unit_read Mixed v h = absurd (false≢true h)

at_unit_fits : Reductions → (k : Touch) (v : ℤ) → FitsSigned w32 v → FitsSigned w32 (at_unit k v)
at_unit_fits laws Untouched v h = h
at_unit_fits laws Read v h = h
at_unit_fits laws Updated v h = h
at_unit_fits laws Written v h = h
at_unit_fits laws (Merged o) v h = (laws o).unit_fits
at_unit_fits laws Mixed v h = h

module _ (laws : Reductions) {F : Type 0} (run : Store → Ran F) (touch : Cell → Touch) (indep : Independent run touch) (w s : Store)
    (good_w : InRange w) (good_s : InRange s) (agree : (c : Cell) → is_read (touch c) ≡ true → s c ≡ w c) where
  base : Store
  base = with_units touch w

  good_base : InRange base
  unfolding base
  good_base c = at_unit_fits laws (touch c) (w c) (good_w c)

  agree_base : (c : Cell) → is_read (touch c) ≡ true → s c ≡ base c
  unfolding base
  agree_base c h = agree c h ∙ at_unit_read (touch c) (w c) h

  -- the amount that a reduction merges is the result from the unit
  amount : (o : Reduction) (a t u x : ℤ) → FitsSigned w32 a → t ≡ merged o a x → u ≡ merged o (unit_of o) x → t ≡ merged o a u
  amount o a t u x fits ht hu =
      ht
      ∙ (ap (λ z. merged o z x) (sym ((laws o).keeps a fits) ∙ (laws o).commutes (unit_of o) a)
      ∙ ((laws o).associates a (unit_of o) x ∙ ap (merged o a) (sym hu)))

  -- a cell into which several reductions merge goes by its old value
  mixed : (t : Store) (c : Cell) → run s ≡ Finished t → touch c ≡ Mixed → t c ≡ left_by (run (with_cell c (s c) base)) w c
  unfolding base
  mixed t c e k = at (run (with_cell c (s c) (with_units touch w))) refl
    where
      good : InRange (with_cell c (s c) (with_units touch w))
      good x = cond_both (same_cell x c) (s c) (with_units touch w x) (FitsSigned w32) (λ i. good_s c) (λ i. good_base x)

      agrees : (x : Cell) → is_read (touch x) ≡ true → s x ≡ with_cell c (s c) (with_units touch w) x
      agrees x h = agree_base x h ∙ sym (with_cell_other c (s c) (with_units touch w) x (λ i. false≢true (ap is_read (sym (ap touch i ∙ k)) ∙ h)))

      both : Alike touch s (with_cell c (s c) (with_units touch w)) (Finished t) (run (with_cell c (s c) (with_units touch w)))
      both = subst (λ z. Alike touch s (with_cell c (s c) (with_units touch w)) z (run (with_cell c (s c) (with_units touch w)))) e
          (indep s (with_cell c (s c) (with_units touch w)) good_s good agrees)

      at : (y : Ran F) → run (with_cell c (s c) (with_units touch w)) ≡ y → t c ≡ left_by (run (with_cell c (s c) (with_units touch w))) w c
      at (Faulted g) i = absurd (subst (Alike touch s (with_cell c (s c) (with_units touch w)) (Finished t)) i both)
      at (Finished u) i =
          let a : Alike {F = F} touch s (with_cell c (s c) (with_units touch w)) (Finished t) (Finished u) = subst (Alike touch s (with_cell c (s c) (with_units touch w)) (Finished t)) i both in
          let x : CellAlike Mixed (s c) (t c) (with_cell c (s c) (with_units touch w) c) (u c) = subst (λ z. CellAlike z (s c) (t c) (with_cell c (s c) (with_units touch w) c) (u c)) k (a c) in
          x (sym (with_cell_here c (s c) (with_units touch w))) ∙ ap (λ z. left_by z w c) (sym i)

  made : (t u : Store) (c : Cell) → run s ≡ Finished t → run (with_units touch w) ≡ Finished u → (k : Touch) → touch c ≡ k
      → CellAlike k (s c) (t c) (at_unit k (w c)) (u c) → t c ≡ made_of run touch w c k (s c)
  unfolding base
  made t u c e i Untouched k h = h.0
  made t u c e i Read k h = h.0
  made t u c e i Updated k h = h ∙ ap (λ z. left_by z w c) (sym i)
  made t u c e i Written k h = h ∙ ap (λ z. left_by z w c) (sym i)
  made t u c e i (Merged o) k h = amount o (s c) (t c) (u c) h.0 (good_s c) h.1 h.2 ∙ ap (λ z. merged o (s c) (left_by z w c)) (sym i)
  made t u c e i Mixed k h = mixed t c e k

  result : (x y : Ran F) → run s ≡ x → run (with_units touch w) ≡ y → Alike touch s (with_units touch w) x y → x ≡ outcome (fault_of (run (with_units touch w))) (λ c. effect_of run touch w c (s c))
  unfolding base
  result (Faulted f) (Faulted g) e i h = ap Faulted h ∙ ap (λ z. outcome (fault_of z) (λ c. effect_of run touch w c (s c))) (sym i)
  result (Faulted f) (Finished u) e i h = absurd h
  result (Finished t) (Faulted g) e i h = absurd h
  result (Finished t) (Finished u) e i h =
      ap Finished (λ j c. (let x : t c ≡ effect_of run touch w c (s c) = made t u c e i (touch c) refl (h c)
      ∙ ap (λ z. unless_faulty (fault_of z) (s c) (made_of run touch w c (touch c) (s c))) (sym i) in x) j)
      ∙ ap (λ z. outcome (fault_of z) (λ c. effect_of run touch w c (s c))) (sym i)

  gives_at : run s ≡ outcome (fault_of (run (with_units touch w))) (λ c. effect_of run touch w c (s c))
  unfolding base
  gives_at = result (run s) (run (with_units touch w)) refl refl (indep s (with_units touch w) good_s good_base agree_base)

pub gives : Reductions → {F : Type 0} (run : Store → Ran F) (touch : Cell → Touch) → Independent run touch → GivesEffects run touch
gives laws run touch indep w s good_w good_s agree = gives_at laws run touch indep w s good_w good_s agree

-- ---- what effects do

module _ {F : Type 0} (run : Store → Ran F) (touch : Cell → Touch) (w : Store) (c : Cell) where
  unless_same : (b : Option F) (v x : ℤ) → x ≡ v → unless_faulty b v x ≡ v
  unless_same None v x e = e
  unless_same (Some f) v x e = refl

  unmade : (k : Touch) (v : ℤ) → is_modified k ≡ false → made_of run touch w c k v ≡ v
  unmade Untouched v h = refl
  unmade Read v h = refl
  unmade Updated v h = absurd (false≢true (sym h))
  unmade Written v h = absurd (false≢true (sym h))
  unmade (Merged o) v h = absurd (false≢true (sym h))
  unmade Mixed v h = absurd (false≢true (sym h))

  -- a cell that isn't modified stays
  pub effect_keeps : (v : ℤ) → is_modified (touch c) ≡ false → effect_of run touch w c v ≡ v
  effect_keeps v h = unless_same (fault_of (run (with_units touch w))) v (made_of run touch w c (touch c) v) (unmade (touch c) v h)

  -- a faulty element changes nothing
  pub effect_idle : (v : ℤ) (f : F) → fault_of (run (with_units touch w)) ≡ Some f → effect_of run touch w c v ≡ v
  effect_idle v f h = ap (λ z. unless_faulty z v (made_of run touch w c (touch c) v)) h

  -- the amount that the element merges, if it has no fault
  pub amount_of : ℤ
  amount_of = left_by (run (with_units touch w)) w c

  pub effect_merges : (o : Reduction) (v : ℤ) → touch c ≡ Merged o → effect_of run touch w c v ≡ unless_faulty (fault_of (run (with_units touch w))) v (merged o v amount_of)
  unfolding amount_of
  effect_merges o v h = ap (λ k. unless_faulty (fault_of (run (with_units touch w))) v (made_of run touch w c k v)) h

module _ (laws : Reductions) where
  -- merging more first or later
  later : {F : Type 0} (b : Option F) (o : Reduction) (y x a : ℤ) → merged o y (unless_faulty b x (merged o x a)) ≡ unless_faulty b (merged o y x) (merged o (merged o y x) a)
  later None o y x a = sym ((laws o).associates y x a)
  later (Some f) o y x a = refl

  pub merge_through : {F : Type 0} (run : Store → Ran F) (touch : Cell → Touch) (w : Store) (c : Cell) (o : Reduction) (y x : ℤ)
      → touch c ≡ Merged o → merged o y (effect_of run touch w c x) ≡ effect_of run touch w c (merged o y x)
  merge_through run touch w c o y x h =
      ap (merged o y) (effect_merges run touch w c o x h)
      ∙ (later (fault_of (run (with_units touch w))) o y x (amount_of run touch w c)
      ∙ sym (effect_merges run touch w c o (merged o y x) h))

  swapped : (o : Reduction) (v a b : ℤ) → merged o (merged o v b) a ≡ merged o (merged o v a) b
  swapped o v a b = (laws o).associates v b a ∙ (ap (merged o v) ((laws o).commutes b a) ∙ sym ((laws o).associates v a b))

  either : {F G : Type 0} (f : Option F) (g : Option G) (o : Reduction) (v a b : ℤ)
      → unless_faulty f (unless_faulty g v (merged o v b)) (merged o (unless_faulty g v (merged o v b)) a) ≡ unless_faulty g
      (unless_faulty f v (merged o v a)) (merged o (unless_faulty f v (merged o v a)) b)
  either None None o v a b = swapped o v a b
  either None (Some g) o v a b = refl
  either (Some f) None o v a b = refl
  either (Some f) (Some g) o v a b = refl

  -- two elements that merge by one operation commute
  pub merges_commute : {F G : Type 0} (run : Store → Ran F) (touch : Cell → Touch) (ron : Store → Ran G) (klass : Cell → Touch) (w : Store)
      (c : Cell) (o : Reduction) (v : ℤ) → touch c ≡ Merged o → klass c ≡ Merged o
      → effect_of run touch w c (effect_of ron klass w c v) ≡ effect_of ron klass w c (effect_of run touch w c v)
  merges_commute run touch ron klass w c o v h i =
      effect_merges run touch w c o (effect_of ron klass w c v) h
      ∙ (ap (λ z. unless_faulty (fault_of (run (with_units touch w))) z (merged o z (amount_of run touch w c))) (effect_merges ron klass w c o v i)
      ∙ (either (fault_of (run (with_units touch w))) (fault_of (ron (with_units klass w))) o v (amount_of run touch w c) (amount_of ron klass w c)
      ∙ (ap (λ z. unless_faulty (fault_of (ron (with_units klass w))) z (merged o z (amount_of ron klass w c))) (sym (effect_merges run touch w c o v h))
      ∙ sym (effect_merges ron klass w c o (effect_of run touch w c v) i))))
