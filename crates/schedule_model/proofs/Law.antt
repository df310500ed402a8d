-- The laws of a plan in the form that the run uses: each element by its fault and its effects.
use Rattle.std.proofs.Common.{◌≡◌, ℕ, ℤ, suc, ◌<◌, true, false, ◌⊎◌, inl, inr, refl, sym, ap, subst, ◌∙◌, arith, ⊎_elim, Option, Some, None, FitsSigned, w32}
use Rattle.std.specs.Prelude.{◌&&◌}
use Rattle.std.proofs.lemmas.Bool.{cases_eq, cases_Bool, false≢true, false_from_ne_true, cond_both, ltb-true}
use Rattle.op_num.specs.Reduction.{Reduction, unit_of}
use Rattle.schedule_model.specs.Cells.{Cell, Data, Variable, DatCell, VarCell, Store, InRange}
use Rattle.schedule_model.specs.Effects.{Untouched, Merged, is_read, is_modified, with_units, fault_of, effect_of, outcome}
use Rattle.schedule_model.specs.Program.{Free, is_free, elements}
use Rattle.schedule_model.specs.Setup.{Setup, in_set, owner_of, stale}
use Rattle.schedule_model.specs.Machine.{unit_at, merge_at}
use Rattle.schedule_model.specs.Laws.{Lawful, Reaches}
use Rattle.schedule_model.proofs.Fold.{Commute}
use Rattle.schedule_model.proofs.History.{by_bit}
use Rattle.schedule_model.proofs.Runs.{Reductions, gives, effect_keeps, effect_idle, merge_through, merges_commute}
use Rattle.schedule_model.specs.Tests.{free_kind, not_free}

-- the fault of an element of item k, where w is the store before the item
pub fault : {F : Type 0} → Setup F → ℕ → ℕ → Store → Option F
fault p k e w = fault_of (p.program.run k e (with_units (p.touch k e) w))

-- what it makes of the value v of the cell c
pub effect : {F : Type 0} → Setup F → ℕ → ℕ → Store → Cell → ℤ → ℤ
effect p k e w c v = effect_of (p.program.run k e) (p.touch k e) w c v

pub record Law {F : Type 0} (p : Setup F) : Type 0 where
  pub lawful : Lawful p
  pub reductions : Reductions

module _ {F : Type 0} (p : Setup F) (q : Law p) where
  pub runs : (k e : ℕ) (w s : Store) → p.program.kind k ≡ Free → e < elements p.program k → InRange w → InRange s
      → ((c : Cell) → is_read (p.touch k e c) ≡ true → s c ≡ w c)
      → p.program.run k e s ≡ outcome (fault p k e w) (λ c. effect p k e w c (s c))
  unfolding fault effect
  runs k e w s fr lt gw gs agree = gives q.reductions (p.program.run k e) (p.touch k e) (q.lawful.kernels.independent k e fr lt) w s gw gs agree

  pub keeps : (k e : ℕ) (w : Store) (c : Cell) (v : ℤ) → is_modified (p.touch k e c) ≡ false → effect p k e w c v ≡ v
  unfolding effect
  keeps k e w c v h = effect_keeps (p.program.run k e) (p.touch k e) w c v h

  pub idle : (k e : ℕ) (w : Store) (c : Cell) (v : ℤ) (f : F) → fault p k e w ≡ Some f → effect p k e w c v ≡ v
  unfolding fault effect
  idle k e w c v f h = effect_idle (p.program.run k e) (p.touch k e) w c v f h

  -- what one element modifies another may only merge into
  shared : (k a b : ℕ) (c : Cell) → p.program.kind k ≡ Free → a < elements p.program k → b < elements p.program k → (a ≡ b → ⊥) → is_modified (p.touch k a c) ≡ true
      → (is_read (p.touch k b c) ≡ false) × ((is_modified (p.touch k b c) ≡ false) ⊎ ((o : Reduction) × (p.touch k a c ≡ Merged o) × (p.touch k b c ≡ Merged o)))
  shared k a b (Data c) fr la lb ne h = ⊎_elim
      (λ (u : p.touch k b (Data c) ≡ Untouched). (ap is_read u, inl (ap is_modified u)))
      (λ (r : (o : Reduction) × (p.touch k a (Data c) ≡ Merged o) × (p.touch k b (Data c) ≡ Merged o)). (ap is_read r.2, inr r))
      (q.lawful.shares k a b c fr la lb ne h)
  shared k a b (Variable v) fr la lb ne h = by_op (p.reduces (p.program.site k) v) (q.lawful.reaches k a v fr la) (q.lawful.reaches k b v fr lb)
    where
      by_op : (o : Option Reduction) → Reaches o (p.touch k a (Variable v)) → Reaches o (p.touch k b (Variable v))
          → (is_read (p.touch k b (Variable v)) ≡ false) ×
          ((is_modified (p.touch k b (Variable v)) ≡ false) ⊎
          ((o : Reduction) × (p.touch k a (Variable v) ≡ Merged o) × (p.touch k b (Variable v) ≡ Merged o)))
      by_op None x y = absurd (false≢true (sym x ∙ h))
      by_op (Some o) x y = (ap is_read y, inr (o, x, y))

  pub apart : (k a b : ℕ) (c : Cell) → p.program.kind k ≡ Free → a < elements p.program k → b < elements p.program k → is_read (p.touch k a c) ≡ true → is_modified (p.touch k b c) ≡ true → b ≡ a
  apart k a b c fr la lb r m = ⊎_elim
      (λ (e : b ≡ a). e)
      (λ (ne : b ≡ a → ⊥). absurd (false≢true (sym (shared k b a c fr lb la ne m).0 ∙ r)))
      (cases_eq b a)

  pub commutes : (k : ℕ) (w : Store) (c : Cell) → p.program.kind k ≡ Free → Commute (elements p.program k) (λ e. effect p k e w c)
  unfolding effect
  commutes k w c fr a b x la lb ne = ⊎_elim
      (λ (m : is_modified (p.touch k a c) ≡ true). ⊎_elim
      (λ (u : is_modified (p.touch k b c) ≡ false).
      ap (effect_of (p.program.run k a) (p.touch k a) w c) (effect_keeps (p.program.run k b) (p.touch k b) w c x u)
      ∙ sym (effect_keeps (p.program.run k b) (p.touch k b) w c (effect_of (p.program.run k a) (p.touch k a) w c x) u))
      (λ (r : (o : Reduction) × (p.touch k a c ≡ Merged o) × (p.touch k b c ≡ Merged o)).
      merges_commute q.reductions (p.program.run k a) (p.touch k a) (p.program.run k b) (p.touch k b) w c r.0 x r.1 r.2)
      (shared k a b c fr la lb ne m).1)
      (λ (u : is_modified (p.touch k a c) ≡ false).
      effect_keeps (p.program.run k a) (p.touch k a) w c (effect_of (p.program.run k b) (p.touch k b) w c x) u
      ∙ ap (effect_of (p.program.run k b) (p.touch k b) w c) (sym (effect_keeps (p.program.run k a) (p.touch k a) w c x u)))
      (cases_Bool (is_modified (p.touch k a c)))

  -- ---- reductions into variables
  pub good_unit : (o : Option Reduction) → FitsSigned w32 (unit_at o)
  good_unit None = record { sfits = omega arith }
  good_unit (Some o) = (q.reductions o).unit_fits

  pub good_merge : (o : Option Reduction) (v x : ℤ) → FitsSigned w32 v → FitsSigned w32 x → FitsSigned w32 (merge_at o v x)
  good_merge None v x g h = g
  good_merge (Some o) v x g h = (q.reductions o).fits v x g h

  pub merge_unit : (o : Option Reduction) (v : ℤ) → FitsSigned w32 v → merge_at o v (unit_at o) ≡ v
  merge_unit None v g = refl
  merge_unit (Some o) v g = (q.reductions o).commutes v (unit_of o) ∙ (q.reductions o).keeps v g

  pub unreduced : (k e : ℕ) (v : VarCell) → p.program.kind k ≡ Free → e < elements p.program k → p.reduces (p.program.site k) v ≡ None → is_modified (p.touch k e (Variable v)) ≡ false
  unreduced k e v fr lt h = subst (λ o. Reaches o (p.touch k e (Variable v))) h (q.lawful.reaches k e v fr lt)

  pub merge_amount : (k e : ℕ) (w : Store) (v : VarCell) (y x : ℤ) → p.program.kind k ≡ Free → e < elements p.program k
      → merge_at (p.reduces (p.program.site k) v) y (effect p k e w (Variable v) x) ≡ effect p k e w (Variable v)
      (merge_at (p.reduces (p.program.site k) v) y x)
  unfolding effect
  merge_amount k e w v y x fr lt = by_op (p.reduces (p.program.site k) v) (q.lawful.reaches k e v fr lt)
    where
      by_op : (o : Option Reduction) → Reaches o (p.touch k e (Variable v)) → merge_at o y (effect p k e w (Variable v) x) ≡ effect p k e w (Variable v) (merge_at o y x)
      by_op None h = sym (effect_keeps (p.program.run k e) (p.touch k e) w (Variable v) y h)
      by_op (Some o) h = merge_through q.reductions (p.program.run k e) (p.touch k e) w (Variable v) o y x h

  -- ---- items, exchanges, owners
  pub exchanged_is : (k d : ℕ) → p.exchanged k d ≡ (p.needs k d && stale p k d)
  exchanged_is k d = by_bit (λ i. p.modifies i d) (λ i. p.needs i d) (λ i. p.exchanged i d) (q.lawful.items.exchanges d) k

  pub no_needs : (k d : ℕ) → is_free (p.program.kind k) ≡ false → p.needs k d ≡ false
  no_needs k d h = false_from_ne_true (p.needs k d) (λ n. not_free (p.program.kind k) h (q.lawful.items.needs_free k d n))

  pub last : (n : ℕ) → p.program.items ≡ suc n → is_free (p.program.kind n) ≡ false
  last n e = false_from_ne_true (is_free (p.program.kind n)) (λ t. q.lawful.items.last_item n e (free_kind (p.program.kind n) t))

  pub owner_below : (c : DatCell) → owner_of p c < p.ranks
  owner_below c = cond_both (in_set p c) (p.owner (p.program.set_of c.dat) c.element) 0 (λ x. x < p.ranks)
      (λ t. q.lawful.items.owners (p.program.set_of c.dat) c.element (ltb-true c.element (p.program.size (p.program.set_of c.dat)) t))
      (λ t. q.lawful.items.some_rank)
