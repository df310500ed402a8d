-- What each step keeps, of a rank and the item at which it stands.
use Rattle.std.proofs.Common.{◌≡◌, ℕ, ℤ, zero, suc, ◌+◌, ◌<◌, ◌≤◌, ◌-◌, Bool, true, false, cond, ◌⊎◌, inl, inr, refl, sym, ap, subst, ◌∙◌, arith, ⊎_elim, Option, Some, None}
use Rattle.std.specs.Prelude.{◌&&◌, ◌==◌, not, nat_lt}
use Rattle.std.proofs.lemmas.Bool.{cases_eq, cases_Bool, false≢true, false_from_ne_true, or_parts, and_from, and_right, cond-true, cond-false, not_from_false, eqb-true, eq-eqb, ne_eqb, lt-ltb}
use Rattle.op_num.specs.Reduction.{Reduction}
use Rattle.schedule_steps.specs.declared.step.Step.{Step}
use Rattle.schedule_steps.specs.declared.step.Step.TheVariants.{Recv, Begin, End, Join}
use Rattle.schedule_steps.specs.Steps.{item, IsOf, IsStep}
use Rattle.schedule_model.specs.Cells.{Cell, Data, Variable, DatCell, VarCell}
use Rattle.schedule_model.specs.Effects.{is_modified}
use Rattle.schedule_model.specs.Program.{Kind, Free, Reduce, Ordered, Host, is_free, elements}
use Rattle.schedule_model.specs.Setup.{Setup, owner_of, has_copy, executes, stale, outline}
use Rattle.schedule_model.specs.Sequential.{seq}
use Rattle.schedule_model.specs.Machine.{Frame, Shut, Broken, Holds, State, unit_at}
use Rattle.schedule_model.proofs.Fold.{folded, folded_none, folded_same}
use Rattle.schedule_model.proofs.Law.{Law, fault, effect, keeps, unreduced, exchanged_is, owner_below}
use Rattle.schedule_model.proofs.Sequence.{output_of, is_going, store_at, FreeCase, was_over, goes_on, ends, free_case}
use Rattle.schedule_model.proofs.Marks.{Proper, Stands}
use Rattle.schedule_model.specs.Tests.{free_kind}

-- rank r's cell is up to date for item k
pub data Fresh {F : Type 0} (p : Setup F) (m : Step → Bool) (r k : ℕ) (c : DatCell) : Type 0 where
  own : owner_of p c ≡ r → Fresh p m r k c
  clean : has_copy p r c ≡ true → stale p k c.dat ≡ false → Fresh p m r k c
  came : has_copy p r c ≡ true → p.exchanged k c.dat ≡ true → m (Recv k r (owner_of p c)) ≡ true → Fresh p m r k c

-- the value before item k, changed by rank r's ended elements
abbrev pub value_at : {F : Type 0} → Setup F → (Step → Bool) → ℕ → ℕ → DatCell → ℤ
value_at p m r k c = folded (elements p.program k) (λ e. m (End k r e)) (λ e. effect p k e (store_at p k) (Data c)) (store_at p k (Data c))

-- a Reduce is about the item before it
abbrev pub is_reduce : Kind → Bool
is_reduce Reduce = true
is_reduce _ = false

pub reduce_kind : (x : Kind) → is_reduce x ≡ true → x ≡ Reduce
reduce_kind Reduce h = refl
reduce_kind Free h = absurd (false≢true h)
reduce_kind Ordered h = absurd (false≢true h)
reduce_kind Host h = absurd (false≢true h)

abbrev pub source : {F : Type 0} → Setup F → ℕ → ℕ
source p zero = zero
source p (suc k) = cond (is_reduce (p.program.kind (suc k))) k (suc k)

pub source_self : {F : Type 0} (p : Setup F) (k : ℕ) → is_reduce (p.program.kind k) ≡ false → source p k ≡ k
source_self p zero h = refl
source_self p (suc k) h = cond-false (is_reduce (p.program.kind (suc k))) k (suc k) h

pub source_free : {F : Type 0} (p : Setup F) (k : ℕ) → p.program.kind k ≡ Free → source p k ≡ k
source_free p k h = source_self p k (ap is_reduce h)

pub source_reduce : {F : Type 0} (p : Setup F) (k : ℕ) → p.program.kind (suc k) ≡ Reduce → source p (suc k) ≡ k
source_reduce p k h = cond-true (is_reduce (p.program.kind (suc k))) k (suc k) (ap is_reduce h)

-- the amounts of rank r's own ended elements of item j
abbrev pub part_at : {F : Type 0} → Setup F → (Step → Bool) → ℕ → VarCell → ℕ → ℤ
part_at p m r v j = folded (elements p.program j) (λ e. (p.owner (p.program.set j) e == r) && m (End j r e)) (λ e. effect p j e (store_at p j) (Variable v)) (unit_at (p.reduces (p.program.site j) v))

-- at item k the partials of its site may hold amounts
abbrev pub is_merging : Kind → Bool
is_merging Free = true
is_merging Reduce = true
is_merging Ordered = false
is_merging Host = false

abbrev pub part_value : {F : Type 0} → Setup F → (Step → Bool) → ℕ → ℕ → ℕ → VarCell → ℤ
part_value p m r k s v = cond (is_merging (p.program.kind k) && (s == p.program.site k)) (part_at p m r v (source p k)) (unit_at (p.reduces s v))

-- what an open frame holds
abbrev pub FrameIs : {F : Type 0} → Setup F → ℕ → ℕ → (DatCell → ℤ) → Option F → Frame → Type 0
FrameIs p k e mem None (Holds t) =
    ((c : DatCell) → is_modified (p.touch k e (Data c)) ≡ true → t (Data c) ≡ effect p k e (store_at p k) (Data c) (mem c))
    × ((v : VarCell) (o : Reduction) → p.reduces (p.program.site k) v ≡ Some o → t (Variable v) ≡ effect p k e (store_at p k) (Variable v) (unit_at (Some o)))
FrameIs p k e mem (Some f) Broken = Unit {0}
FrameIs p k e mem None Broken = ⊥
FrameIs p k e mem b Shut = ⊥
FrameIs p k e mem (Some f) (Holds t) = ⊥

pub record Says {F : Type 0} (p : Setup F) (m : Step → Bool) (st : State F) (r k : ℕ) : Type 0 where
  pub told : st.output ≡ output_of (seq p.program k)
  pub cells : is_going (seq p.program k) ≡ true → (c : DatCell) → Fresh p m r k c → st.memories r c ≡ value_at p m r k c
  pub variables : is_going (seq p.program k) ≡ true → (v : VarCell) → st.variables v ≡ store_at p (source p k) (Variable v)
  pub parts : is_going (seq p.program k) ≡ true → (s : ℕ) (v : VarCell) → st.partials r s v ≡ part_value p m r k s v
  pub frames : is_going (seq p.program k) ≡ true → (e : ℕ) → m (Begin k r e) ≡ true → m (End k r e) ≡ false → FrameIs p k e (st.memories r) (fault p k e (store_at p k)) (st.frames k r e)

pub frame_like : {F : Type 0} (p : Setup F) (k e : ℕ) (u v : DatCell → ℤ) (b : Option F) (f : Frame)
    → ((c : DatCell) → is_modified (p.touch k e (Data c)) ≡ true → v c ≡ u c) → FrameIs p k e u b f → FrameIs p k e v b f
frame_like p k e u v None (Holds t) same h = (λ c w. h.0 c w ∙ ap (effect p k e (store_at p k) (Data c)) (sym (same c w)), h.1)
frame_like p k e u v (Some f) Broken same h = tt
frame_like p k e u v None Broken same h = h
frame_like p k e u v b Shut same h = h
frame_like p k e u v (Some f) (Holds t) same h = h

pub fresh_like : {F : Type 0} (p : Setup F) (m w : Step → Bool) (r k : ℕ) (c : DatCell) → (w (Recv k r (owner_of p c)) ≡ true → m (Recv k r (owner_of p c)) ≡ true) → Fresh p w r k c → Fresh p m r k c
fresh_like p m w r k c same (own e) = own e
fresh_like p m w r k c same (clean e s) = clean e s
fresh_like p m w r k c same (came e x t) = came e x (same t)

pub part_like : {F : Type 0} (p : Setup F) (m w : Step → Bool) (r k s : ℕ) (v : VarCell) → ((j e : ℕ) → w (End j r e) ≡ m (End j r e)) → part_value p m r k s v ≡ part_value p w r k s v
part_like p m w r k s v same = ap (λ x. cond (is_merging (p.program.kind k) && (s == p.program.site k)) x (unit_at (p.reduces s v)))
    (folded_same (elements p.program (source p k)) (λ e. (p.owner (p.program.set (source p k)) e == r) && m (End (source p k) r e))
    (λ e. (p.owner (p.program.set (source p k)) e == r) && w (End (source p k) r e))
    (λ e. effect p (source p k) e (store_at p (source p k)) (Variable v)) (unit_at (p.reduces (p.program.site (source p k)) v))
    (λ e lt. inl (ap (λ b. (p.owner (p.program.set (source p k)) e == r) && b) (sym (same (source p k) e)))))

pub part_else : {F : Type 0} (p : Setup F) (m : Step → Bool) (r k s : ℕ) (v : VarCell)
    → (is_merging (p.program.kind k) && (s == p.program.site k)) ≡ false → part_value p m r k s v ≡ unit_at (p.reduces s v)
part_else p m r k s v h = cond-false (is_merging (p.program.kind k) && (s == p.program.site k)) (part_at p m r v (source p k)) (unit_at (p.reduces s v)) h

pub part_here : {F : Type 0} (p : Setup F) (m : Step → Bool) (r k : ℕ) (v : VarCell) → is_merging (p.program.kind k) ≡ true → part_value p m r k (p.program.site k) v ≡ part_at p m r v (source p k)
part_here p m r k v h = cond-true (is_merging (p.program.kind k) && (p.program.site k == p.program.site k)) (part_at p m r v (source p k))
    (unit_at (p.reduces (p.program.site k) v))
    (and_from (is_merging (p.program.kind k)) (p.program.site k == p.program.site k) h (eq-eqb (p.program.site k) (p.program.site k) refl))

-- where no element of the item has ended
pub part_none : {F : Type 0} (p : Setup F) (m : Step → Bool) (r k s : ℕ) (v : VarCell) → is_reduce (p.program.kind k) ≡ false
    → ((e : ℕ) → m (End k r e) ≡ false) → part_value p m r k s v ≡ unit_at (p.reduces s v)
part_none p m r k s v n none = ⊎_elim
    (λ (t : (is_merging (p.program.kind k) && (s == p.program.site k)) ≡ true).
    cond-true (is_merging (p.program.kind k) && (s == p.program.site k)) (part_at p m r v (source p k)) (unit_at (p.reduces s v)) t
    ∙ (ap (part_at p m r v) (source_self p k n)
    ∙ (folded_none (elements p.program k) (λ e. (p.owner (p.program.set k) e == r) && m (End k r e))
    (λ e. effect p k e (store_at p k) (Variable v)) (unit_at (p.reduces (p.program.site k) v))
    (λ e le. inl (and_right (p.owner (p.program.set k) e == r) (m (End k r e)) (none e)))
    ∙ ap (λ i. unit_at (p.reduces i v)) (sym (eqb-true s (p.program.site k) (second (is_merging (p.program.kind k)) (s == p.program.site k) t))))))
    (λ (t : (is_merging (p.program.kind k) && (s == p.program.site k)) ≡ false). part_else p m r k s v t)
    (cases_Bool (is_merging (p.program.kind k) && (s == p.program.site k)))
  where
    second : (a b : Bool) → (a && b) ≡ true → b ≡ true
    second true b h = h
    second false b h = absurd (false≢true h)

pub value_like : {F : Type 0} (p : Setup F) (m w : Step → Bool) (r k : ℕ) (c : DatCell) → ((e : ℕ) → w (End k r e) ≡ m (End k r e)) → value_at p m r k c ≡ value_at p w r k c
value_like p m w r k c same = folded_same (elements p.program k) (λ e. m (End k r e)) (λ e. w (End k r e))
    (λ e. effect p k e (store_at p k) (Data c)) (store_at p k (Data c)) (λ e lt. inl (sym (same e)))

-- what touches neither rank r's memory nor its frames of item k
pub says_other : {F : Type 0} (p : Setup F) (m w : Step → Bool) (a b : State F) (r k : ℕ)
    → ((s : ℕ) → w (Recv k r s) ≡ true → m (Recv k r s) ≡ true) → ((e : ℕ) → w (Begin k r e) ≡ m (Begin k r e)) → ((j e : ℕ) → w (End j r e) ≡ m (End j r e))
    → b.output ≡ a.output → ((c : DatCell) → b.memories r c ≡ a.memories r c) → ((v : VarCell) → b.variables v ≡ a.variables v)
    → ((s : ℕ) (v : VarCell) → b.partials r s v ≡ a.partials r s v) → ((e : ℕ) → b.frames k r e ≡ a.frames k r e)
    → Says p m a r k → Says p w b r k
says_other p m w a b r k recv begin end out mem vars part frame h = record {
  told = out ∙ h.told;
  cells = λ g c f. mem c ∙ (h.cells g c (fresh_like p m w r k c (recv (owner_of p c)) f) ∙ value_like p m w r k c (end k));
  variables = λ g v. vars v ∙ h.variables g v;
  parts = λ g s v. part s v ∙ (h.parts g s v ∙ part_like p m w r k s v end);
  frames = λ g e x y. frame_like p k e (a.memories r) (b.memories r) (fault p k e (store_at p k)) (b.frames k r e) (λ c i. mem c)
      (subst (FrameIs p k e (a.memories r) (fault p k e (store_at p k))) (sym (frame e)) (h.frames g e (sym (begin e) ∙ x) (sym (end k e) ∙ y)));
}

-- a rank and an item at which it stands
pub record At {F : Type 0} (p : Setup F) (m : Step → Bool) (st : State F) (r k : ℕ) : Type 0 where
  pub stands : Stands (outline p) m r k
  pub says : Says p m st r k

module _ {F : Type 0} (p : Setup F) (q : Law p) (m : Step → Bool) (st : State F) (r : ℕ) (inside : r < p.ranks) (right : Proper (outline p) m) where
  -- all steps of rank r in item k were taken
  abbrev AllOf : ℕ → Type 0
  AllOf k = (t : Step) → IsStep (outline p) t → IsOf t r → item t ≡ k → m t ≡ true

  -- an item at whose end the rank stands is no join
  is_free_item : (k : ℕ) → Stands (outline p) m r k → k < p.program.items → AllOf k → p.program.kind k ≡ Free
  is_free_item k h lt all = ⊎_elim (λ t. free_kind (p.program.kind k) t)
      (λ (f : is_free (p.program.kind k) ≡ false). absurd (false≢true (sym h.unjoined ∙ all (Join k) (lt, f) tt refl)))
      (cases_Bool (is_free (p.program.kind k)))

  -- a cell that is fresh at the next item was fresh, and who modifies it was run
  fresh_before : (k : ℕ) (c : DatCell) → p.program.kind k ≡ Free → k < p.program.items → Stands (outline p) m r k → AllOf k → Fresh p m r (suc k) c
      → Fresh p m r k c × ((e : ℕ) → e < elements p.program k → (m (End k r e) ≡ true) ⊎ (is_modified (p.touch k e (Data c)) ≡ false))
  fresh_before k c fr lt h all (own o) = (
    own o,
    λ e le. ⊎_elim
        (λ (w : is_modified (p.touch k e (Data c)) ≡ true). inl
        (all (End k r e) (
          lt,
          ap is_free fr,
          inside,
          and_from (nat_lt e (elements p.program k)) (executes p k r e)
              (lt-ltb e (elements p.program k) le) (subst (λ x. executes p k x e ≡ true) o (q.lawful.covers k e c fr le w)),
        ) refl refl))
        (λ w. inr w) (cases_Bool (is_modified (p.touch k e (Data c)))),
  )
  fresh_before k c fr lt h all (clean i s) =
      let parts : (p.modifies k c.dat ≡ false) × ((stale p k c.dat && not (p.needs k c.dat)) ≡ false) = or_parts (p.modifies k c.dat) (stale p k c.dat && not (p.needs k c.dat)) s in
      let idle : (e : ℕ) → e < elements p.program k → (m (End k r e) ≡ true) ⊎ (is_modified (p.touch k e (Data c)) ≡ false) =
      λ e le. inr (false_from_ne_true (is_modified (p.touch k e (Data c)))
      (λ w. false≢true (sym parts.0 ∙ q.lawful.modified k e c fr le w))) in
      ⊎_elim
      (λ (y : stale p k c.dat ≡ true).
      ⊎_elim
      (λ (n : p.needs k c.dat ≡ true).
      let x : p.exchanged k c.dat ≡ true = exchanged_is p q k c.dat ∙ and_from (p.needs k c.dat) (stale p k c.dat) n y in
      (came i x (all (Recv k r (owner_of p c)) (lt, ap is_free fr, owner_below p q c, inside, q.lawful.linked k r c fr inside i x) refl refl), idle))
      (λ (n : p.needs k c.dat ≡ false). absurd (false≢true (sym parts.1 ∙ and_from (stale p k c.dat) (not (p.needs k c.dat)) y (not_from_false (p.needs k c.dat) n))))
      (cases_Bool (p.needs k c.dat)))
      (λ (y : stale p k c.dat ≡ false). (clean i y, idle))
      (cases_Bool (stale p k c.dat))
  fresh_before k c fr lt h all (came i x y) = absurd (false≢true (sym (h.ahead (Recv (suc k) r (owner_of p c)) refl (omega arith)) ∙ y))

  -- the run over all elements of item k
  abbrev Sums : ℕ → Type 0
  Sums k = (c : Cell) → store_at p (suc k) c ≡ folded (elements p.program k) (λ e. true) (λ e. effect p k e (store_at p k) c) (store_at p k c)

  cells_next : (k : ℕ) (c : DatCell) → Stands (outline p) m r k → Says p m st r k → is_going (seq p.program k) ≡ true → Sums k
      → Fresh p m r k c × ((e : ℕ) → e < elements p.program k → (m (End k r e) ≡ true) ⊎ (is_modified (p.touch k e (Data c)) ≡ false))
      → st.memories r c ≡ value_at p m r (suc k) c
  cells_next k c h s g sums f =
      s.cells g c f.0
      ∙ (folded_same (elements p.program k) (λ e. m (End k r e)) (λ e. true) (λ e. effect p k e (store_at p k) (Data c)) (store_at p k (Data c))
      (λ e le. ⊎_elim (λ t. inl t) (λ w. inr (λ x. keeps p q k e (store_at p k) (Data c) x w)) (f.1 e le))
      ∙ (sym (sums (Data c))
      ∙ sym (folded_none (elements p.program (suc k)) (λ e. m (End (suc k) r e)) (λ e. effect p (suc k) e (store_at p (suc k)) (Data c)) (store_at p (suc k) (Data c))
      (λ e le. inl (h.ahead (End (suc k) r e) refl (omega arith))))))

  -- a loop into whose variable nothing reduces
  not_reducing : (k : ℕ) → p.program.kind k ≡ Free → is_reduce (p.program.kind (suc k)) ≡ false → (v : VarCell) → p.reduces (p.program.site k) v ≡ None
  not_reducing k fr n v = by_op (p.reduces (p.program.site k) v) refl
    where
      by_op : (o : Option Reduction) → p.reduces (p.program.site k) v ≡ o → p.reduces (p.program.site k) v ≡ None
      by_op None e = e
      by_op (Some o) e = absurd (false≢true (sym n ∙ ap is_reduce (q.lawful.items.reduce_next k v o fr e)))

  -- the effects on such a variable
  no_effects : (k : ℕ) → p.program.kind k ≡ Free → is_reduce (p.program.kind (suc k)) ≡ false → (v : VarCell) (w : ℕ → Bool) (x : ℤ)
      → folded (elements p.program k) w (λ e. effect p k e (store_at p k) (Variable v)) x ≡ x
  no_effects k fr n v w x = folded_none (elements p.program k) w (λ e. effect p k e (store_at p k) (Variable v)) x
      (λ e le. inr (λ y. keeps p q k e (store_at p k) (Variable v) y (unreduced p q k e v fr le (not_reducing k fr n v))))

  variables_next : (k : ℕ) (v : VarCell) → p.program.kind k ≡ Free → Says p m st r k → is_going (seq p.program k) ≡ true → Sums k → st.variables v ≡ store_at p (source p (suc k)) (Variable v)
  variables_next k v fr s g sums =
      s.variables g v
      ∙ (ap (λ j. store_at p j (Variable v)) (source_free p k fr)
      ∙ ⊎_elim
      (λ (t : is_reduce (p.program.kind (suc k)) ≡ true). ap (λ j. store_at p j (Variable v)) (sym (source_reduce p k (reduce_kind (p.program.kind (suc k)) t))))
      (λ (t : is_reduce (p.program.kind (suc k)) ≡ false).
      sym (sums (Variable v) ∙ no_effects k fr t v (λ e. true) (store_at p k (Variable v)))
      ∙ ap (λ j. store_at p j (Variable v)) (sym (source_self p (suc k) t)))
      (cases_Bool (is_reduce (p.program.kind (suc k)))))

  -- partials of a loop that doesn't reduce
  part_unreduced : (k s : ℕ) (v : VarCell) → p.program.kind k ≡ Free → is_reduce (p.program.kind (suc k)) ≡ false → part_value p m r k s v ≡ unit_at (p.reduces s v)
  part_unreduced k s v fr n = ⊎_elim
      (λ (e : s ≡ p.program.site k).
      subst (λ i. part_value p m r k i v ≡ unit_at (p.reduces i v)) (sym e)
      (part_here p m r k v (ap is_merging fr)
      ∙ (ap (part_at p m r v) (source_free p k fr)
      ∙ no_effects k fr n v (λ e. (p.owner (p.program.set k) e == r) && m (End k r e)) (unit_at (p.reduces (p.program.site k) v)))))
      (λ (ne : s ≡ p.program.site k → ⊥). part_else p m r k s v (and_right (is_merging (p.program.kind k)) (s == p.program.site k) (ne_eqb s (p.program.site k) ne)))
      (cases_eq s (p.program.site k))

  parts_next : (k s : ℕ) (v : VarCell) → p.program.kind k ≡ Free → Stands (outline p) m r k → Says p m st r k → is_going (seq p.program k) ≡ true → st.partials r s v ≡ part_value p m r (suc k) s v
  parts_next k s v fr h sa g =
      sa.parts g s v ∙ ⊎_elim
      (λ (t : is_reduce (p.program.kind (suc k)) ≡ true).
      let reduces : p.program.kind (suc k) ≡ Reduce = reduce_kind (p.program.kind (suc k)) t in
      let after : (p.program.kind k ≡ Free) × (p.program.site (suc k) ≡ p.program.site k) = q.lawful.items.reduce_after k reduces in
      ap (λ b. cond (b && (s == p.program.site k)) (part_at p m r v (source p k)) (unit_at (p.reduces s v))) (ap is_merging fr ∙ sym (ap is_merging reduces))
      ∙ (ap (λ i. cond (is_merging (p.program.kind (suc k)) && (s == i)) (part_at p m r v (source p k)) (unit_at (p.reduces s v))) (sym after.1)
      ∙ ap (λ j. cond (is_merging (p.program.kind (suc k)) && (s == p.program.site (suc k))) (part_at p m r v j) (unit_at (p.reduces s v))) (source_free p k fr ∙ sym (source_reduce p k reduces))))
      (λ (t : is_reduce (p.program.kind (suc k)) ≡ false).
      part_unreduced k s v fr t ∙ sym (part_none p m r (suc k) s v t (λ e. h.ahead (End (suc k) r e) refl (omega arith))))
      (cases_Bool (is_reduce (p.program.kind (suc k))))

  stands_next : (k : ℕ) → Stands (outline p) m r k → k < p.program.items → AllOf k → Stands (outline p) m r (suc k)
  stands_next k h lt all = record {
    within = omega arith;
    past = λ t plan of l. ⊎_elim (λ (e : item t ≡ k). all t plan of e) (λ (ne : item t ≡ k → ⊥). h.past t plan of (omega arith)) (cases_eq (item t) k);
    ahead = λ t of l. h.ahead t of (omega arith);
    unjoined = h.ahead (Join (suc k)) tt (omega arith);
  }

  -- nothing is said where the sequential run is over
  over : (k : ℕ) → st.output ≡ output_of (seq p.program k) → is_going (seq p.program k) ≡ false → Says p m st r k
  over k out n = record {
    told = out;
    cells = λ y. absurd (false≢true (sym n ∙ y));
    variables = λ y. absurd (false≢true (sym n ∙ y));
    parts = λ y. absurd (false≢true (sym n ∙ y));
    frames = λ y. absurd (false≢true (sym n ∙ y));
  }

  says_by : (k : ℕ) → p.program.kind k ≡ Free → Stands (outline p) m r k → Says p m st r k → k < p.program.items → AllOf k → FreeCase p k → Says p m st r (suc k)
  says_by k fr h s lt all (was_over g e) = over (suc k) (s.told ∙ ap output_of (sym e)) (ap is_going e ∙ g)
  says_by k fr h s lt all (goes_on g g2 none sums out) = record {
    told = s.told ∙ sym out;
    cells = λ y c f. cells_next k c h s g sums (fresh_before k c fr lt h all f);
    variables = λ y v. variables_next k v fr s g sums;
    parts = λ y i v. parts_next k i v fr h s g;
    frames = λ y e b n. absurd (false≢true (sym (h.ahead (Begin (suc k) r e) refl (omega arith)) ∙ b));
  }
  says_by k fr h s lt all (ends g e f le bad none t n) = over (suc k) (s.told ∙ ap output_of (sym n)) (ap is_going n)

  -- a rank that took all its steps of an item stands at the next
  pub next : (k : ℕ) → k < p.program.items → AllOf k → At p m st r k → At p m st r (suc k)
  next k lt all h =
      let fr : p.program.kind k ≡ Free = is_free_item k h.stands lt all in
      record { stands = stands_next k h.stands lt all; says = says_by k fr h.stands h.says lt all (free_case p q k fr) }

  pub forward : (n k : ℕ) → n + k ≤ p.program.items → ((t : Step) → IsStep (outline p) t → IsOf t r → item t < n + k → m t ≡ true) → At p m st r k → At p m st r (n + k)
  forward zero k le all h = subst (At p m st r) (omega arith) h
  forward (suc n) k le all h =
      let so : At p m st r (n + k) = forward n k (omega arith) (λ t plan of l. all t plan of (omega arith)) h in
      subst (At p m st r) (omega arith) (next (n + k) (omega arith) (λ t plan of e. all t plan of (omega arith)) so)

  -- the rank stands at the item of a step of it that may be taken
  pub stand_at : (k j : ℕ) → At p m st r j → k ≤ p.program.items → ((t : Step) → IsStep (outline p) t → IsOf t r → item t < k → m t ≡ true) → j ≤ k → At p m st r k
  stand_at k j h le all low = subst (At p m st r) (omega arith) (forward (k - j) j (omega arith) (λ t plan of l. all t plan of (omega arith)) h)
