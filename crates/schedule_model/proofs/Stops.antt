-- Where the sequential run ends, and that the least recorded fault is its.
use Rattle.std.proofs.Common.{◌≡◌, ℕ, zero, suc, ◌+◌, ◌<◌, ◌≤◌, ◌-◌, Bool, true, false, inl, inr, refl, sym, ap, subst, ◌∙◌, arith, ⊎_elim, Some, None, List}
use Rattle.std.specs.Prelude.{◌&&◌, ◌==◌, nat_lt, is_some}
use Rattle.std.proofs.lemmas.Bool.{cases_eq, cases_lt, cases_Bool, false≢true, or_left, or_right, and_from, eq-eqb, lt-ltb}
use Rattle.schedule_steps.specs.declared.step.Step.{Step}
use Rattle.schedule_steps.specs.declared.step.Step.TheVariants.{Begin, Join}
use Rattle.schedule_steps.specs.Steps.{IsStep, by_item}
use Rattle.schedule_model.specs.Cells.{Store}
use Rattle.schedule_model.specs.Program.{Free, is_free, elements}
use Rattle.schedule_model.specs.Setup.{Setup, executes, outline}
use Rattle.schedule_model.specs.Sequential.{Stop, Seq, Stopped, Going, after_item, seq, sequential}
use Rattle.schedule_model.specs.Machine.{State, is_less_element, least, joined, step, Agrees}
use Rattle.schedule_model.proofs.Law.{Law, fault}
use Rattle.schedule_model.proofs.Sequence.{output_of, is_going, store_at, FreeCase, was_over, goes_on, ends, free_case}
use Rattle.schedule_model.proofs.Marks.{Ready}
use Rattle.schedule_model.proofs.Least.{each_more, Beats, least_is, least_none}
use Rattle.schedule_model.proofs.Inv.{Inv, Recorded}
use Rattle.schedule_model.specs.Tests.{free_kind}

pub seq_stays : {F : Type 0} (p : Setup F) (x : Stop F) (t : Store) (o : List ℕ) (n k : ℕ) → seq p.program k ≡ Stopped x t o → seq p.program (n + k) ≡ Stopped x t o
seq_stays p x t o zero k h = let e : k ≡ zero + k = omega arith in subst (λ i. seq p.program i ≡ Stopped x t o) e h
seq_stays p x t o (suc n) k h = let e : suc (n + k) ≡ suc n + k = omega arith in subst (λ i. seq p.program i ≡ Stopped x t o) e (ap (after_item p.program (n + k)) (seq_stays p x t o n k h))

pub seq_ends : {F : Type 0} (p : Setup F) (x : Stop F) (t : Store) (o : List ℕ) (k n : ℕ) → seq p.program k ≡ Stopped x t o → k ≤ n → seq p.program n ≡ Stopped x t o
seq_ends p x t o k n h le = let e : (n - k) + k ≡ n = omega arith in subst (λ i. seq p.program i ≡ Stopped x t o) e (seq_stays p x t o (n - k) k h)

item_over : {F : Type 0} (p : Setup F) (k : ℕ) (s : Seq F) → is_going s ≡ false → is_going (after_item p.program k s) ≡ false
item_over p k (Stopped x t o) h = refl
item_over p k (Going s o) h = absurd (false≢true (sym h))

pub going_before : {F : Type 0} (p : Setup F) (n k : ℕ) → is_going (seq p.program (n + k)) ≡ true → is_going (seq p.program k) ≡ true
going_before p zero k h = let e : zero + k ≡ k = omega arith in subst (λ i. is_going (seq p.program i) ≡ true) e h
going_before p (suc n) k h = going_before p n k (⊎_elim (λ t. t)
    (λ (f : is_going (seq p.program (n + k)) ≡ false).
    let e : suc n + k ≡ suc (n + k) = omega arith in
    let g : is_going (seq p.program (suc (n + k))) ≡ true = subst (λ i. is_going (seq p.program i) ≡ true) e h in
    absurd (false≢true (sym (item_over p (n + k) (seq p.program (n + k)) f) ∙ g)))
    (cases_Bool (is_going (seq p.program (n + k)))))

pub going_down : {F : Type 0} (p : Setup F) (k n : ℕ) → k ≤ n → is_going (seq p.program n) ≡ true → is_going (seq p.program k) ≡ true
going_down p k n le h = let e : n ≡ (n - k) + k = omega arith in going_before p (n - k) k (subst (λ i. is_going (seq p.program i) ≡ true) e h)

-- the item at which the sequential run ended
pub ended_at : {F : Type 0} (p : Setup F) (k : ℕ) → is_going (seq p.program k) ≡ false → (j : ℕ) × (j < k) × (is_going (seq p.program j) ≡ true) × (is_going (seq p.program (suc j)) ≡ false)
ended_at p zero h = absurd (false≢true (sym h))
ended_at p (suc k) h = ⊎_elim
    (λ (t : is_going (seq p.program k) ≡ true). (k, omega arith, t, h))
    (λ (f : is_going (seq p.program k) ≡ false). let r : (j : ℕ) × (j < k) × (is_going (seq p.program j) ≡ true)
    × (is_going (seq p.program (suc j)) ≡ false) = ended_at p k f in (r.0, (let lt : r.0 < k = r.1 in omega arith), r.2, r.3))
    (cases_Bool (is_going (seq p.program k)))

-- the machine has stopped, as the sequential run does
pub record Halted {F : Type 0} (p : Setup F) (st : State F) : Type 0 where
  pub halted : is_some st.stop ≡ true
  pub agrees : Agrees p (sequential p.program) st

agrees_at : {F : Type 0} (p : Setup F) (x : Stop F) (t : Store) (o : List ℕ) (st : State F) (s : Seq F) → s ≡ Stopped x t o → st.stop ≡ Some x → st.output ≡ o → Agrees p s st
agrees_at p x t o st s e stop out = subst (λ y. Agrees p y st) (sym e) (stop, out)

pub halts_at : {F : Type 0} (p : Setup F) (x : Stop F) (t : Store) (o : List ℕ) (st : State F) (k : ℕ) → k ≤ p.program.items
    → seq p.program k ≡ Stopped x t o → st.stop ≡ Some x → st.output ≡ o → Halted p st
halts_at p x t o st k le e stop out = record {
  halted = ap is_some stop;
  agrees = agrees_at p x t o st (seq p.program p.program.items) (seq_ends p x t o k p.program.items e le) stop out;
}

-- an item whose end the run reaches has no faulty element
sound_item : {F : Type 0} (p : Setup F) (k e : ℕ) (f : F) → is_going (seq p.program (suc k)) ≡ true → e < elements p.program k → fault p k e (store_at p k) ≡ Some f → FreeCase p k → ⊥
sound_item p k e f g le bad (was_over h n) = false≢true (sym h ∙ (ap is_going (sym n) ∙ g))
sound_item p k e f g le bad (goes_on a b none sums out) = let both : None ≡ Some f = sym (none e le) ∙ bad in cc
sound_item p k e f g le bad (ends a e1 f1 le1 bad1 none t n) = false≢true (ap is_going (sym n) ∙ g)

module _ {F : Type 0} (p : Setup F) (q : Law p) (m : Step → Bool) (st : State F) (inv : Inv p m st) (k : ℕ) where
  -- the element of a recorded fault
  abbrev Culprit : Stop F → Type 0
  Culprit x = (e : ℕ) × (x.element ≡ Some e) × (e < elements p.program x.item) × (fault p x.item e (store_at p x.item) ≡ Some x.fault) × (p.program.kind x.item ≡ Free)

  -- no fault of an earlier item is recorded where the sequential run goes on
  pub none_recorded : is_going (seq p.program k) ≡ true → least k st.faults ≡ None
  none_recorded g = least_none k st.faults (each_more (Recorded p) (λ y. y.item < k → ⊥) st.faults
      (λ x h lt.
      let r : Culprit x = h (going_down p x.item k (omega arith) g) in
      sound_item p x.item r.0 x.fault (going_down p (suc x.item) k (omega arith) g) r.2 r.3 (free_case p q x.item r.4))
      inv.recorded)

  -- the first faulty element is the least recorded
  worse : (j e : ℕ) (f : F) → is_going (seq p.program j) ≡ true → fault p j e (store_at p j) ≡ Some f
      → ((a : ℕ) → a < e → fault p j a (store_at p j) ≡ None) → (y : Stop F) → Recorded p y
      → Beats (record { item = j; element = Some e; fault = f }) y
  worse j e f g bad none y h = ⊎_elim
      (λ (same_item : y.item ≡ j).
      let r : Culprit y = h (subst (λ i. is_going (seq p.program i) ≡ true) (sym same_item) g) in
      let bad_y : fault p j r.0 (store_at p j) ≡ Some y.fault = subst (λ i. fault p i r.0 (store_at p i) ≡ Some y.fault) same_item r.3 in
      ⊎_elim
      (λ (lt : r.0 < e). let both : None ≡ Some y.fault = sym (none r.0 lt) ∙ bad_y in cc)
      (λ (le : e ≤ r.0). ⊎_elim
      (λ (same_element : r.0 ≡ e).
      let ff : Some y.fault ≡ Some f = sym bad_y ∙ (ap (λ a. fault p j a (store_at p j)) same_element ∙ bad) in
      let fault : y.fault ≡ f = cc in
      let element : y.element ≡ Some e = r.1 ∙ ap Some same_element in
      inl (λ i. record { item = same_item i; element = element i; fault = fault i }))
      (λ (ne : r.0 ≡ e → ⊥).
      inr (or_right (nat_lt j y.item) ((j == y.item) && is_less_element (Some e) y.element)
      (and_from (j == y.item) (is_less_element (Some e) y.element) (eq-eqb j y.item (sym same_item))
      (subst (λ z. is_less_element (Some e) z ≡ true) (sym r.1) (lt-ltb e r.0 (omega arith))))))
      (cases_eq r.0 e))
      (cases_lt r.0 e))
      (λ (ne : y.item ≡ j → ⊥). ⊎_elim
      (λ (lt : y.item < j).
      let r : Culprit y = h (going_down p y.item j (omega arith) g) in
      absurd (sound_item p y.item r.0 y.fault (going_down p (suc y.item) j (omega arith) g) r.2 r.3 (free_case p q y.item r.4)))
      (λ (le : j ≤ y.item).
      inr (or_left (nat_lt j y.item) ((j == y.item) && is_less_element (Some e) y.element) (lt-ltb j y.item (omega arith))))
      (cases_lt y.item j))
      (cases_eq y.item j)

  module _ (rd : Ready (outline p) m (Join k)) (told : st.output ≡ output_of (seq p.program k)) where
    low : k < p.program.items
    low = let plan : IsStep (outline p) (Join k) = rd.planned in plan.0

    free_fault : (j : ℕ) → j < k → is_going (seq p.program j) ≡ true → is_going (seq p.program (suc j)) ≡ false → p.program.kind j ≡ Free → FreeCase p j → Halted p (step p (Join k) st)
    free_fault j lt g over fr (was_over h n) = absurd (false≢true (sym h ∙ g))
    free_fault j lt g over fr (goes_on a b none sums out) = absurd (false≢true (sym over ∙ b))
    free_fault j lt g over fr (ends a e f le bad none t n) =
        let taken : m (Begin j (p.owner (p.program.set j) e) e) ≡ true = rd.after (Begin j (p.owner (p.program.set j) e) e) (
          (let l : k < p.program.items = low in omega arith),
          ap is_free fr,
          q.lawful.items.owners (p.program.set j) e le,
          and_from (nat_lt e (elements p.program j)) (executes p j (p.owner (p.program.set j) e) e) (lt-ltb e (elements p.program j) le)
              (or_left (p.owner (p.program.set j) e == p.owner (p.program.set j) e)
              (p.scatters j && p.import_execute (p.owner (p.program.set j) e) (p.program.set j) e)
              (eq-eqb (p.owner (p.program.set j) e) (p.owner (p.program.set j) e) refl)),
        )
        (by_item (p.owner (p.program.set j) e) refl tt lt) in
        let found : least k st.faults ≡ Some (record { item = j; element = Some e; fault = f }) =
        least_is k (record { item = j; element = Some e; fault = f }) st.faults lt (inv.kept j (p.owner (p.program.set j) e) e f taken g bad)
        (each_more (Recorded p) (λ y. y.item < k → Beats (record { item = j; element = Some e; fault = f }) y) st.faults (λ y h l. worse j e f g bad none y h) inv.recorded) in
        let over_k : seq p.program k ≡ Stopped (record { item = j; element = Some e; fault = f }) t (output_of (seq p.program j)) =
        seq_ends p (record { item = j; element = Some e; fault = f }) t (output_of (seq p.program j)) (suc j) k n (omega arith) in
        subst (λ z. Halted p (joined p k z st)) (sym found)
        (halts_at p (record { item = j; element = Some e; fault = f }) t (output_of (seq p.program j))
        (joined p k (Some (record { item = j; element = Some e; fault = f })) st) k (let l : k < p.program.items = low in omega arith)
        over_k refl (told ∙ ap output_of over_k))

    -- the sequential run has ended in an earlier item
    pub fault_case : (j : ℕ) × (j < k) × (is_going (seq p.program j) ≡ true) × (is_going (seq p.program (suc j)) ≡ false) → Halted p (step p (Join k) st)
    fault_case h =
        let lt : h.0 < k = h.1 in
        ⊎_elim
        (λ (fr : is_free (p.program.kind h.0) ≡ true). free_fault h.0 h.1 h.2 h.3 (free_kind (p.program.kind h.0) fr) (free_case p q h.0 (free_kind (p.program.kind h.0) fr)))
        (λ (fr : is_free (p.program.kind h.0) ≡ false). absurd
        (false≢true (sym h.3 ∙ inv.went h.0
        (rd.after (Join h.0) ((let l : k < p.program.items = low in omega arith), fr) (by_item 0 tt tt lt)))))
        (cases_Bool (is_free (p.program.kind h.0)))
