-- The least recorded fault is that of the sequential run.
use Rattle.std.proofs.Common.{◌≡◌, ℕ, suc, ◌<◌, ◌≤◌, true, false, inl, inr, sym, ap, subst, ◌∙◌, arith, ⊎_elim, Some, None}
use Rattle.std.specs.Prelude.{◌&&◌, ◌==◌, nat_lt}
use Rattle.std.proofs.lemmas.Bool.{cases_eq, cases_lt, cases_Bool, false≢true, or_left, or_right, and_from, eq-eqb, lt-ltb}
use Rattle.schedule_model.specs.Cells.{Store}
use Rattle.schedule_model.specs.Program.{Free, is_free, elements}
use Rattle.schedule_model.specs.Sequential.{Stop, Stopped, seq}
use Rattle.schedule_model.specs.Machine.{is_less_element, least}
use Rattle.schedule_model.specs.Tests.{free_kind}
use Rattle.schedule_model.proofs.Public.{fault, output_of, is_going, store_at, FreeCase, was_over, goes_on, ends, free_case, each_more, Beats, least_is, least_none, Recorded, seq_ends, going_down, ended_at}
use Rattle.chain_model.specs.Machine.{ChainState}
use Rattle.chain_model.proofs.Given.{Given, Comes, breaks, culprit}
use Rattle.chain_model.proofs.Invariants.{Before}

-- where the sequential run stopped before item k: the stop, which is the least recorded fault
pub record Stops {F : Type 0} (g : Given F) (k : ℕ) (st : ChainState F) : Type 0 where
  pub stop : Stop F
  pub store : Store
  pub stopped : seq g.p.program k ≡ Stopped stop store (output_of (seq g.p.program k))
  pub found : least k st.faults ≡ Some stop

module _ {F : Type 0} (g : Given F) where
  -- an item whose end the run reaches has no faulty element
  sound_item : (k e : ℕ) (f : F) → Comes g (suc k) → e < elements g.p.program k → breaks g k e ≡ Some f → FreeCase g.p k → ⊥
  sound_item k e f go le bad (was_over h n) = false≢true (sym h ∙ (ap is_going (sym n) ∙ go))
  sound_item k e f go le bad (goes_on a b none sums out) = let both : None ≡ Some f = sym (none e le) ∙ bad in cc
  sound_item k e f go le bad (ends a e1 f1 le1 bad1 none t n) = false≢true (ap is_going (sym n) ∙ go)

  -- the element of a recorded fault
  abbrev Culprit : Stop F → Type 0
  Culprit x = (e : ℕ) × (x.element ≡ Some e) × (e < elements g.p.program x.item) × (fault g.p x.item e (store_at g.p x.item) ≡ Some x.fault) × (g.p.program.kind x.item ≡ Free)

  module _ (k : ℕ) (st : ChainState F) (b : Before g k st) where
    -- no fault of an earlier item is recorded where the sequential run goes on
    pub none_recorded : Comes g k → least k st.faults ≡ None
    none_recorded go = least_none k st.faults (each_more (Recorded g.p) (λ y. y.item < k → ⊥) st.faults
        (λ x h lt.
        let r : Culprit x = h (going_down g.p x.item k (omega arith) go) in
        sound_item x.item r.0 x.fault (going_down g.p (suc x.item) k (omega arith) go) r.2 r.3 (free_case g.p g.q x.item r.4))
        b.recorded)

    -- the first faulty element is the least recorded
    worse : (j e : ℕ) (f : F) → Comes g j → breaks g j e ≡ Some f → ((a : ℕ) → a < e → breaks g j a ≡ None) → (y : Stop F) → Recorded g.p y → Beats (culprit j e f) y
    worse j e f go bad none y h = ⊎_elim
        (λ (same_item : y.item ≡ j).
        let r : Culprit y = h (subst (λ i. Comes g i) (sym same_item) go) in
        let bad_y : breaks g j r.0 ≡ Some y.fault = subst (λ i. breaks g i r.0 ≡ Some y.fault) same_item r.3 in
        ⊎_elim
        (λ (lt : r.0 < e). let both : None ≡ Some y.fault = sym (none r.0 lt) ∙ bad_y in cc)
        (λ (le : e ≤ r.0). ⊎_elim
        (λ (same_element : r.0 ≡ e).
        let ff : Some y.fault ≡ Some f = sym bad_y ∙ (ap (breaks g j) same_element ∙ bad) in
        let fault : y.fault ≡ f = cc in
        let element : y.element ≡ Some e = r.1 ∙ ap Some same_element in
        inl (λ i. record { item = same_item i; element = element i; fault = fault i }))
        (λ (ne : r.0 ≡ e → ⊥).
        inr (or_right (nat_lt j y.item) ((j == y.item) && is_less_element (Some e) y.element)
        (and_from (j == y.item) (is_less_element (Some e) y.element) (eq-eqb j y.item (sym same_item))
        (subst (λ z. is_less_element (Some e) z ≡ true) (sym r.1) (lt-ltb e r.0 (omega arith))))))
        (cases_eq r.0 e))
        (cases_lt r.0 e))
        (λ (ne : y.item ≡ j → ⊥). ⊎_elim
        (λ (lt : y.item < j).
        let r : Culprit y = h (going_down g.p y.item j (omega arith) go) in
        absurd (sound_item y.item r.0 y.fault (going_down g.p (suc y.item) j (omega arith) go) r.2 r.3 (free_case g.p g.q y.item r.4)))
        (λ (le : j ≤ y.item).
        inr (or_left (nat_lt j y.item) ((j == y.item) && is_less_element (Some e) y.element) (lt-ltb j y.item (omega arith))))
        (cases_lt y.item j))
        (cases_eq y.item j)

    free_fault : (j : ℕ) → j < k → Comes g j → is_going (seq g.p.program (suc j)) ≡ false → g.p.program.kind j ≡ Free → FreeCase g.p j → Stops g k st
    free_fault j lt go over fr (was_over h n) = absurd (false≢true (sym h ∙ go))
    free_fault j lt go over fr (goes_on a c none sums out) = absurd (false≢true (sym over ∙ c))
    free_fault j lt go over fr (ends a e f le bad none t n) =
        let there : seq g.p.program k ≡ Stopped (culprit j e f) t (output_of (seq g.p.program j)) = seq_ends g.p (culprit j e f) t (output_of (seq g.p.program j)) (suc j) k n (omega arith) in
        record {
          stop = culprit j e f;
          store = t;
          stopped = there ∙ ap (Stopped (culprit j e f) t) (sym (ap output_of there));
          found = least_is k (culprit j e f) st.faults lt (b.kept j e f lt fr le go bad)
              (each_more (Recorded g.p) (λ y. y.item < k → Beats (culprit j e f) y) st.faults (λ y h l. worse j e f go bad none y h) b.recorded);
        }

    -- the sequential run has stopped in an earlier item, which is Free
    pub stops : is_going (seq g.p.program k) ≡ false → Stops g k st
    stops over =
        let h : (j : ℕ) × (j < k) × (is_going (seq g.p.program j) ≡ true) × (is_going (seq g.p.program (suc j)) ≡ false) = ended_at g.p k over in
        ⊎_elim
        (λ (fr : is_free (g.p.program.kind h.0) ≡ true). free_fault h.0 h.1 h.2 h.3 (free_kind (g.p.program.kind h.0) fr) (free_case g.p g.q h.0 (free_kind (g.p.program.kind h.0) fr)))
        (λ (fr : is_free (g.p.program.kind h.0) ≡ false). absurd (false≢true (sym h.3 ∙ b.went h.0 h.1 fr)))
        (cases_Bool (is_free (g.p.program.kind h.0)))
