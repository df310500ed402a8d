-- The one bit of a dat is the condition on the history.
use Rattle.std.proofs.Common.{◌≡◌, ℕ, zero, suc, ◌<◌, Bool, true, false, sym, ap, ◌∙◌, arith, ⊎_elim}
use Rattle.std.specs.Prelude.{◌&&◌, not, ◌↔◌}
use Rattle.std.proofs.lemmas.Bool.{cases_eq, cases_Bool, false≢true, false_from_ne_true, or_cases, or_left, or_right, and_from, and_left, and_right, and_parts, not_from_false, not_from_true}
use Rattle.schedule_model.specs.History.{IsStale, ByHistory, stale_bit, exchanged_by_bit}

module _ (modifies needs exchanged : ℕ → Bool) where
  -- one item later, where the item exchanged nothing
  stale_more : (k : ℕ) → exchanged k ≡ false → IsStale modifies needs exchanged k → IsStale modifies needs exchanged (suc k)
  stale_more k none h = (
    h.0,
    (let lt : h.0 < k = h.1 in omega arith),
    h.2,
    λ n low up. ⊎_elim (λ (e : n ≡ k). ap exchanged e ∙ none) (λ (ne : n ≡ k → ⊥). h.3 n low (omega arith)) (cases_eq n k),
  )

  stale_fewer : (k : ℕ) → (h : IsStale modifies needs exchanged (suc k)) → (h.0 ≡ k → ⊥) → IsStale modifies needs exchanged k
  stale_fewer k h ne = (h.0, (let lt : h.0 < suc k = h.1 in omega arith), h.2, λ n low up. h.3 n low (omega arith))

  pub bit_is_stale : ((k : ℕ) → exchanged k ≡ true → needs k ≡ true) → (k : ℕ) → stale_bit modifies needs k ≡ true → IsStale modifies needs exchanged k
  bit_is_stale needed zero h = absurd (false≢true h)
  bit_is_stale needed (suc k) h = ⊎_elim
      (λ (m : modifies k ≡ true). (k, omega arith, m, λ n low up. absurd (omega arith)))
      (λ (t : (stale_bit modifies needs k && not (needs k)) ≡ true).
      let parts : (stale_bit modifies needs k ≡ true) × (not (needs k) ≡ true) = and_parts (stale_bit modifies needs k) (not (needs k)) t in
      stale_more k (false_from_ne_true (exchanged k) (λ x. false≢true (sym (not_from_true (needs k) (needed k x)) ∙ parts.1))) (bit_is_stale needed k parts.0))
      (or_cases (modifies k) (stale_bit modifies needs k && not (needs k)) h)

  pub stale_is_bit : ((k : ℕ) → stale_bit modifies needs k ≡ true → exchanged k ≡ false → needs k ≡ false) → (k : ℕ) → IsStale modifies needs exchanged k → stale_bit modifies needs k ≡ true
  stale_is_bit unneeded zero h = absurd (let lt : h.0 < 0 = h.1 in omega arith)
  stale_is_bit unneeded (suc k) h = ⊎_elim
      (λ (e : h.0 ≡ k). or_left (modifies k) (stale_bit modifies needs k && not (needs k)) (ap modifies (sym e) ∙ h.2))
      (λ (ne : h.0 ≡ k → ⊥).
      let before : stale_bit modifies needs k ≡ true = stale_is_bit unneeded k (stale_fewer k h ne) in
      or_right (modifies k) (stale_bit modifies needs k && not (needs k))
      (and_from (stale_bit modifies needs k) (not (needs k)) before
      (not_from_false (needs k) (unneeded k before (h.3 k (let lt : h.0 < suc k = h.1 in omega arith) (omega arith))))))
      (cases_eq h.0 k)

  pub by_bit : ByHistory modifies needs exchanged → (k : ℕ) → exchanged k ≡ exchanged_by_bit modifies needs k
  by_bit h k = ⊎_elim
      (λ (x : exchanged k ≡ true). x ∙ sym (and_from (needs k) (stale_bit modifies needs k) (h.needed k x) (stale_is_bit unneeded k (h.since k x))))
      (λ (x : exchanged k ≡ false). x ∙ sym (⊎_elim
      (λ (s : stale_bit modifies needs k ≡ true). and_left (needs k) (stale_bit modifies needs k) (unneeded k s x))
      (λ (s : stale_bit modifies needs k ≡ false). and_right (needs k) (stale_bit modifies needs k) s)
      (cases_Bool (stale_bit modifies needs k))))
      (cases_Bool (exchanged k))
    where
      unneeded : (j : ℕ) → stale_bit modifies needs j ≡ true → exchanged j ≡ false → needs j ≡ false
      unneeded j s x = false_from_ne_true (needs j) (λ n. false≢true (sym x ∙ h.must j n (bit_is_stale h.needed j s)))

  pub from_bit : ((k : ℕ) → exchanged k ≡ exchanged_by_bit modifies needs k) → ByHistory modifies needs exchanged
  from_bit h = record {
    needed = needed;
    since = λ k x. bit_is_stale needed k (and_parts (needs k) (stale_bit modifies needs k) (sym (h k) ∙ x)).1;
    must = λ k n s. h k ∙ and_from (needs k) (stale_bit modifies needs k) n (stale_is_bit unneeded k s);
  }
    where
      needed : (k : ℕ) → exchanged k ≡ true → needs k ≡ true
      needed k x = (and_parts (needs k) (stale_bit modifies needs k) (sym (h k) ∙ x)).0

      unneeded : (j : ℕ) → stale_bit modifies needs j ≡ true → exchanged j ≡ false → needs j ≡ false
      unneeded j s x = false_from_ne_true (needs j) (λ n. false≢true (sym x ∙ (h j ∙ and_from (needs j) (stale_bit modifies needs j) n s)))

  pub one_bit : ByHistory modifies needs exchanged ↔ ((k : ℕ) → exchanged k ≡ exchanged_by_bit modifies needs k)
  one_bit = ((λ h. by_bit h), (λ h. from_bit h))
