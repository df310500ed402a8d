-- A chain is told by its first item, and has one last item.
use Rattle.std.proofs.Common.{◌≡◌, ℕ, zero, suc, ◌+◌, ◌<◌, ◌≤◌, true, false, sym, subst, ◌∙◌, arith, ⊎_elim}
use Rattle.std.specs.Prelude.{not}
use Rattle.std.proofs.lemmas.Bool.{cases_eq, cases_lt, cases_Bool, false≢true, false_from_ne_true, and_parts, and_from, not_from_false, not_from_true}
use Rattle.schedule_model.specs.Program.{Kind, is_free}
use Rattle.chain_model.specs.Chains.{follows_free, begins, IsChain, AreToldByFirsts}

module _ (n : ℕ) (kind : ℕ → Kind) where
  -- all items from i to k are Free
  abbrev AllFree : ℕ → ℕ → Type 0
  AllFree i k = (l : ℕ) → i ≤ l → l ≤ k → is_free (kind l) ≡ true

  all_next : (i k : ℕ) → AllFree i k → is_free (kind (suc k)) ≡ true → AllFree i (suc k)
  all_next i k all free l lo hi = ⊎_elim
      (λ (e : l ≡ suc k). subst (λ z. is_free (kind z) ≡ true) (sym e) free)
      (λ (ne : l ≡ suc k → ⊥). all l lo (omega arith))
      (cases_eq l (suc k))

  -- the chain goes on from k for at most m items
  from : (i : ℕ) → follows_free kind i ≡ false → (m k : ℕ) → i ≤ k → k < n → n ≤ k + suc m → AllFree i k → (j : ℕ) × IsChain n kind i j
  from i first zero k le lt most all = (k, record { in_order = le; within = lt; free = all; before = first; behind = λ l. absurd (omega arith) })
  from i first (suc m) k le lt most all = ⊎_elim
      (λ (in_n : suc k < n). ⊎_elim
      (λ (f : is_free (kind (suc k)) ≡ true). from i first m (suc k) (omega arith) in_n (omega arith) (all_next i k all f))
      (λ (f : is_free (kind (suc k)) ≡ false). (k, record { in_order = le; within = lt; free = all; before = first; behind = λ l. f }))
      (cases_Bool (is_free (kind (suc k)))))
      (λ (over : n ≤ suc k). (k, record { in_order = le; within = lt; free = all; before = first; behind = λ l. absurd (omega arith) }))
      (cases_lt (suc k) n)

  begins_parts : (i : ℕ) → begins kind i ≡ true → (is_free (kind i) ≡ true) × (follows_free kind i ≡ false)
  begins_parts i h =
      let both : (is_free (kind i) ≡ true) × (not (follows_free kind i) ≡ true) = and_parts (is_free (kind i)) (not (follows_free kind i)) h in
      (both.0, false_from_ne_true (follows_free kind i) (λ t. false≢true (sym (not_from_true (follows_free kind i) t) ∙ both.1)))

  ends_before : (i j l : ℕ) → IsChain n kind i j → IsChain n kind i l → j < l → ⊥
  ends_before i j l a b lt =
      let in_b : l < n = b.within in
      let in_a : i ≤ j = a.in_order in
      false≢true (sym (a.behind (omega arith)) ∙ b.free (suc j) (omega arith) (omega arith))

  one_end : (i j l : ℕ) → IsChain n kind i j → IsChain n kind i l → j ≡ l
  one_end i j l a b = ⊎_elim
      (λ (lt : j < l). absurd (ends_before i j l a b lt))
      (λ (ge : l ≤ j). ⊎_elim
      (λ (e : j ≡ l). e)
      (λ (ne : j ≡ l → ⊥). absurd (ends_before i l j b a (omega arith)))
      (cases_eq j l))
      (cases_lt j l)

pub told : (n : ℕ) (kind : ℕ → Kind) → AreToldByFirsts n kind
told n kind = record {
  some = λ i lt h.
      let parts : (is_free (kind i) ≡ true) × (follows_free kind i ≡ false) = begins_parts n kind i h in
      from n kind i parts.1 n i (omega arith) lt (omega arith) (λ l lo hi. let e : l ≡ i = omega arith in subst (λ z. is_free (kind z) ≡ true) (sym e) parts.0);
  first = λ i j c. and_from (is_free (kind i)) (not (follows_free kind i)) (c.free i (omega arith) c.in_order) (not_from_false (follows_free kind i) c.before);
  one = λ i j l a b. one_end n kind i j l a b;
}
