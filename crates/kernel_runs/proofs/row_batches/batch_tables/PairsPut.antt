-- Pairs of ways, put down one after another.
use Rattle.std.proofs.Common.{◌≡◌, ◌<◌, ◌+◌, ◌⊎◌, inl, inr, ℕ, true, false, List, length, get_or, set, get_or-set_other, get_or-set_same, sym, ◌∙◌, subst, ⊎_elim, arith}
use Rattle.std.specs.Prelude.{slice_index}
use Rattle.std.proofs.lemmas.Bool.{cases_eq, false≢true}
use Rattle.std.proofs.lemmas.List.{length-set}
use Rattle.bound_program.specs.declared.sites.Arg.{Arg}
use Rattle.kernel_runs.specs.Alike.{arg_in, may_meet}
use Rattle.kernel_runs.specs.Tables.{ArePairs, no_pair}

module _ (args : List Arg) (numbers : List ℕ) (pairs : List (ℕ × ℕ)) (n m count : ℕ) (before : ArePairs args numbers pairs n m count) where
  abbrev Found : List (ℕ × ℕ) → (a b k : ℕ) → Type 0
  Found list a b k = (i : ℕ) × (i < k) × (get_or list i no_pair ≡ (slice_index numbers a, slice_index numbers b))

  -- what stands before one more, which is of the next
  of_next : (P : (a b : ℕ) → Type 0) → ((a b : ℕ) → (a < n) ⊎ ((a ≡ n) × (b < m)) → b < a → may_meet (arg_in args a) (arg_in args b) ≡ true → P a b)
      → (m < n → may_meet (arg_in args n) (arg_in args m) ≡ true → P n m)
      → (a b : ℕ) → (a < n) ⊎ ((a ≡ n) × (b < m + 1)) → b < a → may_meet (arg_in args a) (arg_in args b) ≡ true → P a b
  of_next P old new a b at lt meet = ⊎_elim
      (λ (l : a < n). old a b (inl l) lt meet)
      (λ (e : (a ≡ n) × (b < m + 1)). ⊎_elim
      (λ (same : b ≡ m). subst (λ k. P k b) (sym e.0) (subst (λ k. P n k) (sym same)
      (new (let t = e.0 in omega (arith, t, same, lt)) (subst (λ k. may_meet (arg_in args n) (arg_in args k) ≡ true) same (subst (λ k. may_meet (arg_in args k) (arg_in args b) ≡ true) e.0 meet)))))
      (λ (ne : b ≡ m → ⊥). old a b (inr (e.0, (let l = e.1 in omega (arith, l, ne)))) lt meet)
      (cases_eq b m))
      at

  pub skipped : may_meet (arg_in args n) (arg_in args m) ≡ false → ArePairs args numbers pairs n (m + 1) count
  skipped not = record {
    few = before.few;
    whole = before.whole;
    all = of_next (λ a b. Found pairs a b count) before.all (λ l meet. absurd (false≢true (sym not ∙ meet)));
  }

  pub one_more : n < length args → m < n → count < length pairs → (pair : ℕ × ℕ) → pair ≡ (slice_index numbers n, slice_index numbers m)
      → ArePairs args numbers (set pairs count pair) n (m + 1) (count + 1)
  one_more there below room pair is =
      let same : get_or (set pairs count pair) count no_pair ≡ (slice_index numbers n, slice_index numbers m) =
      get_or-set_same pairs count pair no_pair room ∙ is in
      record {
        few = (let long = length-set pairs count pair in omega (arith, long, room));
        whole = λ i lt. ⊎_elim
            (λ (e : i ≡ count). (n, m, there, omega (arith, there, below), subst (λ k. get_or (set pairs count pair) k no_pair ≡ (slice_index numbers n, slice_index numbers m)) (sym e) same))
            (λ (ne : i ≡ count → ⊥).
            let old = before.whole i (omega (arith, lt, ne)) in
            (old.0, old.1, old.2, old.3, get_or-set_other pairs count i pair no_pair ne ∙ old.4))
            (cases_eq i count);
        all = of_next (λ a b. Found (set pairs count pair) a b (count + 1))
            (λ a b at lt meet.
            let old = before.all a b at lt meet in
            (old.0, (let l = old.1 in omega (arith, l)), get_or-set_other pairs count old.0 pair no_pair (λ e. let l = old.1 in omega (arith, l, e)) ∙ old.2))
            (λ l meet. (count, omega arith, same));
      }

-- the pairs of an argument with all before it are done
pub next_argument : (args : List Arg) (numbers : List ℕ) (pairs : List (ℕ × ℕ)) (n count : ℕ) → ArePairs args numbers pairs n n count
    → ArePairs args numbers pairs (n + 1) 0 count
next_argument args numbers pairs n count before = record {
  few = before.few;
  whole = before.whole;
  all = λ a b at lt. before.all a b (⊎_elim
      (λ (l : a < n + 1). ⊎_elim
      (λ (e : a ≡ n). inr (e, omega (arith, lt, e)))
      (λ (ne : a ≡ n → ⊥). inl (omega (arith, l, ne)))
      (cases_eq a n))
      (λ (e : (a ≡ n + 1) × (b < 0)). let l = e.1 in absurd (omega (arith, l)))
      at) lt;
}
