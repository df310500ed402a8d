-- The least colour that no earlier one in conflict has.
use Rattle.std.proofs.Common.{◌≡◌, ◌+◌, ◌<◌, ◌≤◌, ℕ, zero, suc, Bool, true, false, ◌&&◌, nat_eq, cond, List, [], ◌∷◌, ◌++◌, length, get_or, refl, sym, ◌∙◌, subst, arith, ⊎_elim, inl, inr, ◌⊎◌}
use Rattle.std.proofs.lemmas.Bool.{cases_eq, cases_Bool, eq-eqb, eqb-true, false_from_ne_true, and_from, and_parts}
use Rattle.std.proofs.lemmas.List.{get_or_push, get_or_append_left, length_push}
use Rattle.lemmas.specs.Below.{any_below}
use Rattle.lemmas.proofs.Below.{any_from, any_witness}
use Rattle.colouring.specs.Colours.{IsLeast}

-- no less than anything in a list
total : List ℕ → ℕ
total [] = 0
total (x ∷ xs) = x + total xs

at_most_total : (xs : List ℕ) (k : ℕ) → get_or xs k 0 ≤ total xs
unfolding total
at_most_total [] k = omega arith
at_most_total (x ∷ xs) zero = omega arith
at_most_total (x ∷ xs) (suc k) = let h = at_most_total xs k in omega arith

module _ (t : ℕ → ℕ → Bool) where
  -- an earlier one in conflict has the colour
  taken : List ℕ → ℕ → ℕ → Bool
  taken cs n c = any_below n (λ q. t q n && nat_eq (get_or cs q 0) c)

  -- the first of so many colours from c on that isn't taken, or the next
  free_from : ℕ → List ℕ → ℕ → ℕ → ℕ
  free_from zero cs n c = c
  free_from (suc f) cs n c = cond (taken cs n c) (free_from f cs n (suc c)) c

  record IsFree (f : ℕ) (cs : List ℕ) (n c d : ℕ) : Type 0 where
    low : c ≤ d
    all_taken : (e : ℕ) → c ≤ e → e < d → taken cs n e ≡ true
    free : (taken cs n d ≡ false) ⊎ (d ≡ f + c)

  free_is : (f : ℕ) (cs : List ℕ) (n c : ℕ) → IsFree f cs n c (free_from f cs n c)
  unfolding free_from
  free_is zero cs n c = record { low = omega arith; all_taken = λ e l m. absurd (omega arith); free = inr (omega arith) }
  free_is (suc f) cs n c = ⊎_elim
      (λ (h : taken cs n c ≡ true). subst (λ z. IsFree (suc f) cs n c (cond z (free_from f cs n (suc c)) c)) (sym h) (more h (free_is f cs n (suc c))))
      (λ (h : taken cs n c ≡ false). subst (λ z. IsFree (suc f) cs n c (cond z (free_from f cs n (suc c)) c)) (sym h)
      (record { low = omega arith; all_taken = λ e l m. absurd (omega arith); free = inl h }))
      (cases_Bool (taken cs n c))
    where
      more : taken cs n c ≡ true → IsFree f cs n (suc c) (free_from f cs n (suc c)) → IsFree (suc f) cs n c (free_from f cs n (suc c))
      more h i = record {
        low = (let l = i.low in omega arith);
        all_taken = λ e l m. ⊎_elim
            (λ (q : e ≡ c). subst (λ z. taken cs n z ≡ true) (sym q) h)
            (λ (q : e ≡ c → ⊥). i.all_taken e (omega arith) m)
            (cases_eq e c);
        free = ⊎_elim (λ (q : taken cs n (free_from f cs n (suc c)) ≡ false). inl q) (λ (q : free_from f cs n (suc c) ≡ f + suc c). inr (omega arith)) i.free;
      }

  -- the least that isn't taken
  free_colour : ℕ → List ℕ → ℕ
  free_colour n cs = free_from (suc (total cs)) cs n 0

  free_not_taken : (n : ℕ) (cs : List ℕ) → taken cs n (free_colour n cs) ≡ false
  unfolding free_colour taken
  free_not_taken n cs = ⊎_elim
      (λ (q : taken cs n (free_from (suc (total cs)) cs n 0) ≡ false). q)
      (λ (q : free_from (suc (total cs)) cs n 0 ≡ suc (total cs) + 0). false_from_ne_true (taken cs n (free_from (suc (total cs)) cs n 0)) (λ h. past q h))
      (free_is (suc (total cs)) cs n 0).free
    where
      past : free_from (suc (total cs)) cs n 0 ≡ suc (total cs) + 0 → taken cs n (free_from (suc (total cs)) cs n 0) ≡ true → ⊥
      past q h =
          let w = any_witness n (λ q. t q n && nat_eq (get_or cs q 0) (free_from (suc (total cs)) cs n 0)) h in
          let e = eqb-true (get_or cs w.0 0) (free_from (suc (total cs)) cs n 0) (and_parts (t w.0 n) (nat_eq (get_or cs w.0 0) (free_from (suc (total cs)) cs n 0)) w.2).1 in
          let m = at_most_total cs w.0 in
          omega arith

  -- ---- colours in turn

  pub colours : ℕ → List ℕ
  colours zero = []
  colours (suc n) = colours n ++ (free_colour n (colours n) ∷ [])

  colour : ℕ → ℕ
  colour n = free_colour n (colours n)

  pub length_colours : (n : ℕ) → length (colours n) ≡ n
  unfolding colours
  length_colours zero = refl
  length_colours (suc n) = let e = length_push (colours n) (free_colour n (colours n)) in let h = length_colours n in omega arith

  colours_at : (n p : ℕ) → p < n → get_or (colours n) p 0 ≡ colour p
  unfolding colours colour
  colours_at zero p l = absurd (omega arith)
  colours_at (suc n) p l = ⊎_elim
      (λ (e : p ≡ n). subst (λ z. get_or (colours n ++ (free_colour n (colours n) ∷ [])) z 0 ≡ free_colour z (colours z)) (sym e)
      (get_or_push (colours n) (free_colour n (colours n)) 0 n (length_colours n)))
      (λ (e : p ≡ n → ⊥). get_or_append_left (colours n) (free_colour n (colours n) ∷ []) 0 p (let h = length_colours n in omega arith) ∙ colours_at n p (omega arith))
      (cases_eq p n)

  module _ (C : ℕ → ℕ → Type 0) (n : ℕ) (right : (q p : ℕ) → p < n → (t q p ≡ true → C q p) × (C q p → t q p ≡ true)) where
    pub least : (p : ℕ) → p < n → IsLeast C (colours n) p
    unfolding colour free_colour taken
    least p l = record {
      free = λ q lq c e. (
          let same : get_or (colours p) q 0 ≡ colour p = colours_at p q lq ∙ (sym (colours_at n q (omega arith)) ∙ (e ∙ colours_at n p l)) in
          let hit = and_from (t q p) (nat_eq (get_or (colours p) q 0) (colour p)) ((right q p l).1 c) (eq-eqb (get_or (colours p) q 0) (colour p) same) in
          let yes : taken (colours p) p (colour p) ≡ true = any_from p (λ q. t q p && nat_eq (get_or (colours p) q 0) (colour p)) q lq hit in
          let no : taken (colours p) p (colour p) ≡ false = free_not_taken p (colours p) in
          let bad : true ≡ false = sym yes ∙ no in cc);
      taken = λ c lc. (
          let m : c < colour p = subst (λ z. c < z) (colours_at n p l) lc in
          let w = any_witness p (λ q. t q p && nat_eq (get_or (colours p) q 0) c) ((free_is (suc (total (colours p))) (colours p) p 0).all_taken c (omega arith) m) in
          let h = and_parts (t w.0 p) (nat_eq (get_or (colours p) w.0 0) c) w.2 in
          (w.0, w.1, (right w.0 p l).0 h.0, colours_at n w.0 (let lw = w.1 in omega arith) ∙ (sym (colours_at p w.0 w.1) ∙ eqb-true (get_or (colours p) w.0 0) c h.1)));
    }
