-- Whether an element is among a rank's own.
use Rattle.std.proofs.Common.{◌≡◌, ◌≢◌, ℕ, zero, suc, ◌<◌, ◌≤◌, true, false, sym, subst, ◌∙◌, arith, ⊎_elim, List, [], ◌∷◌, length, get_or, take, nat_eq, min}
use Rattle.std.specs.Prelude.{nat_lt}
use Rattle.std.specs.List.{list_any}
use Rattle.std.proofs.lemmas.Bool.{cases_lt, false≢true, false_from_ne_true, eq-eqb, eqb-true, or_cases, or_left, or_right, lt-ltb, le-ltb}
use Rattle.std.proofs.lemmas.List.{get_or-take, length-take}
use Rattle.schedule_check.specs.Mail.{is_among}

any_index : (xs : List ℕ) (x : ℕ) → list_any (nat_eq x) xs ≡ true → (i : ℕ) × (i < length xs) × (x ≡ get_or xs i 0)
any_index [] x h = absurd (false≢true h)
any_index (y ∷ xs) x h = ⊎_elim
    (λ (e : nat_eq x y ≡ true). (0, omega arith, eqb-true x y e))
    (λ (e : list_any (nat_eq x) xs ≡ true). (let r : (i : ℕ) × (i < length xs) × (x ≡ get_or xs i 0) = any_index xs x e in (suc r.0, (let l : r.0 < length xs = r.1 in omega arith), r.2)))
    (or_cases (nat_eq x y) (list_any (nat_eq x) xs) h)

any_at : (xs : List ℕ) (x i : ℕ) → i < length xs → x ≡ get_or xs i 0 → list_any (nat_eq x) xs ≡ true
any_at [] x i l e = absurd (omega arith)
any_at (y ∷ xs) x zero l e = or_left (nat_eq x y) (list_any (nat_eq x) xs) (eq-eqb x y e)
any_at (y ∷ xs) x (suc i) l e = or_right (nat_eq x y) (list_any (nat_eq x) xs) (any_at xs x i (omega arith) e)

module _ (own : ℕ) (xs : List ℕ) (x : ℕ) where
  -- where it stands among the own elements
  own_index : is_among own xs x ≡ true → (i : ℕ) × (i < own) × (i < length xs) × (x ≡ get_or xs i 0)
  own_index h =
      let r : (i : ℕ) × (i < length (take own xs)) × (x ≡ get_or (take own xs) i 0) = any_index (take own xs) x h in
      let l : r.0 < min own (length xs) = subst (λ z. r.0 < z) (length-take own xs) r.1 in
      (r.0, omega arith, omega arith, r.2 ∙ get_or-take own xs r.0 0 (omega arith))

  pub among_some : ((j k : ℕ) → j < k → k < length xs → get_or xs j 0 ≢ get_or xs k 0) → (l : ℕ) → l < length xs → get_or xs l 0 ≡ x → nat_lt l own ≡ is_among own xs x
  among_some apart l lt e = ⊎_elim
      (λ (i : l < own). lt-ltb l own i ∙ sym (any_at (take own xs) x l (subst (λ z. l < z) (sym (length-take own xs)) (omega arith)) (sym e ∙ sym (get_or-take own xs l 0 i))))
      (λ (g : own ≤ l). le-ltb l own g ∙ sym (false_from_ne_true (is_among own xs x) (λ h.
      let r : (i : ℕ) × (i < own) × (i < length xs) × (x ≡ get_or xs i 0) = own_index h in
      let less : r.0 < l = (let a : r.0 < own = r.1 in omega arith) in
      apart r.0 l less lt (sym r.3 ∙ sym e))))
      (cases_lt l own)

  pub among_none : ((k : ℕ) → k < length xs → get_or xs k 0 ≢ x) → false ≡ is_among own xs x
  among_none none = sym (false_from_ne_true (is_among own xs x) (λ h.
      let r : (i : ℕ) × (i < own) × (i < length xs) × (x ≡ get_or xs i 0) = own_index h in none r.0 r.2 (sym r.3)))
