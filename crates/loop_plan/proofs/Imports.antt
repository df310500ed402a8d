-- A rank imports from another an element that the other owns.
use Rattle.std.proofs.Common.{◌≡◌, ◌<◌, ◌≤◌, ◌+◌, ◌-◌, ℕ, Bool, true, false, sym, ap, subst, ◌∙◌, arith, ⊎_elim, List, length, get_or, take, drop}
use Rattle.std.specs.Prelude.{◌||◌, nat_eq, Contains}
use Rattle.std.specs.List.{list_any}
use Rattle.std.proofs.lemmas.Bool.{cases_Bool, cases_lt, false≢true, or_cases, or_right, or_left, eqb-true, eq-eqb}
use Rattle.std.proofs.lemmas.List.{get_or-take, get_or-drop, length-take-le, length-drop}
use Rattle.std.proofs.lemmas.List.Folds.{list_any_at}
use Rattle.lemmas.proofs.Below.{count_lt}
use Rattle.mesh_decl.specs.Owners.{IsNumbering}
use Rattle.local_mesh.specs.Local.{earlier, local_number, AreInverse}
use Rattle.local_mesh.proofs.Public.{number_below, number_copied, number_contains}
use Rattle.lemmas.proofs.Lists.{any_at, contains_at}

module _ (n : ℕ) (perm : List ℕ) (p q r : ℕ → Bool) (original : List ℕ) (perms : IsNumbering n perm) (inv : AreInverse n (λ j. get_or perm j 0) p q r original) where
  abbrev order : ℕ → ℕ
  order j = get_or perm j 0

  abbrev own : ℕ
  own = earlier order p n

  own_number : (j : ℕ) → j < n → p (order j) ≡ true → local_number n order p q r j < own
  unfolding local_number
  own_number j l e = rw e (count_lt j n (λ i. p (order i)) l e)

  other_number : (j : ℕ) → p (order j) ≡ false → own ≤ local_number n order p q r j
  unfolding local_number
  other_number j e = ⊎_elim
      (λ (f : q (order j) ≡ true). rw (e, f) (omega arith))
      (λ (f : q (order j) ≡ false). rw (e, f) (omega arith))
      (cases_Bool (q (order j)))

  own_at : (k : ℕ) → k < own → k < length original → p (get_or original k 0) ≡ true
  own_at k l lk =
      let a = inv.numbered k lk in
      ⊎_elim
      (λ (e : p (order a.0) ≡ true). ap p a.3 ∙ e)
      (λ (e : p (order a.0) ≡ false). let h : own ≤ local_number n order p q r a.0 = other_number a.0 e in let i : local_number n order p q r a.0 ≡ k = a.4 in absurd (omega arith))
      (cases_Bool (p (order a.0)))

  other_at : (k : ℕ) → own ≤ k → k < length original → p (get_or original k 0) ≡ false
  other_at k l lk =
      let a = inv.numbered k lk in
      ⊎_elim
      (λ (e : p (order a.0) ≡ true). let h : local_number n order p q r a.0 < own = own_number a.0 a.1 e in let i : local_number n order p q r a.0 ≡ k = a.4 in absurd (omega arith))
      (λ (e : p (order a.0) ≡ false). ap p a.3 ∙ e)
      (cases_Bool (p (order a.0)))

  own_few : own ≤ length original
  own_few = let c = inv.count in omega arith

  -- what stands among the owned is owned
  pub owned_is_own : (x : ℕ) → list_any (nat_eq x) (take own original) ≡ true → p x ≡ true
  owned_is_own x h =
      let w : (k : ℕ) × (k < length (take own original)) × (nat_eq x (get_or (take own original) k 0) ≡ true) = any_at (nat_eq x) (take own original) h in
      let few : own ≤ length original = own_few in
      let len : length (take own original) ≡ own = length-take-le own original few in
      let l : w.0 < own = (let z : w.0 < length (take own original) = w.1 in omega arith) in
      let g : get_or (take own original) w.0 0 ≡ get_or original w.0 0 = get_or-take own original w.0 0 l in
      let e : x ≡ get_or original w.0 0 = eqb-true x (get_or (take own original) w.0 0) w.2 ∙ g in
      ap p e ∙ own_at w.0 l (omega arith)

  -- what is owned stands among the owned
  pub own_is_owned : (x : ℕ) → x < n → p x ≡ true → list_any (nat_eq x) (take own original) ≡ true
  own_is_owned x l h =
      let w = perms.every x l in
      let t : p (order w.0) ≡ true = ap p w.2 ∙ h in
      let k : ℕ = local_number n order p q r w.0 in
      let lk : k < own = own_number w.0 w.1 t in
      let few : own ≤ length original = own_few in
      let len : length (take own original) ≡ own = length-take-le own original few in
      let a : get_or original k 0 ≡ order w.0 = inv.at_number w.0 w.1 (or_left (p (order w.0)) (q (order w.0) || r (order w.0)) t) in
      let g : get_or (take own original) k 0 ≡ get_or original k 0 = get_or-take own original k 0 lk in
      list_any_at (nat_eq x) (take own original) k 0 (omega arith) (eq-eqb x (get_or (take own original) k 0) (sym (g ∙ (a ∙ w.2))))

  -- what stands among the imported is imported
  pub imported_is_import : (k : ℕ) → k < length (drop own original) → (q (get_or (drop own original) k 0) || r (get_or (drop own original) k 0)) ≡ true
  imported_is_import k l =
      let len : length (drop own original) ≡ length original - own = length-drop own original in
      let lk : own + k < length original = omega arith in
      let g : get_or (drop own original) k 0 ≡ get_or original (own + k) 0 = get_or-drop own original k 0 in
      subst (λ z. (q z || r z) ≡ true) (sym g)
      (⊎_elim
      (λ (e : p (get_or original (own + k) 0) ≡ true). absurd (false≢true (sym (other_at (own + k) (omega arith) lk) ∙ e)))
      (λ (e : (q (get_or original (own + k) 0) || r (get_or original (own + k) 0)) ≡ true). e)
      (or_cases (p (get_or original (own + k) 0)) (q (get_or original (own + k) 0) || r (get_or original (own + k) 0)) (number_copied n perm p q r original perms inv (own + k) lk)))

  pub imported_below : (k : ℕ) → k < length (drop own original) → get_or (drop own original) k 0 < n
  imported_below k l =
      let len : length (drop own original) ≡ length original - own = length-drop own original in
      let lk : own + k < length original = omega arith in
      subst (λ z. z < n) (sym (get_or-drop own original k 0)) (number_below n perm p q r original perms inv (own + k) lk)

  -- what is imported stands among the imported
  pub import_is_imported : (x : ℕ) (f : ℕ → Bool) → x < n → p x ≡ false → (q x || r x) ≡ true → f x ≡ true → list_any f (drop own original) ≡ true
  import_is_imported x f l np h t =
      let c : Contains original x = number_contains n perm p q r original perms inv x l (or_right (p x) (q x || r x) h) in
      let e : get_or original c.0 0 ≡ x = contains_at original x c in
      let few : own ≤ c.0 = ⊎_elim
      (λ (m : c.0 < own). absurd (false≢true (sym np ∙ (ap p (sym e) ∙ own_at c.0 m c.1))))
      (λ (m : own ≤ c.0). m)
      (cases_lt c.0 own) in
      let lc : c.0 < length original = c.1 in
      let len : length (drop own original) ≡ length original - own = length-drop own original in
      let i : own + (c.0 - own) ≡ c.0 = omega arith in
      let g : get_or (drop own original) (c.0 - own) 0 ≡ x = get_or-drop own original (c.0 - own) 0 ∙ (ap (λ z. get_or original z 0) i ∙ e) in
      list_any_at f (drop own original) (c.0 - own) 0 (omega arith) (ap f g ∙ t)
