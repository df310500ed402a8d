-- One more entry of a map, in the counts and the rows of the owners that name each element.
use Rattle.std.proofs.Common.{◌≡◌, ℕ, zero, suc, ◌+◌, ◌*◌, ◌<◌, ◌≤◌, ◌/◌, ◌%◌, Bool, true, false, cond, List, [], ◌∷◌, ◌++◌, length, get_or, set, sym, subst, ap, ◌∙◌, arith, add-one, get_or-set_same, get_or-set_other, append-nil, ⊎_elim}
use Rattle.std.proofs.lemmas.Bool.{cases_Bool, cases_eq, eq-eqb, ne_eqb}
use Rattle.std.proofs.lemmas.Nat.{div-mul-add, mod-mul-add}
use Rattle.std.proofs.Math.Nat.{mul-le-mul_right}
use Rattle.mesh_decl.specs.Mesh.{MeshValue, map_dim, target}
use Rattle.lemmas.specs.Below.{count_below}
use Rattle.lemmas.proofs.Below.{count_more}
use Rattle.partition.specs.Elected.{names, gathered}

pub count_most : (n : ℕ) (p : ℕ → Bool) → count_below n p ≤ n
count_most zero p = omega arith
count_most (suc n) p =
    let h = count_most n p in
    ⊎_elim
    (λ (e : p n ≡ true). rw e (omega (arith, h)))
    (λ (e : p n ≡ false). rw e (omega (arith, h)))
    (cases_Bool (p n))

-- the entry of an element at a place is one of the map's
pub entry_before : (x d i n : ℕ) → x < n → i < d → x * d + i < n * d
entry_before x d i n lx li =
    let a : (x + 1) * d ≤ n * d = mul-le-mul_right {m = x + 1} {n = n} d (omega arith) in
    omega (arith, a)

-- how many entries come before that of an element at a place fits 64 bits
pub entry_fits : (x d i n : ℕ) → x < 4294967296 → d < 4294967296 → i < d → n ≤ x * d + i → n + 1 < 18446744073709551616
entry_fits x d i n lx ld li l =
    let a : (x + 1) * d ≤ 4294967296 * d = mul-le-mul_right {m = x + 1} {n = 4294967296} d (omega arith) in
    omega (arith, a)

-- the entry of an element at a place
pub entry_target : (g : MeshValue) (m x i t : ℕ) → i < map_dim g m → t ≡ target g m x i → t ≡ target g m ((x * map_dim g m + i) / map_dim g m) ((x * map_dim g m + i) % map_dim g m)
entry_target g m x i t l h = rw (div-mul-add x (map_dim g m) i l, mod-mul-add x (map_dim g m) i l) h

module _ (g : MeshValue) (m e t : ℕ) (is : t ≡ target g m (e / map_dim g m) (e % map_dim g m)) where
  pub it_names : names g m t e ≡ true
  unfolding names
  it_names = eq-eqb _ t (sym is)

  no_other : (y : ℕ) → (y ≡ t → ⊥) → names g m y e ≡ false
  unfolding names
  no_other y n = ne_eqb _ y (λ z. n (sym (is ∙ z)))

  -- the count of what is named grows
  pub naming_counted : (counts : List ℕ) (v y : ℕ)
      → t < length counts
      → v ≡ count_below e (names g m t)
      → get_or counts y 0 ≡ count_below e (names g m y)
      → get_or (set counts t (v + 1)) y 0 ≡ count_below (e + 1) (names g m y)
  naming_counted counts v y l at h = ⊎_elim
      (λ (s : y ≡ t). subst (λ z. get_or (set counts t (v + 1)) z 0 ≡ count_below (e + 1) (names g m z)) (sym s)
      (get_or-set_same counts t (v + 1) 0 l
      ∙ (ap (λ (n : ℕ). n + 1) at ∙ sym (count_more e (names g m t) ∙ ap (λ b. count_below e (names g m t) + cond b 1 0) it_names))))
      (λ (n : y ≡ t → ⊥).
      get_or-set_other counts t y (v + 1) 0 n
      ∙ (h ∙ sym (count_more e (names g m y) ∙ (ap (λ b. count_below e (names g m y) + cond b 1 0) (no_other y n) ∙ omega arith))))
      (cases_eq y t)

  -- the row of what is named gets one more
  pub naming_rowed : (f : ℕ → ℕ) (o : ℕ) (rows : List (List ℕ)) (y : ℕ)
      → o ≡ f e
      → t < length rows
      → get_or rows t [] ≡ gathered e (names g m t) f
      → get_or rows y [] ≡ gathered e (names g m y) f
      → get_or (set rows t (get_or rows t [] ++ o ∷ [])) y [] ≡ gathered (e + 1) (names g m y) f
  naming_rowed f o rows y k l at h = rw add-one (⊎_elim
      (λ (s : y ≡ t). subst (λ z. get_or (set rows t (get_or rows t [] ++ o ∷ [])) z [] ≡ gathered (suc e) (names g m z) f) (sym s)
      (get_or-set_same rows t (get_or rows t [] ++ o ∷ []) [] l
      ∙ (ap (λ (z : List ℕ). z ++ o ∷ []) at
      ∙ (ap (λ (z : ℕ). gathered e (names g m t) f ++ z ∷ []) k ∙ sym (ap (λ b. gathered e (names g m t) f ++ cond b (f e ∷ []) []) it_names)))))
      (λ (n : y ≡ t → ⊥).
      get_or-set_other rows t y (get_or rows t [] ++ o ∷ []) [] n
      ∙ (h
      ∙ sym (ap (λ b. gathered e (names g m y) f ++ cond b (f e ∷ []) []) (no_other y n) ∙ append-nil (gathered e (names g m y) f))))
      (cases_eq y t))
