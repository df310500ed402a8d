-- By growth each element has one owner.
use Rattle.std.proofs.Common.{◌≡◌, ◌≢◌, ℕ, zero, suc, ◌<◌, ◌≤◌, Bool, true, false, List, [], ◌∷◌, length, take, drop, get_or, eqb, refl, sym, ap, ◌∙◌, arith, ⊎_elim, subst}
use Rattle.std.specs.List.{Contains, AllByRecursion, IsDistinct, list_any}
use Rattle.std.proofs.lemmas.Bool.{cases_Bool, eqb-true, eq-eqb, ne_eqb, false≢true}
use Rattle.std.proofs.lemmas.List.{get_or_default}
use Rattle.std.proofs.lemmas.List.Folds.{list_any_at}
use Rattle.std.proofs.lemmas.Map.Steps.{length-le_from_distinct_below}
use Rattle.std.proofs.lemmas.Map.Views.{Contains-from_any}
use Rattle.std.proofs.Math.Nat.{mul-div_cancel_left}
use Rattle.renumber.proofs.Public.{one_order, in_front}
use Rattle.partition.specs.Block.{block_start, InBlock}
use Rattle.partition.specs.Grow.{IsNextFree, AreNextFree, IsGrown}
use Rattle.partition.proofs.Giving.{in_some_block}

-- ---- n different numbers below n are all of these

none_is : (y : ℕ) (xs : List ℕ) → ((j : ℕ) → j < length xs → get_or xs j 0 ≢ y) → AllByRecursion (λ z. eqb y z ≡ false) xs
none_is y [] h = tt
none_is y (x ∷ xs) h = (ne_eqb y x (λ e. h zero (omega arith) (sym e)), none_is y xs (λ j l. h (suc j) (omega arith)))

all_distinct : (xs : List ℕ) → ((i j : ℕ) → i < j → j < length xs → get_or xs i 0 ≢ get_or xs j 0) → IsDistinct eqb xs
unfolding IsDistinct
all_distinct [] h = tt
all_distinct (x ∷ xs) h = (none_is x xs (λ j l e. h zero (suc j) (omega arith) (omega arith) (sym e)), all_distinct xs (λ i j m l. h (suc i) (suc j) (omega arith) (omega arith)))

has_any : (q : ℕ) (xs : List ℕ) → list_any (eqb q) xs ≡ true → (j : ℕ) × (j < length xs) × (get_or xs j 0 ≡ q)
has_any q xs e = let c : Contains xs q = Contains-from_any eqb-true q xs e in (c.0, c.1, get_or_default xs c.0 0 q c.1 ∙ c.2)

pub fills : (n : ℕ) (xs : List ℕ) → length xs ≡ n → ((k : ℕ) → k < n → get_or xs k 0 < n)
    → ((i j : ℕ) → i < j → j < length xs → get_or xs i 0 ≢ get_or xs j 0) → (y : ℕ) → y < n → (k : ℕ) × (k < n) × (get_or xs k 0 ≡ y)
unfolding IsDistinct
fills n xs len within apart y ly = ⊎_elim
    (λ (e : list_any (eqb y) xs ≡ true). let c = has_any y xs e in (c.0, omega (arith, c.1), c.2))
    (λ (e : list_any (eqb y) xs ≡ false).
    let absent : (j : ℕ) → j < length xs → get_or xs j 0 ≢ y = λ j l q. false≢true (sym e ∙ list_any_at (eqb y) xs j 0 l (eq-eqb y (get_or xs j 0) (sym q))) in
    let distinct : IsDistinct eqb (y ∷ xs) = (none_is y xs absent, all_distinct xs apart) in
    let few : length (y ∷ xs) ≤ n = length-le_from_distinct_below (y ∷ xs) n distinct (λ q h. (let c = has_any q (y ∷ xs) h in below c.0 q c.1 c.2)) in
    let more : length (y ∷ xs) ≡ suc (length xs) = refl in
    absurd (omega (arith, len)))
    (cases_Bool (list_any (eqb y) xs))
  where
    below : (j q : ℕ) → j < length (y ∷ xs) → get_or (y ∷ xs) j 0 ≡ q → q < n
    below zero q l e = subst (λ z. z < n) e ly
    below (suc j) q l e = subst (λ z. z < n) e (within j (omega (arith, len)))

-- ---- one order of growth

one_free : (n : ℕ) (near : ℕ → ℕ → Bool) (gone mine : List ℕ) (x y : ℕ) → IsNextFree n near gone mine x → IsNextFree n near gone mine y → x ≡ y
one_free n near gone mine x y p q = ⊎_elim
    (λ h. ⊎_elim (λ m. absurd (omega arith)) (λ m. absurd (omega (arith, m.0))) (q.least x p.within p.new))
    (λ h. ⊎_elim (λ m. absurd (omega (arith, h.0))) (λ m. omega (arith, h.1, m.1)) (q.least x p.within p.new))
    (p.least y q.within q.new)

module _ (n ranks : ℕ) (near : ℕ → ℕ → Bool) (some : 0 < ranks) where
  block_at : (k : ℕ) → k < n → (i : ℕ) × InBlock n ranks i k
  block_at k l = in_some_block n ranks ranks k (rw (all_before n) l)
    where
      all_before : (m : ℕ) → block_start m ranks ranks ≡ m
      all_before m = mul-div_cancel_left m some

  -- what comes next at place k
  abbrev Next : ℕ → List ℕ → ℕ → Type 0
  Next k xs z = (k < n) × ((i : ℕ) → InBlock n ranks i k → IsNextFree n near xs (drop (block_start n ranks i) xs) z)

  one_next : (k : ℕ) (xs : List ℕ) (x y : ℕ) → Next k xs x → Next k xs y → x ≡ y
  one_next k xs x y p q =
      let b = block_at k p.0 in
      one_free n near xs (drop (block_start n ranks b.0) xs) x y (p.1 b.0 b.1) (q.1 b.0 b.1)

  order_next : (order : List ℕ) → length order ≡ n → AreNextFree n ranks near order → (k : ℕ) → k < length order → Next k (take k order) (get_or order k 0)
  order_next order e next k l = (omega arith, λ i b. next k i l b)

  in_order : (order : List ℕ) → length order ≡ n → AreNextFree n ranks near order → (x : ℕ) → x < n → (k : ℕ) × (k < n) × (get_or order k 0 ≡ x)
  in_order order e next = fills n order e
      (λ k l. let b = block_at k l in (next k b.0 (omega arith) b.1).within)
      (λ i j m l q. (let b = block_at j (omega arith) in (next j b.0 l b.1).new (subst (λ z. Contains (take j order) z) q (in_front order j i (omega arith) m))))

  pub one_growth : (a b : ℕ → ℕ) → IsGrown n ranks near a → IsGrown n ranks near b → (x : ℕ) → x < n → a x ≡ b x
  one_growth a b h k x l =
      let same : h.order ≡ k.order = one_order Next one_next h.order k.order (h.all ∙ sym k.all) (order_next h.order h.all h.next) (order_next k.order k.all k.next) in
      let w = in_order h.order h.all h.next x l in
      let i = block_at w.0 w.1 in
      let e : get_or k.order w.0 0 ≡ x = ap (λ (z : List ℕ). get_or z w.0 0) (sym same) ∙ w.2 in
      ap a (sym w.2) ∙ (h.owners w.0 i.0 w.1 i.1 ∙ (sym (k.owners w.0 i.0 w.1 i.1) ∙ ap b e))
