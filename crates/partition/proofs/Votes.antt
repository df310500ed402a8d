-- Which ranks have votes in a list.
use Rattle.std.proofs.Common.{◌≡◌, ℕ, zero, suc, ◌+◌, ◌<◌, ◌≤◌, ◌⊎◌, inl, inr, cond, nat_eq, count_by, replicate, List, [], ◌∷◌, length, get_or, refl, ap, subst, ◌∙◌, arith, ⊎_elim}
use Rattle.std.proofs.lemmas.Bool.{cases_eq, cases_lt, eq-eqb, ne_eqb}
use Rattle.std.proofs.lemmas.List.Sums.{sum_by-append}
use Rattle.partition.specs.Elected.{IsElected}

-- how often a rank stands in the list
abbrev pub count : List ℕ → ℕ → ℕ
count xs r = count_by (λ x. nat_eq x r) xs

-- the rank stands in the list at a place from i on
abbrev pub StandsFrom : ℕ → List ℕ → ℕ → Type 0
StandsFrom i xs r = (k : ℕ) × (i < k + 1) × (k < length xs) × (get_or xs k 0 ≡ r)

-- a rank without a vote, or one that stands in the list
pub votes_stand : (xs : List ℕ) (r : ℕ) → (count xs r ≡ 0) ⊎ StandsFrom 0 xs r
votes_stand [] r = inl refl
votes_stand (x ∷ xs) r = ⊎_elim
    (λ (e : x ≡ r). inr (0, omega arith, omega arith, e))
    (λ (n : x ≡ r → ⊥). ⊎_elim
    (λ (z : count xs r ≡ 0). inl (rw (ne_eqb x r n, z) refl))
    (λ (s : StandsFrom 0 xs r). inr (suc s.0, omega arith, (let l = s.2 in omega (arith, l)), s.3))
    (votes_stand xs r))
    (cases_eq x r)

count_cons : (x r : ℕ) (xs : List ℕ) → count (x ∷ xs) r ≡ cond (nat_eq x r) 1 0 + count xs r
count_cons x r xs = sum_by-append (λ y. cond (nat_eq y r) 1 0) (x ∷ []) xs ∙ omega arith

-- one that stands has a vote
stands_voted : (xs : List ℕ) (k : ℕ) → k < length xs → 0 < count xs (get_or xs k 0)
stands_voted [] k l = absurd (omega (arith, l))
stands_voted (x ∷ xs) zero l = rw (count_cons x x xs, eq-eqb x x refl) (omega arith)
stands_voted (x ∷ xs) (suc k) l =
    let h = stands_voted xs k (omega (arith, l)) in
    let e = count_cons x (get_or xs k 0) xs in
    omega (arith, h, e)

-- no vote anywhere
pub zeros : (n r : ℕ) → ◌≡◌ {A = ℕ} (get_or (replicate n 0) r 0) 0
zeros zero r = refl
zeros (suc n) zero = refl
zeros (suc n) (suc r) = zeros n r

-- one that stands in the list and has the most votes of those that do, the lowest of several, is elected
pub elected_by : (n : ℕ) (xs votes : List ℕ) (r : ℕ)
    → ((k : ℕ) → k < length xs → get_or xs k 0 < n)
    → ((q : ℕ) → q < n → get_or votes q 0 ≡ count xs q)
    → (k : ℕ) × (k < length xs) × (get_or xs k 0 ≡ r)
    → ((k : ℕ) → k < length xs → get_or votes (get_or xs k 0) 0 ≤ get_or votes r 0)
    → ((k : ℕ) → k < length xs → get_or votes (get_or xs k 0) 0 ≡ get_or votes r 0 → r ≤ get_or xs k 0)
    → IsElected n (count xs) r
elected_by n xs votes r below counted s most lowest = record {
  within = within;
  most = λ q l. ⊎_elim (λ (z : count xs q ≡ 0). omega (arith, z)) (λ t. at_most q l t) (votes_stand xs q);
  first = λ q l. ⊎_elim (λ (z : count xs q ≡ 0). omega (arith, z, some)) (λ t. fewer q l t) (votes_stand xs q);
}
  where
    within : r < n
    within = subst (λ z. z < n) s.2 (below s.0 s.1)

    some : 0 < count xs r
    some = subst (λ z. 0 < count xs z) s.2 (stands_voted xs s.0 s.1)

    at_most : (q : ℕ) → q < n → StandsFrom 0 xs q → count xs q ≤ count xs r
    at_most q l t =
        let a : get_or votes q 0 ≤ get_or votes r 0 = subst (λ z. get_or votes z 0 ≤ get_or votes r 0) t.3 (most t.0 t.2) in
        omega (arith, a, counted q l, counted r within)

    fewer : (q : ℕ) → q < r → StandsFrom 0 xs q → count xs q < count xs r
    fewer q l t =
        let lq : q < n = omega (arith, l, within) in
        let a : count xs q ≤ count xs r = at_most q lq t in
        ⊎_elim
        (λ (h : count xs q < count xs r). h)
        (λ (h : count xs r ≤ count xs q).
        let e : get_or votes q 0 ≡ get_or votes r 0 = omega (arith, a, h, counted q lq, counted r within) in
        let f : get_or votes (get_or xs t.0 0) 0 ≡ get_or votes r 0 = ap (λ z. get_or votes z 0) t.3 ∙ e in
        let b : r ≤ q = subst (λ z. r ≤ z) t.3 (lowest t.0 t.2 f) in
        absurd (omega (arith, b, l)))
        (cases_lt (count xs q) (count xs r))
