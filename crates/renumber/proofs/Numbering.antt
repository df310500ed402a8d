-- A list of n numbers below n with each of these has each once.
use Rattle.std.proofs.Common.{◌≡◌, ℕ, zero, suc, ◌+◌, ◌-◌, ◌<◌, ◌≤◌, List, length, get_or, sym, ap, ◌∙◌, arith, ⊎_elim, ◌⊎◌}
use Rattle.std.specs.List.{Contains, remove}
use Rattle.std.proofs.lemmas.Bool.{cases_eq, cases_order}
use Rattle.std.proofs.lemmas.List.{get_or_default}
use Rattle.std.proofs.lemmas.List.Edits.{length-remove, get_or-remove_below, get_or-remove_above}
use Rattle.mesh_decl.specs.Owners.{IsNumbering}

-- what stands at another place still stands once one is removed
removed_has : (xs : List ℕ) (j k x : ℕ) → j < length xs → k < length xs → (k ≡ j → ⊥) → get_or xs k 0 ≡ x → Contains (remove xs j) x
removed_has xs j k x lj lk ne e =
    let n = length-remove xs j lj in
    ⊎_elim
    (λ (q : k ≡ j). absurd (ne q))
    (λ (o : (k < j) ⊎ (j < k)). ⊎_elim
    (λ (l : k < j).
    let m : k < length (remove xs j) = omega arith in
    (k, m, get_or_default (remove xs j) k x 0 m ∙ (get_or-remove_below xs j 0 k l lj ∙ e)))
    (λ (l : j < k).
    let i : ℕ = k - 1 in
    let s : i + 1 ≡ k = omega arith in
    let m : i < length (remove xs j) = omega arith in
    (i, m, get_or_default (remove xs j) i x 0 m ∙ (get_or-remove_above xs j 0 i (omega arith) lj ∙ (ap (λ z. get_or xs z 0) s ∙ e))))
    o)
    (cases_order k j)

-- a list with all numbers below n has at least n
covers : (n : ℕ) (xs : List ℕ) → ((y : ℕ) → y < n → Contains xs y) → n ≤ length xs
covers zero xs h = omega arith
covers (suc n) xs h =
    let c = h n (omega arith) in
    let e : get_or xs c.0 0 ≡ n = get_or_default xs c.0 0 n c.1 ∙ c.2 in
    let r : n ≤ length (remove xs c.0) = covers n (remove xs c.0) (λ y l. (
    let d = h y (omega arith) in
    let q : get_or xs d.0 0 ≡ y = get_or_default xs d.0 0 y d.1 ∙ d.2 in
    removed_has xs c.0 d.0 y c.1 d.1 (λ s. (let z : y ≡ n = sym q ∙ (ap (λ k. get_or xs k 0) s ∙ e) in omega arith)) q)) in
    omega (arith, length-remove xs c.0 c.1)

pub numbering_from : (n : ℕ) (xs : List ℕ) → length xs ≡ n → ((k : ℕ) → k < length xs → get_or xs k 0 < n) → ((y : ℕ) → y < n → Contains xs y) → IsNumbering n xs
numbering_from n xs e within h = record {
  length = e;
  within = λ i l. within i (rw e l);
  distinct = λ i j li lj q. ⊎_elim
      (λ (s : i ≡ j). s)
      (λ (s : i ≡ j → ⊥).
      let jx : j < length xs = rw e lj in
      let ix : i < length xs = rw e li in
      let c : n ≤ length (remove xs j) = covers n (remove xs j) (λ y l. (
      let d = h y l in
      let t : get_or xs d.0 0 ≡ y = get_or_default xs d.0 0 y d.1 ∙ d.2 in
      ⊎_elim
      (λ (u : d.0 ≡ j). removed_has xs j i y jx ix s (q ∙ (ap (λ k. get_or xs k 0) (sym u) ∙ t)))
      (λ (u : d.0 ≡ j → ⊥). removed_has xs j d.0 y jx d.1 u t)
      (cases_eq d.0 j))) in
      absurd (let z = length-remove xs j jx in omega arith))
      (cases_eq i j);
  every = λ x l. (let d = h x l in (d.0, rw (← e) d.1, get_or_default xs d.0 0 x d.1 ∙ d.2));
}
