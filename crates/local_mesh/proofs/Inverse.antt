-- The list of originals by group, and the local numbers.
use Rattle.std.proofs.Common.{◌≡◌, ℕ, zero, suc, ◌+◌, ◌-◌, ◌<◌, ◌≤◌, Bool, true, false, ◌||◌, cond, List, [], ◌∷◌, ◌++◌, length, get_or, map, refl, sym, ap, ◌∙◌, arith, ⊎_elim, subst, add-one, ◌*◌}
use Rattle.std.proofs.lemmas.Bool.{cases_Bool, cases_lt, cases_eq, or_left, or_right, false_from_ne_true}
use Rattle.std.proofs.lemmas.Nat.{mul-add-lt}
use Rattle.std.proofs.lemmas.List.{length-append, append-nil, map-append, get_or-map, length-map, get_or_append_left, get_or-append-add}
use Rattle.lemmas.specs.Below.{listed}
use Rattle.lemmas.proofs.Below.{length_listed, listed_at, at_listed, count_lt}
use Rattle.local_mesh.specs.Local.{ordered, earlier, local_number, AreApart, AreInverse}

pub ordered_more : (n : ℕ) (order : ℕ → ℕ) (p : ℕ → Bool) → ordered (n + 1) order p ≡ ordered n order p ++ cond (p (order n)) (order n ∷ []) []
ordered_more n order p = rw add-one refl

-- one more element in its place
pub ordered_step : (now old : List ℕ) (n : ℕ) (order : ℕ → ℕ) (p : ℕ → Bool) → old ≡ ordered n order p → now ≡ old ++ cond (p (order n)) (order n ∷ []) [] → now ≡ ordered (n + 1) order p
ordered_step now old n order p h k = k ∙ (ap (λ z. z ++ cond (p (order n)) (order n ∷ []) []) h ∙ sym (ordered_more n order p))

-- the listed new numbers, by the order
ordered_is : (n : ℕ) (order : ℕ → ℕ) (p : ℕ → Bool) → ordered n order p ≡ map order (listed n (λ j. p (order j)))
ordered_is zero order p = refl
ordered_is (suc n) order p = ⊎_elim
    (λ (e : p (order n) ≡ true). rw (e, ordered_is n order p, map-append order (listed n (λ j. p (order j))) (n ∷ [])) refl)
    (λ (e : p (order n) ≡ false). rw (e, ordered_is n order p, append-nil (listed n (λ j. p (order j)))) (append-nil (map order (listed n (λ j. p (order j))))))
    (cases_Bool (p (order n)))

pub length-ordered : (n : ℕ) (order : ℕ → ℕ) (p : ℕ → Bool) → length (ordered n order p) ≡ earlier order p n
length-ordered n order p = ap (length {A = ℕ}) (ordered_is n order p) ∙ (length-map (listed n (λ j. p (order j))) order ∙ length_listed n (λ j. p (order j)))

-- an element of the group stands at its count
ordered_at : (n j : ℕ) (order : ℕ → ℕ) (p : ℕ → Bool) → j < n → p (order j) ≡ true → get_or (ordered n order p) (earlier order p j) 0 ≡ order j
ordered_at n j order p l h =
    let q : ℕ → Bool = λ i. p (order i) in
    let b : earlier order p j < length (listed n q) = rw (length_listed n q) (count_lt j n q l h) in
    ap (λ (z : List ℕ). get_or z (earlier order p j) 0) (ordered_is n order p)
    ∙ (get_or-map order (listed n q) (earlier order p j) 0 0 b ∙ ap order (listed_at n j 0 q l h))

-- what stands at a place of a group
at_ordered : (n k : ℕ) (order : ℕ → ℕ) (p : ℕ → Bool) → k < earlier order p n → (j : ℕ) × (j < n) × (p (order j) ≡ true) × (get_or (ordered n order p) k 0 ≡ order j) × (earlier order p j ≡ k)
at_ordered n k order p l =
    let q : ℕ → Bool = λ i. p (order i) in
    let a = at_listed n k 0 q l in
    let b : k < length (listed n q) = rw (length_listed n q) l in
    (get_or (listed n q) k 0, a.0, a.1, ap (λ (z : List ℕ). get_or z k 0) (ordered_is n order p) ∙ get_or-map order (listed n q) k 0 0 b, a.2)

module _ (n : ℕ) (order : ℕ → ℕ) (p q r : ℕ → Bool) where
  -- an element of each group at its local number
  pub number_own : (j : ℕ) → p (order j) ≡ true → local_number n order p q r j ≡ earlier order p j
  unfolding local_number
  number_own j h = rw h refl

  pub number_exec : (j : ℕ) → p (order j) ≡ false → q (order j) ≡ true → local_number n order p q r j ≡ earlier order p n + earlier order q j
  unfolding local_number
  number_exec j h k = rw (h, k) refl

  number_nonexec : (j : ℕ) → p (order j) ≡ false → q (order j) ≡ false → local_number n order p q r j ≡ earlier order p n + earlier order q n + earlier order r j
  unfolding local_number
  number_nonexec j h k = rw (h, k) refl

  all : List ℕ
  all = ordered n order p ++ ordered n order q ++ ordered n order r

  length_all : length all ≡ earlier order p n + earlier order q n + earlier order r n
  unfolding all
  length_all = length-append (ordered n order p ++ ordered n order q) (ordered n order r)
      ∙ (ap (λ z. z + length (ordered n order r)) (length-append (ordered n order p) (ordered n order q))
      ∙ ap (λ z. z) (let a = length-ordered n order p in let b = length-ordered n order q in let c = length-ordered n order r in
      let e : length (ordered n order p) + length (ordered n order q) + length (ordered n order r) ≡ earlier order p n + earlier order q
      n + earlier order r n = omega arith in e))

  in_own : (k : ℕ) → k < earlier order p n → get_or all k 0 ≡ get_or (ordered n order p) k 0
  unfolding all
  in_own k l =
      let a = length-ordered n order p in
      let la : k < length (ordered n order p) = omega arith in
      let e = length-append (ordered n order p) (ordered n order q) in
      let lb : k < length (ordered n order p ++ ordered n order q) = omega arith in
      get_or_append_left (ordered n order p ++ ordered n order q) (ordered n order r) 0 k lb ∙ get_or_append_left (ordered n order p) (ordered n order q) 0 k la

  in_exec : (k : ℕ) → k < earlier order q n → get_or all (earlier order p n + k) 0 ≡ get_or (ordered n order q) k 0
  unfolding all
  in_exec k l =
      let a = length-ordered n order p in
      let b = length-ordered n order q in
      let e = length-append (ordered n order p) (ordered n order q) in
      let lb : earlier order p n + k < length (ordered n order p ++ ordered n order q) = omega arith in
      get_or_append_left (ordered n order p ++ ordered n order q) (ordered n order r) 0 (earlier order p n + k) lb
      ∙ (ap (λ z. get_or (ordered n order p ++ ordered n order q) (z + k) 0) (sym a) ∙ get_or-append-add (ordered n order p) (ordered n order q) k 0)

  in_nonexec : (k : ℕ) → get_or all (earlier order p n + earlier order q n + k) 0 ≡ get_or (ordered n order r) k 0
  unfolding all
  in_nonexec k =
      let a = length-ordered n order p in
      let b = length-ordered n order q in
      let e = length-append (ordered n order p) (ordered n order q) in
      let f : earlier order p n + earlier order q n ≡ length (ordered n order p ++ ordered n order q) = omega arith in
      ap (λ z. get_or (ordered n order p ++ ordered n order q ++ ordered n order r) (z + k) 0) f ∙ get_or-append-add (ordered n order p ++ ordered n order q) (ordered n order r) k 0

  at_number : (j : ℕ) → j < n → (p (order j) || (q (order j) || r (order j))) ≡ true → get_or all (local_number n order p q r j) 0 ≡ order j
  at_number j l h = ⊎_elim
      (λ (e : p (order j) ≡ true). rw (number_own j e) (in_own (earlier order p j) (count_lt j n (λ i. p (order i)) l e) ∙ ordered_at n j order p l e))
      (λ (e : p (order j) ≡ false). ⊎_elim
      (λ (f : q (order j) ≡ true). rw (number_exec j e f) (in_exec (earlier order q j) (count_lt j n (λ i. q (order i)) l f) ∙ ordered_at n j order q l f))
      (λ (f : q (order j) ≡ false).
      let g : r (order j) ≡ true = rw (e, f) at h in
      rw (number_nonexec j e f) (in_nonexec (earlier order r j) ∙ ordered_at n j order r l g))
      (cases_Bool (q (order j))))
      (cases_Bool (p (order j)))

  number_within : (j : ℕ) → j < n → (p (order j) || (q (order j) || r (order j))) ≡ true → local_number n order p q r j < length all
  number_within j l h =
      let t = length_all in
      ⊎_elim
      (λ (e : p (order j) ≡ true). let a : earlier order p j < earlier order p n = count_lt j n (λ i. p (order i)) l e in rw (number_own j e) (omega arith))
      (λ (e : p (order j) ≡ false). ⊎_elim
      (λ (f : q (order j) ≡ true). let a : earlier order q j < earlier order q n = count_lt j n (λ i. q (order i)) l f in rw (number_exec j e f) (omega arith))
      (λ (f : q (order j) ≡ false).
      let g : r (order j) ≡ true = rw (e, f) at h in
      let a : earlier order r j < earlier order r n = count_lt j n (λ i. r (order i)) l g in
      rw (number_nonexec j e f) (omega arith))
      (cases_Bool (q (order j))))
      (cases_Bool (p (order j)))

  -- what has a local number below those of the first two groups is of one of these
  pub number_executed : (j : ℕ) → local_number n order p q r j < earlier order p n + earlier order q n → (p (order j) || q (order j)) ≡ true
  number_executed j l = ⊎_elim
      (λ (e : p (order j) ≡ true). or_left (p (order j)) (q (order j)) e)
      (λ (e : p (order j) ≡ false). ⊎_elim
      (λ (f : q (order j) ≡ true). or_right (p (order j)) (q (order j)) f)
      (λ (f : q (order j) ≡ false). let b = number_nonexec j e f in absurd (omega arith))
      (cases_Bool (q (order j))))
      (cases_Bool (p (order j)))

  numbered : AreApart p q r → (k : ℕ) → k < length all → (j : ℕ) × (j < n) × ((p (order j) || (q (order j) || r (order j))) ≡ true) × (get_or all k 0 ≡ order j) × (local_number n order p q r j ≡ k)
  numbered apart k l = ⊎_elim
      (λ (m : k < earlier order p n).
      let a = at_ordered n k order p m in
      (a.0, a.1, or_left (p (order a.0)) (q (order a.0) || r (order a.0)) a.2, in_own k m ∙ a.3, number_own a.0 a.2 ∙ a.4))
      (λ (m : earlier order p n ≤ k). ⊎_elim
      (λ (m2 : k - earlier order p n < earlier order q n).
      let i : ℕ = k - earlier order p n in
      let s : earlier order p n + i ≡ k = omega arith in
      let a = at_ordered n i order q m2 in
      let no : p (order a.0) ≡ false = false_from_ne_true (p (order a.0)) (λ e. let z : true ≡ false = sym a.2 ∙ apart.own_exec (order a.0) e in cc) in (
        a.0,
        a.1,
        or_right (p (order a.0)) (q (order a.0) || r (order a.0)) (or_left (q (order a.0)) (r (order a.0)) a.2),
        ap (λ z. get_or all z 0) (sym s) ∙ (in_exec i m2 ∙ a.3),
        number_exec a.0 no a.2 ∙ (ap (λ z. earlier order p n + z) a.4 ∙ s),
      ))
      (λ (m2 : earlier order q n ≤ k - earlier order p n).
      let i : ℕ = k - earlier order p n - earlier order q n in
      let s : earlier order p n + earlier order q n + i ≡ k = omega arith in
      let t = length_all in
      let li : i < earlier order r n = omega arith in
      let a = at_ordered n i order r li in
      let no : p (order a.0) ≡ false = false_from_ne_true (p (order a.0)) (λ e. let z : true ≡ false = sym a.2 ∙ apart.own_nonexec (order a.0) e in cc) in
      let no2 : q (order a.0) ≡ false = false_from_ne_true (q (order a.0)) (λ e. let z : true ≡ false = sym a.2 ∙ apart.exec_nonexec (order a.0) e in cc) in (
        a.0,
        a.1,
        or_right (p (order a.0)) (q (order a.0) || r (order a.0)) (or_right (q (order a.0)) (r (order a.0)) a.2),
        ap (λ z. get_or all z 0) (sym s) ∙ (in_nonexec i ∙ a.3),
        number_nonexec a.0 no no2
            ∙ (ap (λ z. earlier order p n + earlier order q n + z) a.4 ∙ s),
      ))
      (cases_lt (k - earlier order p n) (earlier order q n)))
      (cases_lt k (earlier order p n))

pub inverse : (n : ℕ) (order : ℕ → ℕ) (p q r : ℕ → Bool) (original : List ℕ) → AreApart p q r
    → original ≡ ordered n order p ++ ordered n order q ++ ordered n order r → AreInverse n order p q r original
unfolding all
inverse n order p q r original apart e = subst (λ (z : List ℕ). AreInverse n order p q r z) (sym e) (record {
  count = length_all n order p q r;
  within = number_within n order p q r;
  at_number = at_number n order p q r;
  numbered = numbered n order p q r apart;
})

-- one more row of a table
pub table_more : (now old : List ℕ) (n dim : ℕ) (t : ℕ → ℕ → ℕ) → length old ≡ n * dim
    → ((k : ℕ) → k < length old → get_or now k 0 ≡ get_or old k 0) → ((i : ℕ) → i < dim → get_or now (length old + i) 0 ≡ t n i)
    → ((k i : ℕ) → k < n → i < dim → get_or old (k * dim + i) 0 ≡ t k i) → (k i : ℕ) → k < n + 1 → i < dim
    → get_or now (k * dim + i) 0 ≡ t k i
table_more now old n dim t e before new inv k i lk li = ⊎_elim
    (λ (s : k ≡ n). rw s (ap (λ z. get_or now (z + i) 0) (sym e) ∙ new i li))
    (λ (s : k ≡ n → ⊥).
    let l : k < n = omega arith in
    let h = mul-add-lt k dim i n l li in
    let b : k * dim + i < length old = omega arith in
    before (k * dim + i) b ∙ inv k i l li)
    (cases_eq k n)

-- tests that agree list the same elements
pub ordered_agree : (n : ℕ) (order : ℕ → ℕ) (p q : ℕ → Bool) → ((j : ℕ) → j < n → p (order j) ≡ q (order j)) → ordered n order p ≡ ordered n order q
ordered_agree zero order p q h = refl
ordered_agree (suc n) order p q h = rw (ordered_agree n order p q (λ j l. h j (omega arith)), h n (omega arith)) refl

one_group : (a b c : Bool) → (a ≡ true → b ≡ false) → (a ≡ true → c ≡ false) → (b ≡ true → c ≡ false) → cond {A = ℕ} a 1 0 + cond {A = ℕ} b 1 0 + cond {A = ℕ} c 1 0 ≤ 1
one_group true b c f h k = rw (f refl, h refl) (omega arith)
one_group false true c f h k = rw (k refl) (omega arith)
one_group false false true f h k = omega arith
one_group false false false f h k = omega arith

-- the three groups have no more elements than there are
pub apart_sum : (n : ℕ) (order : ℕ → ℕ) (p q r : ℕ → Bool) → AreApart p q r → earlier order p n + earlier order q n + earlier order r n ≤ n
apart_sum zero order p q r a = omega arith
apart_sum (suc n) order p q r a =
    let h : earlier order p n + earlier order q n + earlier order r n ≤ n = apart_sum n order p q r a in
    let s : cond {A = ℕ} (p (order n)) 1 0 + cond {A = ℕ} (q (order n)) 1 0 + cond {A = ℕ} (r (order n)) 1 0 ≤ 1 =
    one_group (p (order n)) (q (order n)) (r (order n)) (a.own_exec (order n)) (a.own_nonexec (order n)) (a.exec_nonexec (order n)) in
    omega arith
