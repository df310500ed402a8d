-- By cuts a set has one list of owners.
use Rattle.std.proofs.Common.{◌≡◌, ℕ, ℤ, zero, suc, ◌+◌, ◌-◌, ◌/◌, ◌<◌, ◌≤◌, Bool, true, false, cond, List, [], ◌∷◌, ◌++◌, length, get_or, eqb, refl, sym, ap, ◌∙◌, arith, ⊎_elim, subst, inl, inr}
use Rattle.std.specs.List.{Contains, sum_by}
use Rattle.std.specs.List.Sorted.{IsPermutation}
use Rattle.std.proofs.lemmas.Bool.{cases_Bool, cases_lt, eqb-true, eq-eqb}
use Rattle.std.proofs.lemmas.List.{ext_get_or, get_or_default, length-append, get_or_append_left, get_or-append-add}
use Rattle.std.proofs.lemmas.List.Sorted.{sum_by-IsPermutation, Contains-permutation}
use Rattle.std.proofs.lemmas.List.Sums.{sum_by-cons}
use Rattle.partition.specs.Block.{block_start}
use Rattle.partition.specs.Bisect.{height, IsAxis, IsAlong, IsCut, IsHalved, IsBisected}
use Rattle.partition.proofs.Sorting.{Before, InOrder}

-- ---- one list in order

-- how often y stands in a list
times : ℕ → List ℕ → ℕ
times y xs = sum_by (λ x. cond (eqb y x) 1 0) xs

times_more : (y x : ℕ) (xs : List ℕ) → times y (x ∷ xs) ≡ cond (eqb y x) 1 0 + times y xs
unfolding times
times_more y x xs = sum_by-cons (λ z. cond (eqb y z) 1 0) x xs

times_none : (y : ℕ) → times y [] ≡ 0
unfolding times
times_none y = refl

stands : (y : ℕ) (xs : List ℕ) → 0 < times y xs → (j : ℕ) × (j < length xs) × (get_or xs j 0 ≡ y)
stands y [] h = (let e : times y [] ≡ 0 = times_none y in absurd (omega arith))
stands y (x ∷ xs) h = ⊎_elim
    (λ (e : eqb y x ≡ true). (zero, omega arith, sym (eqb-true y x e)))
    (λ (e : eqb y x ≡ false).
    let m : times y (x ∷ xs) ≡ 0 + times y xs = times_more y x xs ∙ ap (λ (z : Bool). cond {A = ℕ} z 1 0 + times y xs) e in
    let w : (j : ℕ) × (j < length xs) × (get_or xs j 0 ≡ y) = stands y xs (omega arith) in
    (suc w.0, (let q : w.0 < length xs = w.1 in omega arith), w.2))
    (cases_Bool (eqb y x))

-- the first is before or at each
first_before : (key : ℕ → ℕ) (x y : ℕ) (xs : List ℕ) → InOrder key (x ∷ xs) → 0 < times y (x ∷ xs) → Before key x y
first_before key x y xs order h =
    let w : (j : ℕ) × (j < length (x ∷ xs)) × (get_or (x ∷ xs) j 0 ≡ y) = stands y (x ∷ xs) h in
    at w.0 w.1 w.2
  where
    at : (j : ℕ) → j < length (x ∷ xs) → get_or (x ∷ xs) j 0 ≡ y → Before key x y
    at zero l e = inr (ap key e, (let q : x ≡ y = e in omega arith))
    at (suc j) l e = subst (λ z. Before key x z) e (order zero (suc j) (omega arith) l)

both_before : (key : ℕ → ℕ) (x y : ℕ) → Before key x y → Before key y x → x ≡ y
both_before key x y p q = ⊎_elim
    (λ h. ⊎_elim (λ m. absurd (omega arith)) (λ m. absurd (omega (arith, m.0))) q)
    (λ h. ⊎_elim (λ m. absurd (omega (arith, h.0))) (λ m. omega (arith, h.1, m.1)) q)
    p

once : (y : ℕ) (xs : List ℕ) → 0 < times y (y ∷ xs)
once y xs =
    let m : times y (y ∷ xs) ≡ 1 + times y xs = times_more y y xs ∙ ap (λ (z : Bool). cond {A = ℕ} z 1 0 + times y xs) (eq-eqb y y refl) in
    omega arith

same_rest : (a b m n : ℕ) → a + m ≡ b + n → a ≡ b → m ≡ n
same_rest a b m n e q = omega arith

one_list : (key : ℕ → ℕ) (xs ys : List ℕ) → ((y : ℕ) → times y xs ≡ times y ys) → InOrder key xs → InOrder key ys → xs ≡ ys
one_list key [] [] same h k = refl
one_list key [] (y ∷ ys) same h k = let a = once y ys in let b : times y [] ≡ times y (y ∷ ys) = same y in let d = times_none y in absurd (omega arith)
one_list key (x ∷ xs) [] same h k = let a = once x xs in let b : times x (x ∷ xs) ≡ times x [] = same x in let d = times_none x in absurd (omega arith)
one_list key (x ∷ xs) (y ∷ ys) same h k =
    let e : x ≡ y = both_before key x y (first_before key x y xs h (subst (λ z. 0 < z) (sym (same y)) (once y ys))) (first_before key y x ys k (subst (λ z. 0 < z) (same x) (once x xs))) in
    let rest : (z : ℕ) → times z xs ≡ times z ys = λ z. same_rest (cond {A = ℕ} (eqb z x) 1 0) (cond {A = ℕ} (eqb z y) 1 0) (times z xs)
    (times z ys) (sym (times_more z x xs) ∙ (same z ∙ times_more z y ys)) (ap (λ w. cond {A = ℕ} (eqb z w) 1 0) e) in
    let t : xs ≡ ys = one_list key xs ys rest (λ i j m l. h (suc i) (suc j) (omega arith) (omega arith)) (λ i j m l. k (suc i) (suc j) (omega arith) (omega arith)) in
    rw (e, t) refl

-- ---- one cut

module _ (values : List ℤ) (dim : ℕ) where
  one_axis : (xs : List ℕ) (a b : ℕ) → IsAxis values dim xs a → IsAxis values dim xs b → a ≡ b
  one_axis xs a b h k = ⊎_elim
      (λ (l : a < b). let p = k.first a h.spread l h.is in let q = h.most b k.spread k.within k.is in absurd (omega arith))
      (λ (l : b ≤ a). ⊎_elim
      (λ (m : b < a). let p = h.first b k.spread m k.is in let q = k.most a h.spread h.within h.is in absurd (omega arith))
      (λ (m : a ≤ b). omega arith)
      (cases_lt b a))
      (cases_lt a b)

  one_along : (a : ℕ) (xs ys zs : List ℕ) → IsAlong values dim a xs ys → IsAlong values dim a xs zs → ys ≡ zs
  unfolding times
  one_along a xs ys zs h k = one_list (height values dim a) ys zs
      (λ y. sum_by-IsPermutation (λ x. cond (eqb y x) 1 0) xs ys h.same ∙ sym (sum_by-IsPermutation (λ x. cond (eqb y x) 1 0) xs zs k.same)) h.rises k.rises

  same_parts : (ls us cs ds : List ℕ) → ls ++ us ≡ cs ++ ds → length ls ≡ length cs → (ls ≡ cs) × (us ≡ ds)
  same_parts ls us cs ds e l =
      let n : length us ≡ length ds = (let p = length-append ls us in let q = length-append cs ds in
      let r : length (ls ++ us) ≡ length (cs ++ ds) = ap (λ (z : List ℕ). length z) e in omega arith) in (
        ext_get_or 0 ls cs l (λ i li. sym (get_or_append_left ls us 0 i li) ∙ (ap (λ (z : List ℕ). get_or z i 0) e ∙ get_or_append_left cs ds 0 i (omega arith))),
        ext_get_or 0 us ds n (λ i li. sym (get_or-append-add ls us i 0)
            ∙ (ap (λ (z : List ℕ). get_or z (length ls + i) 0) e
            ∙ (ap (λ z. get_or (cs ++ ds) (z + i) 0) l ∙ get_or-append-add cs ds i 0))),
      )

  one_cut : (many : ℕ) (xs ls us cs ds : List ℕ) → IsCut values dim many xs ls us → IsCut values dim many xs cs ds → (ls ≡ cs) × (us ≡ ds)
  one_cut many xs ls us cs ds h k =
      let a : k.axis ≡ h.axis = one_axis xs k.axis h.axis k.longest h.longest in
      let along : IsAlong values dim h.axis xs (cs ++ ds) = subst (λ z. IsAlong values dim z xs (cs ++ ds)) a k.along in
      same_parts ls us cs ds (one_along h.axis xs (ls ++ us) (cs ++ ds) h.along along) (h.count ∙ sym k.count)

  -- ---- one owner

  abbrev Agree : (ℕ → ℕ) → (ℕ → ℕ) → List ℕ → Type 0
  Agree f h xs = (k : ℕ) → k < length xs → f (get_or xs k 0) ≡ h (get_or xs k 0)

  agree_parts : (f h : ℕ → ℕ) (xs ls us : List ℕ) → IsPermutation xs (ls ++ us) → Agree f h ls → Agree f h us → Agree f h xs
  agree_parts f h xs ls us perm p q k l =
      let x : ℕ = get_or xs k 0 in
      let c : Contains (ls ++ us) x = Contains-permutation xs (ls ++ us) x perm (k, l, get_or_default xs k x 0 l) in
      let e : get_or (ls ++ us) c.0 0 ≡ x = get_or_default (ls ++ us) c.0 0 x c.1 ∙ c.2 in
      let n = length-append ls us in
      ⊎_elim
      (λ (m : c.0 < length ls).
      let g : get_or ls c.0 0 ≡ x = sym (get_or_append_left ls us 0 c.0 m) ∙ e in
      subst (λ z. f z ≡ h z) g (p c.0 m))
      (λ (m : length ls ≤ c.0).
      let i : ℕ = c.0 - length ls in
      let s : length ls + i ≡ c.0 = omega arith in
      let g : get_or us i 0 ≡ x = sym (get_or-append-add ls us i 0) ∙ (ap (λ z. get_or (ls ++ us) z 0) s ∙ e) in
      let lc : c.0 < length (ls ++ us) = c.1 in
      subst (λ z. f z ≡ h z) g (q i (omega arith)))
      (cases_lt c.0 (length ls))

  one_halving : (depth other n ranks : ℕ) (f h : ℕ → ℕ) (lo many : ℕ) (xs : List ℕ) → IsHalved depth n ranks values dim f lo many xs → IsHalved other n ranks values dim h lo many xs → Agree f h xs
  one_halving zero other n ranks f h lo many xs a b = absurd a
  one_halving (suc depth) zero n ranks f h lo many xs a b = absurd b
  one_halving (suc depth) (suc other) n ranks f h lo many xs (inl a) (inl b) = λ k l. a.1 k l ∙ sym (b.1 k l)
  one_halving (suc depth) (suc other) n ranks f h lo many xs (inr (inl a)) b = λ k l. absurd (omega arith)
  one_halving (suc depth) (suc other) n ranks f h lo many xs a (inr (inl b)) = λ k l. absurd (omega arith)
  one_halving (suc depth) (suc other) n ranks f h lo many xs (inl a) (inr (inr b)) = (let p : many ≡ 1 = a.0 in let q : 1 < many = b.0 in absurd (omega arith))
  one_halving (suc depth) (suc other) n ranks f h lo many xs (inr (inr a)) (inl b) = (let p : many ≡ 1 = b.0 in let q : 1 < many = a.0 in absurd (omega arith))
  one_halving (suc depth) (suc other) n ranks f h lo many xs (inr (inr a)) (inr (inr b)) =
      let e = one_cut (block_start n ranks (lo + many / 2) - block_start n ranks lo) xs a.1 a.2 b.1 b.2 a.3 b.3 in
      let low : Agree f h a.1 = one_halving depth other n ranks f h lo (many / 2) a.1 a.4 (subst (λ (z : List ℕ). IsHalved other n ranks values dim h lo (many / 2) z) (sym e.0) b.4) in
      let high : Agree f h a.2 = one_halving depth other n ranks f h (lo + many / 2) (many - many / 2) a.2 a.5
      (subst (λ (z : List ℕ). IsHalved other n ranks values dim h (lo + many / 2) (many - many / 2) z) (sym e.1) b.5) in
      agree_parts f h xs a.1 a.2 a.3.along.same low high

pub one_bisection : (n ranks : ℕ) (values : List ℤ) (dim : ℕ) (a b : List ℕ) → length a ≡ n → length b ≡ n → IsBisected n ranks values dim a → IsBisected n ranks values dim b → a ≡ b
one_bisection n ranks values dim a b la lb h k =
    let f : ℕ → ℕ = λ x. get_or a x 0 in
    let o : ℕ → ℕ = λ x. get_or b x 0 in
    let same : k.elements ≡ h.elements = ext_get_or 0 k.elements h.elements (k.size ∙ sym h.size) (λ x l. let lx : x < n = omega (arith, k.size) in k.each x lx ∙ sym (h.each x lx)) in
    let halved = subst (λ (z : List ℕ). IsHalved ranks n ranks values dim o 0 ranks z) same k.halved in
    let agree : Agree values dim f o h.elements = one_halving values dim ranks ranks n ranks f o 0 ranks h.elements h.halved halved in
    ext_get_or 0 a b (la ∙ sym lb) (λ x l. let lx : x < n = omega arith in subst (λ z. get_or a z 0 ≡ get_or b z 0) (h.each x lx) (agree x (omega (arith, h.size))))
