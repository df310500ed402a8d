-- The runs of one block and colour are windows of its elements.
use Rattle.std.proofs.Common.{◌≡◌, ℕ, zero, suc, ◌<◌, ◌≤◌, ◌+◌, ◌*◌, ◌/◌, refl, sym, ap, ◌∙◌, arith, ⊎_elim, ◌⊎◌, inl, inr, Bool, true, false, cond, List, [], ◌∷◌, ◌++◌, append-nil, length, take, drop}
use Rattle.std.specs.Prelude.{◌==◌, ◌&&◌, nat_lt}
use Rattle.std.proofs.lemmas.Bool.{cases_eq, eq-eqb, ne_eqb, eqb-true, ltb-true, ltb-false, and_parts}
use Rattle.std.proofs.lemmas.List.{drop-append-le, take-append-le, take_all, drop_all, length-drop, length-append}
use Rattle.std.proofs.Math.Nat.{div-lt_iff_lt-mul, le-div_iff_mul-le, suc-mul}
use Rattle.schedule_steps.specs.Outline.{Outline, runs}
use Rattle.schedule_steps.specs.Drawn.{numbers}
use Rattle.schedule_steps.specs.Standard.{one_if, tally, is_member, group_of, in_group}
use Rattle.step_orders.proofs.Flat.{numbers_same}

lt_or_le : (a b : ℕ) → (a < b) ⊎ (b ≤ a)
lt_or_le a b = by (nat_lt a b) refl
  where
    by : (t : Bool) → nat_lt a b ≡ t → (a < b) ⊎ (b ≤ a)
    by true e = inl (ltb-true a b e)
    by false e = inr (ltb-false a b e)

push_in : (l : List ℕ) (x a g : ℕ) → a ≤ length l → length l < a + g → take g (drop a (l ++ (x ∷ []))) ≡ take g (drop a l) ++ (x ∷ [])
push_in l x a g le lt =
    ap (λ z. take g z) (drop-append-le a l (x ∷ []) le)
    ∙ (take_all g (drop a l ++ (x ∷ [])) (omega (arith, length-append (drop a l) (x ∷ []), length-drop a l))
    ∙ ap (λ z. z ++ (x ∷ [])) (sym (take_all g (drop a l) (omega (arith, length-drop a l)))))

push_past : (l : List ℕ) (x a g : ℕ) → a + g ≤ length l → take g (drop a (l ++ (x ∷ []))) ≡ take g (drop a l)
push_past l x a g le =
    ap (λ z. take g z) (drop-append-le a l (x ∷ []) (omega arith))
    ∙ take-append-le g (drop a l) (x ∷ []) (omega (arith, length-drop a l))

push_before : (l : List ℕ) (x a g : ℕ) → length l < a → take g (drop a (l ++ (x ∷ []))) ≡ take g (drop a l)
push_before l x a g lt =
    ap (λ z. take g z) (drop_all a (l ++ (x ∷ [])) (omega (arith, length-append l (x ∷ []))) ∙ sym (drop_all a l (omega arith)))

pub length_numbers : (t : ℕ → Bool) (n : ℕ) → length (numbers t n) ≡ tally t n
length_numbers t zero = refl
length_numbers t (suc n) =
    length-append (numbers t n) (cond (t n) (n ∷ []) [])
    ∙ (ap (λ z. z + length (cond (t n) (n ∷ []) [])) (length_numbers t n) ∙ ap (λ z. tally t n + z) (one (t n)))
  where
    one : (b : Bool) → length (cond b (n ∷ []) []) ≡ one_if b
    one true = refl
    one false = refl

-- the numbers of one run
windows : (t : ℕ → Bool) (g j n : ℕ) → 0 < g → numbers (λ x. t x && (tally t x / g == j)) n ≡ take g (drop (j * g) (numbers t n))
windows t g j zero pos = sym (ap (λ z. take g z) (drop_all (j * g) [] (omega arith)) ∙ take_all g [] (omega arith))
windows t g j (suc n) pos = step (windows t g j n pos) (t n) refl
  where
    l : List ℕ
    l = numbers t n

    q : ℕ
    q = tally t n / g

    size : length l ≡ tally t n
    size = length_numbers t n

    upper : (y : ℕ) → q < y → tally t n < y * g
    upper y lt = (div-lt_iff_lt-mul {k = g} {x = tally t n} {y = y} pos).0 lt

    lower : (y : ℕ) → y ≤ q → y * g ≤ tally t n
    lower y le = (le-div_iff_mul-le {k = g} {x = y} {y = tally t n} pos).0 le

    inside : q ≡ j → take g (drop (j * g) (l ++ (n ∷ []))) ≡ take g (drop (j * g) l) ++ (n ∷ [])
    inside i =
        let a : tally t n < suc j * g = upper (suc j) (omega arith) in
        let b : j * g ≤ tally t n = lower j (omega arith) in
        let m : suc j * g ≡ j * g + g = suc-mul j g in
        push_in l n (j * g) g (omega (arith, size)) (omega (arith, size))

    same : numbers (λ x. t x && (tally t x / g == j)) n ≡ take g (drop (j * g) l) → q ≡ j
        → numbers (λ x. t x && (tally t x / g == j)) n ++ cond (q == j) (n ∷ []) [] ≡ take g (drop (j * g) (l ++ (n ∷ [])))
    same rest i =
        ap (λ b. numbers (λ x. t x && (tally t x / g == j)) n ++ cond b (n ∷ []) []) (eq-eqb q j i)
        ∙ (ap (λ z. z ++ (n ∷ [])) rest ∙ sym (inside i))

    other : (q ≡ j → ⊥) → take g (drop (j * g) (l ++ (n ∷ []))) ≡ take g (drop (j * g) l)
    other ne = ⊎_elim
        (λ (lt : q < j). let a : tally t n < j * g = upper j lt in push_before l n (j * g) g (omega (arith, size)))
        (λ (le : j ≤ q).
        let a : suc j * g ≤ tally t n = lower (suc j) (omega arith) in
        let m : suc j * g ≡ j * g + g = suc-mul j g in
        push_past l n (j * g) g (omega (arith, size)))
        (lt_or_le q j)

    step : numbers (λ x. t x && (tally t x / g == j)) n ≡ take g (drop (j * g) l) → (b : Bool) → t n ≡ b
        → numbers (λ x. t x && (tally t x / g == j)) n ++ cond (b && (q == j)) (n ∷ []) [] ≡ take g (drop (j * g) (l ++ cond b (n ∷ []) []))
    step rest false e = append-nil (numbers (λ x. t x && (tally t x / g == j)) n) ∙ (rest ∙ ap (λ z. take g (drop (j * g) z)) (sym (append-nil l)))
    step rest true e = ⊎_elim
        (λ (i : q ≡ j). same rest i)
        (λ (ne : q ≡ j → ⊥). ap (λ b. numbers (λ x. t x && (tally t x / g == j)) n ++ cond b (n ∷ []) []) (ne_eqb q j ne)
        ∙ (append-nil (numbers (λ x. t x && (tally t x / g == j)) n) ∙ (rest ∙ sym (other ne))))
        (cases_eq q j)

module _ (o : Outline) (g k r b c j : ℕ) where
  grouped : (x : ℕ) → in_group o g k r b c j x ≡ (is_member o k r b c x && (tally (is_member o k r b c) x / g == j))
  grouped x = by (is_member o k r b c x) refl
    where
      by : (m : Bool) → is_member o k r b c x ≡ m → (m && (group_of o g k r x == j)) ≡ (m && (tally (is_member o k r b c) x / g == j))
      by false e = refl
      by true e =
          let p : (runs o k r x ≡ true) × (((o.block k r x == b) && (o.colour k r x == c)) ≡ true) = and_parts (runs o k r x) ((o.block k r x == b) && (o.colour k r x == c)) e in
          let q : ((o.block k r x == b) ≡ true) × ((o.colour k r x == c) ≡ true) = and_parts (o.block k r x == b) (o.colour k r x == c) p.1 in
          ap (λ z. tally (is_member o k r z (o.colour k r x)) x / g == j) (eqb-true (o.block k r x) b q.0)
          ∙ ap (λ z. tally (is_member o k r b z) x / g == j) (eqb-true (o.colour k r x) c q.1)

  pub group_windows : (n : ℕ) → 0 < g → numbers (in_group o g k r b c j) n ≡ take g (drop (j * g) (numbers (is_member o k r b c) n))
  group_windows n pos =
      numbers_same (in_group o g k r b c j) (λ x. is_member o k r b c x && (tally (is_member o k r b c) x / g == j)) n (λ x lt. grouped x)
      ∙ windows (is_member o k r b c) g j n pos
