-- The first of a rank's elements.
use Rattle.std.proofs.Common.{◌≡◌, ℕ, zero, suc, ◌/◌, ◌<◌, ◌≤◌, Bool, true, false, ◌⊎◌, inl, inr, refl, sym, ap, subst, ◌∙◌, arith, ⊎_elim, List, [], ◌∷◌, Some, None}
use Rattle.std.specs.Prelude.{◌&&◌, ◌==◌, nat_lt}
use Rattle.std.proofs.lemmas.Bool.{cases_Bool, cases_eq, cases_lt, false≢true, false_from_ne_true, or_cases, or_left, or_right, and_parts, and_from, cond-true, cond-false, eqb-true, eq-eqb, ltb-true, lt-ltb}
use Rattle.std.proofs.Math.Nat.{div-one}
use Rattle.schedule_steps.specs.Outline.{Outline, runs, by_colour}
use Rattle.schedule_steps.specs.declared.step.Step.{Step}
use Rattle.schedule_steps.specs.declared.step.Step.TheVariants.{Begin, End}
use Rattle.schedule_steps.specs.Steps.{same, has}
use Rattle.schedule_steps.specs.Members.{same_true, same_refl}
use Rattle.schedule_steps.specs.Standard.{one_if, tally, is_member, group_of, element_steps}
use Rattle.schedule_steps.specs.Judged.{first_of}
use Rattle.schedule_steps.specs.Firsts.{by_number, goes_first, BlocksInOrder, meets, IsFirst}
use Rattle.schedule_steps.proofs.Keys.{Less, asym, Each, each_has, place, key, Sorted}
use Rattle.schedule_steps.proofs.Standard.{element_layer, has_begin, has_end, each_element}

-- ---- by numbers
number_from : (a b : ℕ) (rest : Bool) → by_number a b rest ≡ true → (a < b) ⊎ ((a ≡ b) × (rest ≡ true))
number_from a b rest h = ⊎_elim
    (λ u. inl (ltb-true a b u))
    (λ u. (let v : ((a == b) ≡ true) × (rest ≡ true) = and_parts (a == b) rest u in inr (eqb-true a b v.0, v.1)))
    (or_cases (nat_lt a b) ((a == b) && rest) h)

number_to : (a b : ℕ) (rest : Bool) → (a < b) ⊎ ((a ≡ b) × (rest ≡ true)) → by_number a b rest ≡ true
number_to a b rest h = ⊎_elim
    (λ u. or_left (nat_lt a b) ((a == b) && rest) (lt-ltb a b u))
    (λ u. or_right (nat_lt a b) ((a == b) && rest) (and_from (a == b) rest (eq-eqb a b u.0) u.1))
    h

-- transitive where what follows is
number_on : (a b c : ℕ) (p q s : Bool) → (p ≡ true → q ≡ true → s ≡ true) → by_number a b p ≡ true → by_number b c q ≡ true → by_number a c s ≡ true
number_on a b c p q s t h g = number_to a c s (⊎_elim
    (λ (u : a < b). ⊎_elim (λ (v : b < c). inl (omega arith)) (λ (v : (b ≡ c) × (q ≡ true)). (let e : b ≡ c = v.0 in inl (omega arith))) (number_from b c q g))
    (λ (u : (a ≡ b) × (p ≡ true)). (let d : a ≡ b = u.0 in ⊎_elim
    (λ (v : b < c). inl (omega arith))
    (λ (v : (b ≡ c) × (q ≡ true)). inr (u.0 ∙ v.0, t u.1 v.1))
    (number_from b c q g)))
    (number_from a b p h))

below_on : (x y z : ℕ) → nat_lt x y ≡ true → nat_lt y z ≡ true → nat_lt x z ≡ true
below_on x y z h g = (let a : x < y = ltb-true x y h in let b : y < z = ltb-true y z g in lt-ltb x z (omega arith))

-- ---- counts
tally_grows : (t : ℕ → Bool) (n m : ℕ) → n ≤ m → tally t n ≤ tally t m
tally_grows t n zero h = (let e : n ≡ 0 = omega arith in subst (λ z. tally t z ≤ 0) (sym e) (omega arith))
tally_grows t n (suc m) h = ⊎_elim
    (λ (e : n ≡ suc m). subst (λ z. tally t z ≤ tally t (suc m)) (sym e) (omega arith))
    (λ (ne : n ≡ suc m → ⊥). (let r : tally t n ≤ tally t m = tally_grows t n m (omega arith) in omega arith))
    (cases_eq n (suc m))

-- one that meets the test counts for those behind it
tally_less : (t : ℕ → Bool) (x y : ℕ) → t x ≡ true → x < y → tally t x < tally t y
tally_less t x y h lt =
    let e : one_if (t x) ≡ 1 = ap one_if h in
    let g : tally t (suc x) ≤ tally t y = tally_grows t (suc x) y (omega arith) in
    omega arith

-- ---- a sorted list
first_least : (o : Outline) (f : Step → Bool) (l : List Step) (t : Step)
    → Sorted o 1 l
    → has l t ≡ true
    → f t ≡ true
    → ((u : Step) → has l u ≡ true → f u ≡ true → (u ≡ t) ⊎ Less (key o 1 t) (key o 1 u))
    → first_of f l ≡ Some t
first_least o f [] t sorted i m least = absurd (false≢true i)
first_least o f (s ∷ l) t sorted i m least = ⊎_elim
    (λ (u : f s ≡ true). cond-true (f s) (Some s) (first_of f l) u ∙ ap Some (⊎_elim
    (λ e. e)
    (λ (less : Less (key o 1 t) (key o 1 s)). ⊎_elim
    (λ (e : same t s ≡ true). sym (same_true t s e))
    (λ (e : has l t ≡ true). absurd (asym (key o 1 t) (key o 1 s) less (each_has (λ y. Less (key o 1 s) (key o 1 y)) l t sorted.0 e)))
    (or_cases (same t s) (has l t) i))
    (least s (or_left (same s s) (has l s) (same_refl s)) u)))
    (λ (u : f s ≡ false). cond-false (f s) (Some s) (first_of f l) u ∙ ⊎_elim
    (λ (e : same t s ≡ true). absurd (false≢true (sym u ∙ (ap f (sym (same_true t s e)) ∙ m))))
    (λ (e : has l t ≡ true). first_least o f l t sorted.1 e m (λ v h. least v (or_right (same v s) (has l v) h)))
    (or_cases (same t s) (has l t) i))
    (cases_Bool (f s))

pub first_none : (f : Step → Bool) (l : List Step) → Each (λ t. f t ≡ false) l → first_of f l ≡ None
first_none f [] h = refl
first_none f (s ∷ l) h = cond-false (f s) (Some s) (first_of f l) h.0 ∙ first_none f l h.1

-- ---- elements
module _ (o : Outline) (k r : ℕ) where
  abbrev bc : ℕ → ℕ
  bc x = o.block_colour k r (o.block k r x)

  abbrev b : ℕ → ℕ
  b x = o.block k r x

  abbrev c : ℕ → ℕ
  c x = o.colour k r x

  abbrev colour_next : ℕ → ℕ → Bool
  colour_next x y = by_number (c x) (c y) (nat_lt x y)

  abbrev block_next : ℕ → ℕ → Bool
  block_next x y = by_number (b x) (b y) (colour_next x y)

  first_to : (x y : ℕ) → (bc x < bc y) ⊎ ((bc x ≡ bc y) × (block_next x y ≡ true)) → goes_first o k r x y ≡ true
  first_to x y h = number_to (bc x) (bc y) (block_next x y) h

  block_to : (x y : ℕ) → (b x < b y) ⊎ ((b x ≡ b y) × (colour_next x y ≡ true)) → block_next x y ≡ true
  block_to x y h = number_to (b x) (b y) (colour_next x y) h

  colour_to : (x y : ℕ) → (c x < c y) ⊎ ((c x ≡ c y) × (nat_lt x y ≡ true)) → colour_next x y ≡ true
  colour_to x y h = number_to (c x) (c y) (nat_lt x y) h

  pub on : (x y z : ℕ) → goes_first o k r x y ≡ true → goes_first o k r y z ≡ true → goes_first o k r x z ≡ true
  on x y z h g = number_on (bc x) (bc y) (bc z) (block_next x y) (block_next y z) (block_next x z)
      (number_on (b x) (b y) (b z) (colour_next x y) (colour_next y z) (colour_next x z)
      (number_on (c x) (c y) (c z) (nat_lt x y) (nat_lt y z) (nat_lt x z) (below_on x y z)))
      h
      g

  -- a lower colour of one block
  within : (x y : ℕ) → b x ≡ b y → c x < c y → by_colour o k r x y ≡ true
  within x y e l = or_right (nat_lt (bc x) (bc y)) ((b x == b y) && nat_lt (c x) (c y))
      (and_from (b x == b y) (nat_lt (c x) (c y)) (eq-eqb (b x) (b y) e) (lt-ltb (c x) (c y) l))

  pub lower : (x y : ℕ) → by_colour o k r x y ≡ true → goes_first o k r x y ≡ true
  lower x y h = ⊎_elim
      (λ u. first_to x y (inl (ltb-true (bc x) (bc y) u)))
      (λ u.
      let v : ((b x == b y) ≡ true) × (nat_lt (c x) (c y) ≡ true) = and_parts (b x == b y) (nat_lt (c x) (c y)) u in
      let e : b x ≡ b y = eqb-true (b x) (b y) v.0 in
      first_to x y (inr (ap (o.block_colour k r) e, block_to x y (inr (e, colour_to x y (inl (ltb-true (c x) (c y) v.1)))))))
      (or_cases (nat_lt (bc x) (bc y)) ((b x == b y) && nat_lt (c x) (c y)) h)

  -- within one block
  in_block : (x y : ℕ) → y < x → by_colour o k r x y ≡ false → b y ≡ b x → colour_next y x ≡ true
  in_block x y lt h e = ⊎_elim
      (λ (l : c x < c y). absurd (false≢true (sym h ∙ within x y (sym e) l)))
      (λ (g : c y ≤ c x). colour_to y x (⊎_elim
      (λ (i : c y < c x). inl i)
      (λ (i : c x ≤ c y). (let d : c y ≡ c x = omega arith in inr (d, lt-ltb y x lt)))
      (cases_lt (c y) (c x))))
      (cases_lt (c x) (c y))

  -- where the block colours are equal
  same_colour : (x y : ℕ) → BlocksInOrder o k r → y < x → by_colour o k r x y ≡ false → block_next y x ≡ true
  same_colour x y ordered lt h = ⊎_elim
      (λ (e : b y ≡ b x). block_to y x (inr (e, in_block x y lt h e)))
      (λ (ne : b y ≡ b x → ⊥). (let i : b y ≤ b x = ordered y x lt in let l : b y < b x = omega arith in block_to y x (inl l)))
      (cases_eq (b y) (b x))

  pub others : (x y : ℕ) → BlocksInOrder o k r → y < x → by_colour o k r x y ≡ false → goes_first o k r y x ≡ true
  others x y ordered lt h = ⊎_elim
      (λ (l : bc x < bc y). absurd (false≢true (sym h ∙ or_left (nat_lt (bc x) (bc y)) ((b x == b y) && nat_lt (c x) (c y)) (lt-ltb (bc x) (bc y) l))))
      (λ (g : bc y ≤ bc x). first_to y x (⊎_elim
      (λ (l : bc y < bc x). inl l)
      (λ (i : bc x ≤ bc y). (let e : bc y ≡ bc x = omega arith in inr (e, same_colour x y ordered lt h)))
      (cases_lt (bc y) (bc x))))
      (cases_lt (bc x) (bc y))

  -- with groups of one, the numbers of runs grow with the elements
  group_grows : (x y : ℕ) → runs o k r x ≡ true → b x ≡ b y → c x ≡ c y → x < y → group_of o 1 k r x < group_of o 1 k r y
  group_grows x y run be ce lt =
      let t : ℕ → Bool = is_member o k r (b y) (c y) in
      let m : t x ≡ true = and_from (runs o k r x) ((b x == b y) && (c x == c y)) run
      (and_from (b x == b y) (c x == c y) (eq-eqb (b x) (b y) be) (eq-eqb (c x) (c y) ce)) in
      let l : tally t x < tally t y = tally_less t x y m lt in
      let ex : group_of o 1 k r x ≡ tally t x =
      ap (λ i. tally (is_member o k r i (c x)) x / 1) be ∙ (ap (λ i. tally (is_member o k r (b y) i) x / 1) ce ∙ div-one (tally t x)) in
      let ey : group_of o 1 k r y ≡ tally t y = div-one (tally t y) in
      omega arith

  -- what goes first has the lesser key
  pub key_less : (x y i j : ℕ) → runs o k r x ≡ true → goes_first o k r x y ≡ true → Less (place o 1 k r x i) (place o 1 k r y j)
  key_less x y i j run h = inr (
    refl,
    inr (
      refl,
      ⊎_elim
          (λ u. inl u)
          (λ u. inr (
            u.0,
            ⊎_elim
                (λ v. inl v)
                (λ v. inr (
                  v.0,
                  ⊎_elim
                      (λ w. inl w)
                      (λ w. inr (w.0, inl (group_grows x y run v.0 w.0 (ltb-true x y w.1))))
                      (number_from (c x) (c y) (nat_lt x y) v.1),
                ))
                (number_from (b x) (b y) (colour_next x y) u.1),
          ))
          (number_from (bc x) (bc y) (block_next x y) h),
    ),
  )

  -- the begin and the end of an element
  own_less : (x : ℕ) → Less (place o 1 k r x 0) (place o 1 k r x 1)
  own_less x = inr (refl, inr (refl, inr (refl, inr (refl, inr (refl, inr (refl, inl (omega arith)))))))

  -- a step of the rank's elements is the begin or the end of one that it runs
  abbrev OfElement : Step → Type 0
  OfElement t = (x : ℕ) × (runs o k r x ≡ true) × ((t ≡ Begin k r x) ⊎ (t ≡ End k r x))

  of_elements : Each OfElement (element_steps o 1 k r)
  of_elements = each_element o 1 OfElement k r (λ x u. ((x, u, inl refl), (x, u, inr refl)))

  pub none : (f : Step → Bool) → ((y : ℕ) → runs o k r y ≡ true → meets f k r y ≡ false) → first_of f (element_steps o 1 k r) ≡ None
  none f h = first_none f (element_steps o 1 k r) (each_element o 1 (λ t. f t ≡ false) k r (λ x u. (
    false_from_ne_true (f (Begin k r x)) (λ e. false≢true (sym (h x u) ∙ or_left (f (Begin k r x)) (f (End k r x)) e)),
    false_from_ne_true (f (End k r x)) (λ e. false≢true (sym (h x u) ∙ or_right (f (Begin k r x)) (f (End k r x)) e)),
  )))

  module _ (f : Step → Bool) (x : ℕ) (h : IsFirst o f k r x) where
    -- the steps of the other elements
    beyond : (y i j : ℕ) (e : Step) → runs o k r y ≡ true → meets f k r y ≡ true → (y ≡ x → ⊥) → Less (k ∷ place o 1 k r x i) (k ∷ place o 1 k r y j)
    beyond y i j e run m ne = inr (refl, key_less x y i j h.is_run (⊎_elim (λ u. absurd (ne u)) (λ u. u) (h.first y run m)))

    least_begin : f (Begin k r x) ≡ true → (u : Step) → has (element_steps o 1 k r) u ≡ true → f u ≡ true → (u ≡ Begin k r x) ⊎ Less (key o 1 (Begin k r x)) (key o 1 u)
    least_begin p u i m =
        let a : OfElement u = each_has OfElement (element_steps o 1 k r) u of_elements i in
        ⊎_elim
        (λ (e : u ≡ Begin k r a.0). ⊎_elim
        (λ (c : a.0 ≡ x). inl (e ∙ ap (Begin k r) c))
        (λ ne. inr (subst (λ z. Less (key o 1 (Begin k r x)) (key o 1 z)) (sym e) (beyond a.0 0 0 u a.1 (or_left (f (Begin k r a.0)) (f (End k r a.0)) (ap f (sym e) ∙ m)) ne)))
        (cases_eq a.0 x))
        (λ (e : u ≡ End k r a.0). inr (subst (λ z. Less (key o 1 (Begin k r x)) (key o 1 z)) (sym e) (⊎_elim
        (λ (c : a.0 ≡ x). subst (λ z. Less (key o 1 (Begin k r x)) (key o 1 (End k r z))) (sym c) (inr (refl, own_less x)))
        (λ ne. beyond a.0 0 1 u a.1 (or_right (f (Begin k r a.0)) (f (End k r a.0)) (ap f (sym e) ∙ m)) ne)
        (cases_eq a.0 x))))
        a.2

    least_end : f (Begin k r x) ≡ false → (u : Step) → has (element_steps o 1 k r) u ≡ true → f u ≡ true → (u ≡ End k r x) ⊎ Less (key o 1 (End k r x)) (key o 1 u)
    least_end p u i m =
        let a : OfElement u = each_has OfElement (element_steps o 1 k r) u of_elements i in
        ⊎_elim
        (λ (e : u ≡ Begin k r a.0). inr (subst (λ z. Less (key o 1 (End k r x)) (key o 1 z)) (sym e) (⊎_elim
        (λ (c : a.0 ≡ x). absurd (false≢true (sym p ∙ (ap (λ z. f (Begin k r z)) (sym c) ∙ (ap f (sym e) ∙ m)))))
        (λ ne. beyond a.0 1 0 u a.1 (or_left (f (Begin k r a.0)) (f (End k r a.0)) (ap f (sym e) ∙ m)) ne)
        (cases_eq a.0 x))))
        (λ (e : u ≡ End k r a.0). ⊎_elim
        (λ (c : a.0 ≡ x). inl (e ∙ ap (End k r) c))
        (λ ne. inr (subst (λ z. Less (key o 1 (End k r x)) (key o 1 z)) (sym e) (beyond a.0 1 1 u a.1 (or_right (f (Begin k r a.0)) (f (End k r a.0)) (ap f (sym e) ∙ m)) ne)))
        (cases_eq a.0 x))
        a.2

    pub some : first_of f (element_steps o 1 k r) ≡ first_of f (Begin k r x ∷ (End k r x ∷ []))
    some = ⊎_elim
        (λ (p : f (Begin k r x) ≡ true). first_least o f (element_steps o 1 k r) (Begin k r x) (element_layer o 1 k r).sorted (has_begin o 1 k r x h.is_run) p (least_begin p)
        ∙ sym (cond-true (f (Begin k r x)) (Some (Begin k r x)) (first_of f (End k r x ∷ [])) p))
        (λ (p : f (Begin k r x) ≡ false). (let m : f (End k r x) ≡ true = ⊎_elim (λ u. absurd (false≢true (sym p ∙ u))) (λ u. u) (or_cases (f (Begin k r x)) (f (End k r x)) h.is_met) in
        first_least o f (element_steps o 1 k r) (End k r x) (element_layer o 1 k r).sorted (has_end o 1 k r x h.is_run) m (least_end p)
        ∙ sym (cond-false (f (Begin k r x)) (Some (Begin k r x)) (first_of f (End k r x ∷ [])) p ∙ cond-true (f (End k r x)) (Some (End k r x)) None m)))
        (cases_Bool (f (Begin k r x)))
