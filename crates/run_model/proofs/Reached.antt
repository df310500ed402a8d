-- What arguments reach, and lists of it without what stands in them before.
use Rattle.std.proofs.Common.{◌≡◌, ◌<◌, ℕ, zero, suc, true, false, List, [], ◌∷◌, map, length, get_or, refl, sym, ap, ap₂, ◌∙◌, subst, ◌⊎◌, inl, inr, ⊎_elim, arith}
use Rattle.std.specs.Prelude.{nat_eq}
use Rattle.std.proofs.lemmas.Bool.{cases_Bool, false≢true, and_parts, and_from, eq-eqb, eqb-true, cond-true, cond-false}
use Rattle.schedule_model.specs.Cells.{Cell, Data, Variable}
use Rattle.bound_program.specs.declared.sites.Arg.{Arg}
use Rattle.run_model.specs.Windows.{Reached, Element, Whole, is_same, without, different, cell_in}
use Rattle.run_model.specs.Arguments.{no_arg}

pub same_true : (r q : Reached) → is_same r q ≡ true → r ≡ q
same_true (Element d x) (Element e y) h = let p = and_parts (nat_eq d e) (nat_eq x y) h in ap₂ Element (eqb-true d e p.0) (eqb-true x y p.1)
same_true (Whole v) (Whole w) h = ap Whole (eqb-true v w h)
same_true (Element d x) (Whole w) h = absurd (false≢true h)
same_true (Whole v) (Element e y) h = absurd (false≢true h)

pub same_refl : (r : Reached) → is_same r r ≡ true
same_refl (Element d x) = and_from (nat_eq d d) (nat_eq x x) (eq-eqb d d refl) (eq-eqb x x refl)
same_refl (Whole v) = eq-eqb v v refl

pub not_same : (r q : Reached) → is_same r q ≡ false → r ≡ q → ⊥
not_same r q h e = false≢true (sym h ∙ ap (is_same r) (sym e) ∙ same_refl r)

-- ---- cells

-- what has the cell, and which of its cells it is
abbrev holder : Cell → Reached
holder (Data c) = Element c.dat c.element
holder (Variable v) = Whole v.variable

abbrev number_in : Cell → ℕ
number_in (Data c) = c.component
number_in (Variable v) = v.component

holder_is : (r : Reached) (i : ℕ) → holder (cell_in r i) ≡ r
holder_is (Element d x) i = refl
holder_is (Whole v) i = refl

number_is : (r : Reached) (i : ℕ) → number_in (cell_in r i) ≡ i
number_is (Element d x) i = refl
number_is (Whole v) i = refl

pub same_holder : (r q : Reached) (i j : ℕ) → cell_in r i ≡ cell_in q j → r ≡ q
same_holder r q i j e = sym (holder_is r i) ∙ ap holder e ∙ holder_is q j

pub same_number : (r q : Reached) (i j : ℕ) → cell_in r i ≡ cell_in q j → i ≡ j
same_number r q i j e = sym (number_is r i) ∙ ap number_in e ∙ number_is q j

-- ---- members

-- it stands in the list
abbrev pub Member : List Reached → Reached → Type 0
Member [] r = ⊥
Member (x ∷ xs) r = (x ≡ r) ⊎ Member xs r

-- nothing stands twice in the list
abbrev pub Distinct : List Reached → Type 0
Distinct [] = Unit {0}
Distinct (x ∷ xs) = (Member xs x → ⊥) × Distinct xs

-- what holds of both forms of a list with or without its first
on_both : (P : List Reached → Type 0) (r x : Reached) (xs : List Reached)
    → (is_same x r ≡ true → P (without r xs)) → (is_same x r ≡ false → P (x ∷ without r xs)) → P (without r (x ∷ xs))
on_both P r x xs f g = ⊎_elim
    (λ (t : is_same x r ≡ true). subst P (sym (cond-true (is_same x r) (without r xs) (x ∷ without r xs) t)) (f t))
    (λ (t : is_same x r ≡ false). subst P (sym (cond-false (is_same x r) (without r xs) (x ∷ without r xs) t)) (g t))
    (cases_Bool (is_same x r))

absent : (r : Reached) (xs : List Reached) → Member (without r xs) r → ⊥
absent r [] h = h
absent r (x ∷ xs) h = on_both (λ l. Member l r → ⊥) r x xs (λ t. absent r xs) (λ t. ⊎_elim (not_same x r t) (absent r xs)) h

still : (r q : Reached) (xs : List Reached) → (q ≡ r → ⊥) → Member xs q → Member (without r xs) q
still r q [] apart h = h
still r q (x ∷ xs) apart h = on_both (λ l. Member l q) r x xs
    (λ t. ⊎_elim (λ e. absurd (apart (sym e ∙ same_true x r t))) (still r q xs apart) h)
    (λ t. ⊎_elim (λ e. inl e) (λ m. inr (still r q xs apart m)) h)

before : (r q : Reached) (xs : List Reached) → Member (without r xs) q → Member xs q
before r q [] h = h
before r q (x ∷ xs) h = on_both (λ l. Member l q → Member (x ∷ xs) q) r x xs
    (λ t m. inr (before r q xs m))
    (λ t. ⊎_elim (λ e. inl e) (λ m. inr (before r q xs m))) h

distinct_without : (r : Reached) (xs : List Reached) → Distinct xs → Distinct (without r xs)
distinct_without r [] d = d
distinct_without r (x ∷ xs) d = on_both Distinct r x xs
    (λ t. distinct_without r xs d.1)
    (λ t. ((λ m. d.0 (before r x xs m)), distinct_without r xs d.1))

pub distinct : (xs : List Reached) → Distinct (different xs)
distinct [] = tt
distinct (x ∷ xs) = (absent x (different xs), distinct_without x (different xs) (distinct xs))

pub is_different : (q : Reached) (xs : List Reached) → Member xs q → Member (different xs) q
is_different q [] h = h
is_different q (x ∷ xs) h = ⊎_elim
    (λ (t : is_same q x ≡ true). inl (sym (same_true q x t)))
    (λ (t : is_same q x ≡ false). ⊎_elim (λ e. inl e) (λ m. inr (still x q (different xs) (not_same q x t) (is_different q xs m))) h)
    (cases_Bool (is_same q x))

pub of_different : (q : Reached) (xs : List Reached) → Member (different xs) q → Member xs q
of_different q [] h = h
of_different q (x ∷ xs) h = ⊎_elim (λ e. inl e) (λ m. inr (of_different q xs (before x q (different xs) m))) h

-- ---- what a list of arguments reaches

pub reached_by : (f : Arg → Reached) (xs : List Arg) (a : ℕ) → a < length xs → Member (map f xs) (f (get_or xs a no_arg))
reached_by f [] a lt = absurd (omega arith)
reached_by f (x ∷ xs) zero lt = inl refl
reached_by f (x ∷ xs) (suc a) lt = inr (reached_by f xs a (omega arith))

pub by_one : (f : Arg → Reached) (xs : List Arg) (r : Reached) → Member (map f xs) r → (a : ℕ) × (a < length xs) × (f (get_or xs a no_arg) ≡ r)
by_one f [] r h = absurd h
by_one f (x ∷ xs) r h = ⊎_elim
    (λ (e : f x ≡ r). (0, (let lt : 0 < suc (length xs) = omega arith in lt), e))
    (λ m. let w = by_one f xs r m in (suc w.0, (let lt : suc w.0 < suc (length xs) = omega (arith, w.1) in lt), w.2))
    h
