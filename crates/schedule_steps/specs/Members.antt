-- Facts about the tests of steps and of lists of steps.
use Rattle.std.proofs.Common.{◌≡◌, ℕ, Bool, true, false, ◌⊎◌, inl, inr, refl, sym, ap, ◌∙◌, ⊎_elim, List, [], ◌∷◌, ◌++◌}
use Rattle.std.specs.Prelude.{◌&&◌, ◌||◌, ◌==◌}
use Rattle.std.proofs.lemmas.Bool.{false≢true, eqb-true, eq-eqb, or_cases, and_parts, or_left, or_right, and_from}
use Rattle.schedule_steps.specs.declared.step.Step.{Step}
use Rattle.schedule_steps.specs.declared.step.Step.TheVariants.{Send, Recv, Begin, End, Join}
use Rattle.schedule_steps.specs.Steps.{same3, same, has}

-- numbers that the test calls equal are equal
pub same3_true : (a b c x y z : ℕ) → same3 a b c x y z ≡ true → (a ≡ x) × (b ≡ y) × (c ≡ z)
same3_true a b c x y z h =
    let h1 : ((a == x) ≡ true) × (((b == y) && (c == z)) ≡ true) = and_parts (a == x) ((b == y) && (c == z)) h in
    let h2 : ((b == y) ≡ true) × ((c == z) ≡ true) = and_parts (b == y) (c == z) h1.1 in
    (eqb-true a x h1.0, eqb-true b y h2.0, eqb-true c z h2.1)

-- the test calls numbers equal to themselves
pub same3_refl : (a b c : ℕ) → same3 a b c a b c ≡ true
same3_refl a b c =
    and_from (a == a) ((b == b) && (c == c)) (eq-eqb a a refl) (and_from (b == b) (c == c) (eq-eqb b b refl) (eq-eqb c c refl))

same3_step : (f : ℕ → ℕ → ℕ → Step) (a b c x y z : ℕ) → same3 a b c x y z ≡ true → f a b c ≡ f x y z
same3_step f a b c x y z h =
    let e : (a ≡ x) × (b ≡ y) × (c ≡ z) = same3_true a b c x y z h in
    ap (λ i. f i b c) e.0 ∙ (ap (λ i. f x i c) e.1 ∙ ap (λ i. f x y i) e.2)

-- steps that the test calls one are one
pub same_true : (t s : Step) → same t s ≡ true → t ≡ s
same_true (Send a b c) (Send x y z) h = same3_step Send a b c x y z h
same_true (Recv a b c) (Recv x y z) h = same3_step Recv a b c x y z h
same_true (Begin a b c) (Begin x y z) h = same3_step Begin a b c x y z h
same_true (End a b c) (End x y z) h = same3_step End a b c x y z h
same_true (Join a) (Join x) h = ap Join (eqb-true a x h)
same_true _ _ h = absurd (false≢true h)

-- the test calls a step itself
pub same_refl : (s : Step) → same s s ≡ true
same_refl (Send a b c) = same3_refl a b c
same_refl (Recv a b c) = same3_refl a b c
same_refl (Begin a b c) = same3_refl a b c
same_refl (End a b c) = same3_refl a b c
same_refl (Join a) = eq-eqb a a refl

-- a step of the first list stands in both together
pub has_left : (x y : List Step) (t : Step) → has x t ≡ true → has (x ++ y) t ≡ true
has_left [] y t h = absurd (false≢true h)
has_left (s ∷ x) y t h = ⊎_elim
    (λ e. or_left (same t s) (has (x ++ y) t) e)
    (λ e. or_right (same t s) (has (x ++ y) t) (has_left x y t e))
    (or_cases (same t s) (has x t) h)

-- a step of the second list stands in both together
pub has_right : (x y : List Step) (t : Step) → has y t ≡ true → has (x ++ y) t ≡ true
has_right [] y t h = h
has_right (s ∷ x) y t h = or_right (same t s) (has (x ++ y) t) (has_right x y t h)

-- a step of both together stands in one of them
pub has_parts : (x y : List Step) (t : Step) → has (x ++ y) t ≡ true → (has x t ≡ true) ⊎ (has y t ≡ true)
has_parts [] y t h = inr h
has_parts (s ∷ x) y t h = ⊎_elim (λ e. inl (or_left (same t s) (has x t) e))
    (λ e. ⊎_elim (λ i. inl (or_right (same t s) (has x t) i)) (λ i. inr i) (has_parts x y t e))
    (or_cases (same t s) (has (x ++ y) t) h)

-- a step stands in a list where it was put
pub has_at : (x : List Step) (t : Step) (y : List Step) → has (x ++ (t ∷ y)) t ≡ true
has_at [] t y = or_left (same t t) (has y t) (same_refl t)
has_at (s ∷ x) t y = or_right (same t s) (has (x ++ (t ∷ y)) t) (has_at x t y)

-- where a step stands in a list
pub split_at : (l : List Step) (t : Step) → has l t ≡ true → (x : List Step) × (y : List Step) × (l ≡ x ++ (t ∷ y))
split_at [] t h = absurd (false≢true h)
split_at (s ∷ l) t h = ⊎_elim
    (λ (e : same t s ≡ true). ([], l, ap (λ z. z ∷ l) (sym (same_true t s e))))
    (λ (e : has l t ≡ true).
    let r : (x : List Step) × (y : List Step) × (l ≡ x ++ (t ∷ y)) = split_at l t e in
    (s ∷ r.0, r.1, ap (λ z. s ∷ z) r.2))
    (or_cases (same t s) (has l t) h)

-- the steps that stand in a list, with one more at its end
pub has_push : (l : List Step) (s t : Step) → has (l ++ (s ∷ [])) t ≡ (same t s || has l t)
has_push [] s t = refl
has_push (u ∷ l) s t = ap (λ b. same t u || b) (has_push l s t) ∙ swap3 (same t u) (same t s) (has l t)
  where
    swap3 : (a b c : Bool) → (a || (b || c)) ≡ (b || (a || c))
    swap3 true true c = refl
    swap3 true false c = refl
    swap3 false true c = refl
    swap3 false false c = refl
