-- The arguments of a loop with those on dats first.
use Rattle.std.proofs.Common.{◌≡◌, ◌<◌, ℕ, zero, suc, ◌⊎◌, inl, inr, List, [], ◌∷◌, ◌++◌, length, get_or, refl, ⊎_elim, arith}
use Rattle.bound_program.specs.declared.sites.Arg.{Arg}
use Rattle.bound_program.specs.declared.sites.Arg.TheVariants.{Dat, Global}
use Rattle.run_model.specs.Arguments.{no_arg}
use Rattle.bound_plan.specs.Windows.{on_dats, on_variables, dats_first}

-- the argument is one of the list
pub record Has (xs : List Arg) (y : Arg) : Type 0 where
  pub number : ℕ
  pub there : number < length xs
  pub is : get_or xs number no_arg ≡ y

pub further : (x : Arg) (xs : List Arg) (y : Arg) → Has xs y → Has (x ∷ xs) y
further x xs y h = record { number = suc h.number; there = (let l : h.number < length xs = h.there in omega arith); is = h.is }

before : (xs ys : List Arg) (y : Arg) (a : ℕ) → a < length xs → get_or xs a no_arg ≡ y → Has (xs ++ ys) y
before [] ys y a l e = absurd (omega arith)
before (x ∷ xs) ys y zero l e = record { number = 0; there = omega arith; is = e }
before (x ∷ xs) ys y (suc a) l e = further x (xs ++ ys) y (before xs ys y a (omega arith) e)

behind : (xs ys : List Arg) (y : Arg) → Has ys y → Has (xs ++ ys) y
behind [] ys y h = h
behind (x ∷ xs) ys y h = further x (xs ++ ys) y (behind xs ys y h)

either : (xs ys : List Arg) (y : Arg) (a : ℕ) → a < length (xs ++ ys) → get_or (xs ++ ys) a no_arg ≡ y → Has xs y ⊎ Has ys y
either [] ys y a l e = inr (record { number = a; there = l; is = e })
either (x ∷ xs) ys y zero l e = inl (record { number = 0; there = omega arith; is = e })
either (x ∷ xs) ys y (suc a) l e = ⊎_elim (λ h. inl (further x xs y h)) (λ h. inr h) (either xs ys y a (omega arith) e)

-- ---- each argument stands in one of the two lists

in_lists : (xs : List Arg) (y : Arg) (a : ℕ) → a < length xs → get_or xs a no_arg ≡ y → Has (on_dats xs) y ⊎ Has (on_variables xs) y
in_lists [] y a l e = absurd (omega arith)
in_lists (Dat d v x ∷ xs) y zero l e = inl (record { number = 0; there = omega arith; is = e })
in_lists (Global v x ∷ xs) y zero l e = inr (record { number = 0; there = omega arith; is = e })
in_lists (Dat d v x ∷ xs) y (suc a) l e = ⊎_elim (λ h. inl (further (Dat d v x) (on_dats xs) y h)) (λ h. inr h) (in_lists xs y a (omega arith) e)
in_lists (Global v x ∷ xs) y (suc a) l e = ⊎_elim (λ h. inl h) (λ h. inr (further (Global v x) (on_variables xs) y h)) (in_lists xs y a (omega arith) e)

pub arranged : (xs : List Arg) (a : ℕ) → a < length xs → Has (dats_first xs) (get_or xs a no_arg)
arranged xs a l = ⊎_elim
    (λ h. before (on_dats xs) (on_variables xs) (get_or xs a no_arg) h.number h.there h.is)
    (λ h. behind (on_dats xs) (on_variables xs) (get_or xs a no_arg) h)
    (in_lists xs (get_or xs a no_arg) a l refl)

-- ---- and only arguments do

of_dats : (xs : List Arg) (y : Arg) (a : ℕ) → a < length (on_dats xs) → get_or (on_dats xs) a no_arg ≡ y → Has xs y
of_dats [] y a l e = absurd (omega arith)
of_dats (Dat d v x ∷ xs) y zero l e = record { number = 0; there = omega arith; is = e }
of_dats (Dat d v x ∷ xs) y (suc a) l e = further (Dat d v x) xs y (of_dats xs y a (omega arith) e)
of_dats (Global v x ∷ xs) y a l e = further (Global v x) xs y (of_dats xs y a l e)

of_variables : (xs : List Arg) (y : Arg) (a : ℕ) → a < length (on_variables xs) → get_or (on_variables xs) a no_arg ≡ y → Has xs y
of_variables [] y a l e = absurd (omega arith)
of_variables (Global v x ∷ xs) y zero l e = record { number = 0; there = omega arith; is = e }
of_variables (Global v x ∷ xs) y (suc a) l e = further (Global v x) xs y (of_variables xs y a (omega arith) e)
of_variables (Dat d v x ∷ xs) y a l e = further (Dat d v x) xs y (of_variables xs y a l e)

pub of_arranged : (xs : List Arg) (a : ℕ) → a < length (dats_first xs) → Has xs (get_or (dats_first xs) a no_arg)
of_arranged xs a l = ⊎_elim
    (λ h. of_dats xs (get_or (dats_first xs) a no_arg) h.number h.there h.is)
    (λ h. of_variables xs (get_or (dats_first xs) a no_arg) h.number h.there h.is)
    (either (on_dats xs) (on_variables xs) (get_or (dats_first xs) a no_arg) a l refl)
