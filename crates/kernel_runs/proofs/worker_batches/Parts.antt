-- What holds of each part of a list, with its number.
use Rattle.std.proofs.Common.{◌≡◌, ℕ, suc, ◌+◌, ◌<◌, List, [], ◌∷◌, length, drop, get_or, subst, arith}
use Rattle.std.proofs.Math.Seq.{drop-cons}
use Rattle.par_exec.specs.Parts.{TakesEach, MadeEach}

-- what the job makes of each
pub made_each : {X : Type 0} (P : ℕ → X → Type 0) (i : ℕ) (xs ys : List X) → MadeEach (λ j x y. P j y) i xs ys → TakesEach P i ys
made_each P i [] [] made = tt
made_each P i [] (y ∷ ys) made = absurd made
made_each P i (x ∷ xs) [] made = absurd made
made_each P i (x ∷ xs) (y ∷ ys) made = (made.0, made_each P (suc i) xs ys made.1)

-- what holds of each number
pub takes_each : {X : Type 0} (P : ℕ → Type 0) (i : ℕ) (xs : List X) → ((j : ℕ) → j < length xs → P (i + j)) → TakesEach (λ n x. P n) i xs
takes_each P i [] all = tt
takes_each P i (x ∷ xs) all =
    let first : i + 0 ≡ i = omega arith in (
      subst P first (all 0 (omega arith)),
      takes_each P (suc i) xs (λ j lt. let e : i + suc j ≡ suc i + j = omega arith in subst P e (all (suc j) (omega (arith, lt)))),
    )

-- the part at a number, and those behind it
pub next_part : {X : Type 0} (P : ℕ → X → Type 0) (i : ℕ) (xs : List X) (d : X) → i < length xs → TakesEach P i (drop i xs) → P i (get_or xs i d) × TakesEach P (i + 1) (drop (i + 1) xs)
next_part P i xs d lt all =
    let here : TakesEach P i (get_or xs i d ∷ drop (suc i) xs) = subst (TakesEach P i) (drop-cons xs i d lt) all in
    let e : suc i ≡ i + 1 = omega arith in
    (here.0, subst (λ n. TakesEach P n (drop n xs)) e here.1)
