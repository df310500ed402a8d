-- The names that a job reads are lent, where all of its words are.
use Rattle.std.proofs.Common.{zero, suc, List, [], ◌∷◌, ◌++◌, All, arith}

pub all_left : {X : Type 0} (P : X → Type 0) (xs ys : List X) → All P (xs ++ ys) → All P xs
all_left P [] ys h k d lt = absurd (omega (arith, lt))
all_left P (x ∷ xs) ys h zero d lt = h zero d (omega arith)
all_left P (x ∷ xs) ys h (suc k) d lt = all_left P xs ys (λ j e l. h (suc j) e (omega (arith, l))) k d (omega (arith, lt))

pub all_right : {X : Type 0} (P : X → Type 0) (xs ys : List X) → All P (xs ++ ys) → All P ys
all_right P [] ys h = h
all_right P (x ∷ xs) ys h = all_right P xs ys (λ j e l. h (suc j) e (omega (arith, l)))
