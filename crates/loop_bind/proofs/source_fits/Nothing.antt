-- Lists without an element, and tests that did not hold.
use Rattle.std.proofs.Common.{◌≡◌, List, [], ◌∷◌, ◌++◌, Bool, true, false, refl, sym, subst}

abbrev pub IsNil : {X : Type 0} → List X → Type 0
IsNil [] = Unit {0}
IsNil (x ∷ xs) = ⊥

pub left_nil : {X : Type 0} (xs ys : List X) → xs ++ ys ≡ [] → xs ≡ []
left_nil [] ys e = refl
left_nil (x ∷ xs) ys e = absurd (subst IsNil (sym e) tt)

pub right_nil : {X : Type 0} (xs ys : List X) → xs ++ ys ≡ [] → ys ≡ []
right_nil [] ys e = e
right_nil (x ∷ xs) ys e = absurd (subst IsNil (sym e) tt)

abbrev IsFalse : Bool → Type 0
IsFalse false = Unit {0}
IsFalse true = ⊥

pub never : {X : Type 0} → true ≡ false → X
never e = absurd (subst IsFalse (sym e) tt)
