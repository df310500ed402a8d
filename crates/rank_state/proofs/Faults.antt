-- The fault that is kept, after one more.
use Rattle.std.proofs.Common.{◌≡◌, ℕ, refl, Option, Some, List, [], ◌∷◌, ◌++◌}
use Rattle.schedule_model.specs.Sequential.{Stop}
use Rattle.schedule_model.specs.Kept.{kept, kept_of, OfElements}

pub kept_push : {F : Type 0} (o : Option (Stop F)) (xs : List (Stop F)) (x : Stop F) → kept_of o (xs ++ (x ∷ [])) ≡ kept (kept_of o xs) x
kept_push o [] x = refl
kept_push o (y ∷ xs) x = kept_push (kept o y) xs x

pub elements_push : {F : Type 0} (xs : List (Stop F)) (x : Stop F) → OfElements xs → (e : ℕ) × (x.element ≡ Some e) → OfElements (xs ++ (x ∷ []))
elements_push [] x h i = (i, tt)
elements_push (y ∷ xs) x h i = (h.0, elements_push xs x h.1 i)
