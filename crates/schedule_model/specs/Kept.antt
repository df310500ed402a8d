-- Keeping the least fault only, in place of all that are recorded.
use Rattle.std.specs.Prelude.{◌≡◌, ℕ, cond, nat_lt, Option, Some, None, List, [], ◌∷◌}
use Rattle.schedule_model.specs.Sequential.{Stop}
use Rattle.schedule_model.specs.Machine.{is_less}

-- the fault that is kept, after one more: the lesser, and the first of equals
abbrev pub kept : {F : Type 0} → Option (Stop F) → Stop F → Option (Stop F)
kept None x = Some x
kept (Some y) x = Some (cond (is_less x y) x y)

-- the fault that is kept after all of the list
abbrev pub kept_of : {F : Type 0} → Option (Stop F) → List (Stop F) → Option (Stop F)
kept_of o [] = o
kept_of o (x ∷ xs) = kept_of (kept o x) xs

-- the fault, where its item is before k
abbrev pub if_before : {F : Type 0} → ℕ → Option (Stop F) → Option (Stop F)
if_before k None = None
if_before k (Some x) = cond (nat_lt x.item k) (Some x) None

-- each is the fault of an element
abbrev pub OfElements : {F : Type 0} → List (Stop F) → Type 0
OfElements [] = Unit {0}
OfElements (x ∷ xs) = ((e : ℕ) × (x.element ≡ Some e)) × OfElements xs
