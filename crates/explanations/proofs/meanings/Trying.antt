-- Texts that are still to be tried, and tables behind one another.
use Rattle.std.proofs.Common.{◌≡◌, ◌∙◌, ℕ, ◌+◌, Bool, Option, Some, None, option_map, Bor, List, ◌++◌, length, refl, sym, ap, ap₂}
use Rattle.std.proofs.lemmas.List.Folds.{find-append}
use Rattle.std.specs.Option.{option_or}
use Rattle.std.specs.List.{find}

-- how many bytes are left, and one more where there are some to come
abbrev pub left : Option (Bor (List ℕ)) → ℕ
left None = 0
left (Some rest) = length rest.now + 1

or_of : (r s : Option (Bor (List ℕ))) → option_map (λ t. t.now) (option_or r s) ≡ option_or (option_map (λ t. t.now) r) (option_map (λ t. t.now) s)
or_of None s = refl
or_of (Some t) s = refl

-- the first in a table, or else the first in the next
pub found_behind : (p : List ℕ → Bool) (xs ys : List (List ℕ)) (r s t : Option (Bor (List ℕ)))
    → option_map (λ t. t.now) r ≡ find p xs → option_map (λ t. t.now) s ≡ find p ys → t ≡ option_or r s
    → option_map (λ t. t.now) t ≡ find p (xs ++ ys)
found_behind p xs ys r s t front back is =
    ap (option_map (λ t. t.now)) is ∙ (or_of r s ∙ (ap₂ option_or front back ∙ sym (find-append p xs ys)))
