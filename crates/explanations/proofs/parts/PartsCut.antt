-- Parts, one after another.
use Rattle.std.proofs.Common.{◌≡◌, ℕ, suc, zero, ◌+◌, ◌<◌, ◌≤◌, nat_eq, Some, None, List, [], ◌∷◌, length, take, drop, slice_get, refl, sym, ap, ◌∙◌, arith}
use Rattle.std.proofs.lemmas.List.{drop-drop}
use Rattle.std.proofs.lemmas.List.Sums.{fails_before_first}
use Rattle.std.proofs.lemmas.List.Splits.{slice_split_none, slice_split_first}
use Rattle.std.proofs.lemmas.Option.{slice_get_past}
use Rattle.std.specs.List.{position_or_len, before_first, after_first}
use Rattle.explanations.specs.Cuts.{parts}

module _ (separator : ℕ) where
  -- bytes without a separator are one part
  pub last_part : (bytes : List ℕ) → position_or_len (λ b. nat_eq b separator) bytes ≡ length bytes → parts separator bytes ≡ bytes ∷ []
  last_part bytes e =
      slice_split_none (λ b. nat_eq b separator) bytes (λ k d lt. fails_before_first (λ b. nat_eq b separator) bytes k d (omega (arith, e, lt)))

  -- a part in front of more
  part_taken : (bytes part more : List ℕ) → position_or_len (λ b. nat_eq b separator) bytes < length bytes
      → part ≡ before_first (λ b. nat_eq b separator) bytes → more ≡ after_first (λ b. nat_eq b separator) bytes
      → parts separator bytes ≡ part ∷ parts separator more
  part_taken bytes part more lt front back =
      slice_split_first (λ b. nat_eq b separator) bytes 0 lt
      ∙ ap (λ p. p ∷ parts separator (after_first (λ b. nat_eq b separator) bytes)) (sym front) ∙ ap (λ r. part ∷ parts separator r) (sym back)

  -- the same, by the pieces that the code cuts
  pub part_cut : (n : ℕ) (bytes part behind more : List ℕ) → n ≡ position_or_len (λ b. nat_eq b separator) bytes → n ≤ length bytes
      → (n ≡ length bytes → ⊥) → part ≡ take n bytes → behind ≡ drop n bytes → more ≡ drop 1 behind
      → parts separator bytes ≡ part ∷ parts separator more
  part_cut n bytes part behind more size within some front back next =
      part_taken bytes part more (omega arith) (front ∙ ap (λ k. take k bytes) size)
      (next ∙ ap (drop 1) back ∙ drop-drop 1 n bytes ∙ ap (λ k. drop (k + 1) bytes) size)

-- ---- one of them

get_behind : (n : ℕ) (ps : List (List ℕ)) → slice_get (drop n ps) 0 ≡ slice_get ps n
get_behind zero ps = refl
get_behind (suc n) [] = refl
get_behind (suc n) (p ∷ ps) = get_behind n ps

-- the part behind so many, where one more is to come
pub part_there : (n : ℕ) (ps : List (List ℕ)) (p : List ℕ) (more : List (List ℕ)) → p ∷ more ≡ drop n ps → slice_get ps n ≡ Some p
part_there n ps p more e = sym (get_behind n ps) ∙ ap (λ ys. slice_get ys 0) (sym e)

-- no part behind so many, where none is to come
pub no_part : (k n : ℕ) (ps : List (List ℕ)) → [] ≡ drop k ps → k ≤ n → slice_get ps n ≡ None
no_part zero n [] e le = slice_get_past [] n (omega arith)
no_part zero n (p ∷ ps) e le = let s : 0 ≡ length (p ∷ ps) = ap length e in absurd (omega (arith, s))
no_part (suc k) n [] e le = slice_get_past [] n (omega arith)
no_part (suc k) zero (p ∷ ps) e le = absurd (omega (arith, le))
no_part (suc k) (suc n) (p ∷ ps) e le = no_part k n ps e (omega (arith, le))

-- one part more is passed
pub passed : (k : ℕ) (ps : List (List ℕ)) (p : List ℕ) (more : List (List ℕ)) → p ∷ more ≡ drop k ps → more ≡ drop (k + 1) ps
passed k ps p more e = ap (drop 1) e ∙ drop-drop 1 k ps
