-- Maps over lists in place.
use Rattle.std.proofs.Common.{◌≡◌, ◌<◌, ◌+◌, ◌++◌, ◌∷◌, [], ℕ, zero, suc, List, map, take, drop, length, get_or, slice_set, refl, ap, arith}

module _ {A : Type 0} (f : A → A) where
  -- the next element, which the map has not reached
  pub next_of_map : (xs : List A) (i : ℕ) (d : A) → i < length xs → get_or (map f (take i xs) ++ drop i xs) i d ≡ get_or xs i d
  next_of_map [] i d lt = absurd (omega (arith, lt))
  next_of_map (x ∷ xs) zero d lt = refl
  next_of_map (x ∷ xs) (suc i) d lt = next_of_map xs i d (omega (arith, lt))

  -- the map goes on to it
  pub map_more : (xs : List A) (i : ℕ) (d : A) → i < length xs
      → slice_set (map f (take i xs) ++ drop i xs) i (f (get_or xs i d)) ≡ map f (take (suc i) xs) ++ drop (suc i) xs
  map_more [] i d lt = absurd (omega (arith, lt))
  map_more (x ∷ xs) zero d lt = refl
  map_more (x ∷ xs) (suc i) d lt = ap (λ l. f x ∷ l) (map_more xs i d (omega (arith, lt)))
