-- Lists one after another, with one list more.
use Rattle.std.proofs.Common.{◌≡◌, ◌<◌, ◌≤◌, ◌+◌, ℕ, List, [], ◌∷◌, ◌++◌, flat_map, length, take, drop, get_or, sym, ap, ◌∙◌, arith, length-append}
use Rattle.std.proofs.lemmas.List.{append-nil, take_more, take-append-drop}
use Rattle.std.proofs.lemmas.List.Concat.{flat_map-append}

module _ {X A : Type 0} (f : X → List A) where
  pub flat_more : (xs : List X) (i : ℕ) (d : X) → i < length xs → flat_map f (take (i + 1) xs) ≡ flat_map f (take i xs) ++ f (get_or xs i d)
  flat_more xs i d lt =
      ap (flat_map f) (take_more xs i d lt) ∙ flat_map-append f (take i xs) (get_or xs i d ∷ [])
      ∙ ap (λ z. flat_map f (take i xs) ++ z) (append-nil (f (get_or xs i d)))

  pub flat_part : (xs : List X) (n : ℕ) → length (flat_map f (take n xs)) ≤ length (flat_map f xs)
  flat_part xs n =
      let whole : length (flat_map f xs) ≡ length (flat_map f (take n xs)) + length (flat_map f (drop n xs)) =
      ap (λ z. length (flat_map f z)) (sym (take-append-drop n xs))
      ∙ ap length (flat_map-append f (take n xs) (drop n xs)) ∙ length-append (flat_map f (take n xs)) (flat_map f (drop n xs)) in
      omega (arith, whole)
