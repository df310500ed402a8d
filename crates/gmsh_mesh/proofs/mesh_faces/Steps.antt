-- One item more of a list that is made item for item.
use Rattle.std.proofs.Common.{◌≡◌, ℕ, zero, suc, ◌+◌, ◌<◌, ◌∙◌, ◌++◌, [], ◌∷◌, arith, List, length, map, take, get_or, refl, sym, ap, append_assoc}
use Rattle.std.specs.List.{flat_map}
use Rattle.std.proofs.lemmas.List.{append-nil}

flat-suc : {A : Type 0} (f : ℕ → List A) (xs : List ℕ) (i : ℕ) → i < length xs → flat_map f (take (suc i) xs) ≡ flat_map f (take i xs) ++ f (get_or xs i 0)
flat-suc f [] i h = absurd (omega arith)
flat-suc f (x ∷ xs) zero h = append-nil (f x)
flat-suc f (x ∷ xs) (suc i) h = ap (λ ys. f x ++ ys) (flat-suc f xs i (omega arith)) ∙ sym (append_assoc (f x) (flat_map f (take i xs)) (f (get_or xs i 0)))

map-suc : {A : Type 0} (f : ℕ → A) (xs : List ℕ) (i : ℕ) → i < length xs → map f (take (suc i) xs) ≡ map f (take i xs) ++ f (get_or xs i 0) ∷ []
map-suc f [] i h = absurd (omega arith)
map-suc f (x ∷ xs) zero h = refl
map-suc f (x ∷ xs) (suc i) h = ap (λ ys. f x ∷ ys) (map-suc f xs i (omega arith))

take-all : (xs : List ℕ) (n : ℕ) → n ≡ length xs → take n xs ≡ xs
take-all xs n e = ap (λ k. take k xs) e ∙ whole xs
  where
    whole : (xs : List ℕ) → take (length xs) xs ≡ xs
    whole [] = refl
    whole (x ∷ xs) = ap (λ ys. x ∷ ys) (whole xs)

module _ {A : Type 0} (xs : List ℕ) (i : ℕ) (sofar next : List A) where
  pub flat-more : (f : ℕ → List A) → i < length xs → sofar ≡ flat_map f (take i xs) → next ≡ sofar ++ f (get_or xs i 0) → next ≡ flat_map f (take (i + 1) xs)
  flat-more f h s n =
      let e : suc i ≡ i + 1 = omega arith in
      n ∙ ap (λ ys. ys ++ f (get_or xs i 0)) s ∙ sym (flat-suc f xs i h) ∙ ap (λ k. flat_map f (take k xs)) e

  pub map-more : (f : ℕ → A) → i < length xs → sofar ≡ map f (take i xs) → next ≡ sofar ++ f (get_or xs i 0) ∷ [] → next ≡ map f (take (i + 1) xs)
  map-more f h s n =
      let e : suc i ≡ i + 1 = omega arith in
      n ∙ ap (λ ys. ys ++ f (get_or xs i 0) ∷ []) s ∙ sym (map-suc f xs i h) ∙ ap (λ k. map f (take k xs)) e

module _ {A : Type 0} (xs : List ℕ) (i : ℕ) (all : List A) where
  pub flat-all : (f : ℕ → List A) → i ≡ length xs → all ≡ flat_map f (take i xs) → all ≡ flat_map f xs
  flat-all f e s = s ∙ ap (flat_map f) (take-all xs i e)

  pub map-all : (f : ℕ → A) → i ≡ length xs → all ≡ map f (take i xs) → all ≡ map f xs
  map-all f e s = s ∙ ap (map f) (take-all xs i e)
