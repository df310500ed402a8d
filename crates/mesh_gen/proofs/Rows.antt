-- Lists over the numbers of columns and rows, with one number more.
use Rattle.std.proofs.Common.{◌≡◌, ℕ, ℤ, ◌+◌, List, [], ◌∷◌, ◌++◌, map, sym, ap, ◌∙◌, zero-add, append_assoc}
use Rattle.std.proofs.lemmas.List.{map-id, flat_map_more}
use Rattle.std.proofs.lemmas.List.FromFn.{map-range_with_len_more}
use Rattle.std.specs.List.{flat_map}
use Rattle.mesh_gen.specs.Grid.{below}

pub below-more : (n : ℕ) → below (n + 1) ≡ below n ++ n ∷ []
below-more n = sym (map-id (below (n + 1))) ∙ map-range_with_len_more (λ x. x) 0 n n (zero-add n) ∙ ap (λ xs. xs ++ n ∷ []) (map-id (below n))

-- one place more of a row, or one row more
pub place_more : (f : ℕ → List ℤ) (n : ℕ) (start now next : List ℤ) → now ≡ start ++ flat_map f (below n) → next ≡ now ++ f n → next ≡ start ++ flat_map f (below (n + 1))
place_more f n start now next e m = m ∙ ap (λ xs. xs ++ f n) e ∙ flat_map_more f start (below n) n ∙ ap (λ xs. start ++ flat_map f xs) (sym (below-more n))

-- one place more of a side
pub side_more : (f : ℕ → ℤ) (n : ℕ) (start now next : List ℤ) → now ≡ start ++ map f (below n) → next ≡ now ++ f n ∷ [] → next ≡ start ++ map f (below (n + 1))
side_more f n start now next e m =
    m ∙ ap (λ xs. xs ++ f n ∷ []) e ∙ append_assoc start (map f (below n)) (f n ∷ []) ∙ ap (λ xs. start ++ xs) (sym (map-range_with_len_more f 0 n n (zero-add n)))
