-- Scalars from an index on.
use Rattle.std.proofs.Common.{◌≡◌, ℕ, ℤ, ◌+◌, ◌<◌, List, ◌∷◌, length, drop, get_or, ap, subst, sym, ◌∙◌, add-one}
use Rattle.std.proofs.Math.Seq.{drop-cons}
use Rattle.rank_state.specs.declared.scalars.Scalar.{Scalar}
use Rattle.rank_state.specs.Windows.{InSlots, Merges}
use Rattle.rank_state.specs.Joins.{reduce_one, reduce_all}

pub next : (xs : List Scalar) (i : ℕ) (d : Scalar) → i < length xs → drop i xs ≡ get_or xs i d ∷ drop (i + 1) xs
next xs i d lt = drop-cons xs i d lt ∙ ap (λ n. get_or xs i d ∷ drop n xs) (sym (add-one i))

pub merges_next : (n : ℕ) (xs : List Scalar) (i : ℕ) (d : Scalar) → i < length xs → Merges n (drop i xs) → InSlots n (get_or xs i d) × Merges n (drop (i + 1) xs)
merges_next n xs i d lt h = let g : Merges n (get_or xs i d ∷ drop (i + 1) xs) = subst (Merges n) (next xs i d lt) h in (g.0, g.1)

pub reduce_next : (rows : List (List ℤ)) (n : ℕ) (xs : List Scalar) (i : ℕ) (d : Scalar) (vs new : List ℤ) → i < length xs
    → new ≡ reduce_one rows n (get_or xs i d) vs → reduce_all rows n (drop (i + 1) xs) new ≡ reduce_all rows n (drop i xs) vs
reduce_next rows n xs i d vs new lt e = ap (reduce_all rows n (drop (i + 1) xs)) e ∙ ap (λ z. reduce_all rows n z vs) (sym (next xs i d lt))
