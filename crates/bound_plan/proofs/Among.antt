-- Cells in lists of cells.
use Rattle.std.proofs.Common.{◌≡◌, ◌<◌, ℕ, zero, suc, true, ◌⊎◌, inl, inr, List, [], ◌∷◌, ◌++◌, length, get_or, flat_map, subst, ⊎_elim, arith}
use Rattle.std.proofs.lemmas.Bool.{false≢true, or_cases, or_left, or_right}
use Rattle.schedule_model.specs.Cells.{Cell, same_cell}
use Rattle.schedule_model.specs.Tests.{same_cell_refl, same_cell_true}
use Rattle.schedule_model.specs.Layout.{among}
use Rattle.run_model.specs.OnWindows.{no_cell}

pub among_at : (xs : List Cell) (j : ℕ) (c : Cell) → j < length xs → get_or xs j no_cell ≡ c → among xs c ≡ true
among_at [] j c l e = absurd (omega arith)
among_at (x ∷ xs) zero c l e = or_left (same_cell x c) (among xs c) (subst (λ z. same_cell x z ≡ true) e (same_cell_refl x))
among_at (x ∷ xs) (suc j) c l e = or_right (same_cell x c) (among xs c) (among_at xs j c (omega arith) e)

pub at_among : (xs : List Cell) (c : Cell) → among xs c ≡ true → (j : ℕ) × (j < length xs) × (get_or xs j no_cell ≡ c)
at_among [] c h = absurd (false≢true h)
at_among (x ∷ xs) c h = ⊎_elim
    (λ (t : same_cell x c ≡ true). (zero, omega arith, same_cell_true x c t))
    (λ (t : among xs c ≡ true).
    let w : (j : ℕ) × (j < length xs) × (get_or xs j no_cell ≡ c) = at_among xs c t in
    (suc w.0, (let l : w.0 < length xs = w.1 in omega arith), w.2))
    (or_cases (same_cell x c) (among xs c) h)

left : (xs ys : List Cell) (c : Cell) → among xs c ≡ true → among (xs ++ ys) c ≡ true
left [] ys c h = absurd (false≢true h)
left (x ∷ xs) ys c h = ⊎_elim
    (λ t. or_left (same_cell x c) (among (xs ++ ys) c) t)
    (λ t. or_right (same_cell x c) (among (xs ++ ys) c) (left xs ys c t))
    (or_cases (same_cell x c) (among xs c) h)

right : (xs ys : List Cell) (c : Cell) → among ys c ≡ true → among (xs ++ ys) c ≡ true
right [] ys c h = h
right (x ∷ xs) ys c h = or_right (same_cell x c) (among (xs ++ ys) c) (right xs ys c h)

pub either_among : (xs ys : List Cell) (c : Cell) → among (xs ++ ys) c ≡ true → (among xs c ≡ true) ⊎ (among ys c ≡ true)
either_among [] ys c h = inr h
either_among (x ∷ xs) ys c h = ⊎_elim
    (λ t. inl (or_left (same_cell x c) (among xs c) t))
    (λ t. ⊎_elim (λ u. inl (or_right (same_cell x c) (among xs c) u)) (λ u. inr u) (either_among xs ys c t))
    (or_cases (same_cell x c) (among (xs ++ ys) c) h)

pub among_pieces : (f : ℕ → List Cell) (xs : List ℕ) (k : ℕ) (c : Cell) → k < length xs → among (f (get_or xs k 0)) c ≡ true → among (flat_map f xs) c ≡ true
among_pieces f [] k c l h = absurd (omega arith)
among_pieces f (x ∷ xs) zero c l h = left (f x) (flat_map f xs) c h
among_pieces f (x ∷ xs) (suc k) c l h = right (f x) (flat_map f xs) c (among_pieces f xs k c (omega arith) h)

pub piece_among : (f : ℕ → List Cell) (xs : List ℕ) (c : Cell) → among (flat_map f xs) c ≡ true → (k : ℕ) × (k < length xs) × (among (f (get_or xs k 0)) c ≡ true)
piece_among f [] c h = absurd (false≢true h)
piece_among f (x ∷ xs) c h = ⊎_elim
    (λ t. (zero, omega arith, t))
    (λ t.
    let w : (k : ℕ) × (k < length xs) × (among (f (get_or xs k 0)) c ≡ true) = piece_among f xs c t in
    (suc w.0, (let l : w.0 < length xs = w.1 in omega arith), w.2))
    (either_among (f x) (flat_map f xs) c h)
