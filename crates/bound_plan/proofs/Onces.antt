-- Lists in which no cell stands twice.
use Rattle.std.proofs.Common.{◌≡◌, ◌<◌, ℕ, suc, true, List, [], ◌∷◌, ◌++◌, length, get_or, flat_map, refl, sym, ◌∙◌, ⊎_elim, arith}
use Rattle.std.proofs.lemmas.Bool.{false≢true, false_from_ne_true}
use Rattle.schedule_model.specs.Cells.{Cell}
use Rattle.schedule_model.specs.Layout.{among}
use Rattle.schedule_model.specs.Scatter.{Once}
use Rattle.run_model.specs.OnWindows.{no_cell}
use Rattle.bound_plan.proofs.Among.{among_at, at_among, piece_among, either_among}

-- numbers that stand at one place each
abbrev pub Apart : List ℕ → Type 0
Apart xs = (i j : ℕ) → i < length xs → j < length xs → get_or xs i 0 ≡ get_or xs j 0 → i ≡ j

pub once_of : (xs : List Cell) → ((i j : ℕ) → i < length xs → j < length xs → get_or xs i no_cell ≡ get_or xs j no_cell → i ≡ j) → Once xs
once_of [] h = tt
once_of (x ∷ xs) h = (
  false_from_ne_true (among xs x) (λ m.
      let w = at_among xs x m in
      let l : w.0 < length xs = w.1 in
      let e : 0 ≡ suc w.0 = h 0 (suc w.0) (omega arith) (omega arith) (sym w.2) in
      absurd (omega arith)),
  once_of xs (λ i j li lj e. let s : suc i ≡ suc j = h (suc i) (suc j) (omega arith) (omega arith) e in omega arith),
)

once_append : (xs ys : List Cell) → Once xs → Once ys → ((c : Cell) → among xs c ≡ true → among ys c ≡ true → ⊥) → Once (xs ++ ys)
once_append [] ys p q h = q
once_append (x ∷ xs) ys p q h = (
  false_from_ne_true (among (xs ++ ys) x) (λ m. ⊎_elim
      (λ t. false≢true (sym p.0 ∙ t))
      (λ t. h x (among_at (x ∷ xs) 0 x (omega arith) refl) t)
      (either_among xs ys x m)),
  once_append xs ys p.1 q (λ c m t. h c (later c m) t),
)
  where
    later : (c : Cell) → among xs c ≡ true → among (x ∷ xs) c ≡ true
    later c m = let w = at_among xs c m in let l : w.0 < length xs = w.1 in among_at (x ∷ xs) (suc w.0) c (omega arith) w.2

-- pieces that tell their numbers
pub once_pieces : (f : ℕ → List Cell) (key : Cell → ℕ) → ((x : ℕ) (c : Cell) → among (f x) c ≡ true → key c ≡ x) → (xs : List ℕ)
    → ((k : ℕ) → k < length xs → Once (f (get_or xs k 0))) → Apart xs → Once (flat_map f xs)
once_pieces f key tells [] h apart = tt
once_pieces f key tells (x ∷ xs) h apart =
    once_append (f x) (flat_map f xs) (h 0 (omega arith))
    (once_pieces f key tells xs (λ k l. h (suc k) (omega arith)) (λ i j li lj e. let s : suc i ≡ suc j = apart (suc i) (suc j) (omega arith) (omega arith) e in omega arith))
    (λ c m t.
    let w = piece_among f xs c t in
    let l : w.0 < length xs = w.1 in
    let e : x ≡ get_or xs w.0 0 = sym (tells x c m) ∙ tells (get_or xs w.0 0) c w.2 in
    let s : 0 ≡ suc w.0 = apart 0 (suc w.0) (omega arith) (omega arith) e in
    absurd (omega arith))
