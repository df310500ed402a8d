-- Lists by index, and values by cell.
use Rattle.std.proofs.Common.{◌≡◌, ℕ, ℤ, zero, suc, ◌+◌, ◌<◌, true, false, refl, sym, ap, ◌∙◌, arith, ⊎_elim, List, [], ◌∷◌, map, length, get_or, add-zero}
use Rattle.std.proofs.lemmas.Bool.{cases_Bool, false≢true, or_cases, or_left, or_right, cond-true, cond-false}
use Rattle.schedule_model.specs.Cells.{Cell, same_cell}
use Rattle.schedule_model.specs.Layout.{lookup, among}
use Rattle.schedule_model.specs.Flat.{updated, updated_rows}
use Rattle.schedule_model.specs.Tests.{same_cell_refl, same_cell_true}

updated_from : (g : ℕ → ℤ → ℤ) (j : ℕ) (xs : List ℤ) (i : ℕ) (d : ℤ) → i < length xs → get_or (updated g j xs) i d ≡ g (j + i) (get_or xs i d)
updated_from g j [] i d lt = absurd (omega arith)
updated_from g j (x ∷ xs) zero d lt = ap (λ n. g n x) (sym (add-zero j))
updated_from g j (x ∷ xs) (suc i) d lt = updated_from g (suc j) xs i d (omega arith) ∙ (let e : suc j + i ≡ j + suc i = omega arith in ap (λ n. g n (get_or xs i d)) e)

pub updated_at : (g : ℕ → ℤ → ℤ) (xs : List ℤ) (i : ℕ) (d : ℤ) → i < length xs → get_or (updated g 0 xs) i d ≡ g i (get_or xs i d)
updated_at g xs i d lt = updated_from g 0 xs i d lt ∙ (let e : 0 + i ≡ i = omega arith in ap (λ n. g n (get_or xs i d)) e)

pub updated_length : (g : ℕ → ℤ → ℤ) (j : ℕ) (xs : List ℤ) → length (updated g j xs) ≡ length xs
updated_length g j [] = refl
updated_length g j (x ∷ xs) = ap suc (updated_length g (suc j) xs)

pub rows_length : (g : ℕ → ℕ → ℤ → ℤ) (j : ℕ) (xs : List (List ℤ)) → length (updated_rows g j xs) ≡ length xs
rows_length g j [] = refl
rows_length g j (x ∷ xs) = ap suc (rows_length g (suc j) xs)

rows_from : (g : ℕ → ℕ → ℤ → ℤ) (j : ℕ) (xs : List (List ℤ)) (i : ℕ) → get_or (updated_rows g j xs) i [] ≡ updated (g (j + i)) 0 (get_or xs i [])
rows_from g j [] i = refl
rows_from g j (x ∷ xs) zero = ap (λ n. updated (g n) 0 x) (sym (add-zero j))
rows_from g j (x ∷ xs) (suc i) = rows_from g (suc j) xs i ∙ (let e : suc j + i ≡ j + suc i = omega arith in ap (λ n. updated (g n) 0 (get_or xs i [])) e)

pub rows_at : (g : ℕ → ℕ → ℤ → ℤ) (xs : List (List ℤ)) (i : ℕ) → get_or (updated_rows g 0 xs) i [] ≡ updated (g i) 0 (get_or xs i [])
rows_at g xs i = rows_from g 0 xs i ∙ (let e : 0 + i ≡ i = omega arith in ap (λ n. updated (g n) 0 (get_or xs i [])) e)

pub lookup_map : (xs : List Cell) (h : Cell → ℤ) (c : Cell) (d : ℤ) → among xs c ≡ true → lookup xs (map h xs) c d ≡ h c
lookup_map [] h c d a = absurd (false≢true a)
lookup_map (x ∷ xs) h c d a = ⊎_elim
    (λ (y : same_cell x c ≡ true). cond-true (same_cell x c) (h x) (lookup xs (map h xs) c d) y ∙ ap h (same_cell_true x c y))
    (λ (y : same_cell x c ≡ false). cond-false (same_cell x c) (h x) (lookup xs (map h xs) c d) y
    ∙ lookup_map xs h c d (⊎_elim (λ z. absurd (false≢true (sym y ∙ z))) (λ z. z) (or_cases (same_cell x c) (among xs c) a)))
    (cases_Bool (same_cell x c))

-- a cell among them has its value, whatever stands for others
pub lookup_any : (xs : List Cell) (ws : List ℤ) (c : Cell) (d e : ℤ) → length ws ≡ length xs → among xs c ≡ true → lookup xs ws c d ≡ lookup xs ws c e
lookup_any [] ws c d e l a = absurd (false≢true a)
lookup_any (x ∷ xs) [] c d e l a = absurd (omega arith)
lookup_any (x ∷ xs) (w ∷ ws) c d e l a = ⊎_elim
    (λ (y : same_cell x c ≡ true). cond-true (same_cell x c) w (lookup xs ws c d) y ∙ sym (cond-true (same_cell x c) w (lookup xs ws c e) y))
    (λ (y : same_cell x c ≡ false). cond-false (same_cell x c) w (lookup xs ws c d) y
    ∙ (lookup_any xs ws c d e (omega arith) (⊎_elim (λ z. absurd (false≢true (sym y ∙ z))) (λ z. z) (or_cases (same_cell x c) (among xs c) a))
    ∙ sym (cond-false (same_cell x c) w (lookup xs ws c e) y)))
    (cases_Bool (same_cell x c))

pub map_same : (h g : Cell → ℤ) (xs : List Cell) → ((c : Cell) → among xs c ≡ true → h c ≡ g c) → map h xs ≡ map g xs
map_same h g [] same = refl
map_same h g (x ∷ xs) same =
    ap (λ y. y ∷ map h xs) (same x (or_left (same_cell x x) (among xs x) (same_cell_refl x)))
    ∙ ap (λ ys. g x ∷ ys) (map_same h g xs (λ c a. same c (or_right (same_cell x c) (among xs c) a)))

pub map_length : (h : Cell → ℤ) (xs : List Cell) → length (map h xs) ≡ length xs
map_length h [] = refl
map_length h (x ∷ xs) = ap suc (map_length h xs)
