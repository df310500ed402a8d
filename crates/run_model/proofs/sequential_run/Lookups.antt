-- The values of cells among those of a list of cells.
use Rattle.std.proofs.Common.{◌≡◌, ◌<◌, ℕ, zero, suc, ℤ, pos, true, false, List, [], ◌∷◌, length, get_or, refl, sym, ◌∙◌, subst, ◌⊎◌, inl, inr, ⊎_elim, arith}
use Rattle.std.proofs.lemmas.Bool.{cases_Bool, false≢true, cond-true, cond-false}
use Rattle.schedule_model.specs.Cells.{Cell, same_cell}
use Rattle.schedule_model.specs.Tests.{same_cell_refl, same_cell_true}
use Rattle.schedule_model.specs.Layout.{lookup}
use Rattle.run_model.specs.OnWindows.{no_cell}

-- the cell stands somewhere in the list
abbrev pub Stands : List Cell → Cell → Type 0
Stands xs c = (j : ℕ) × (j < length xs) × (get_or xs j no_cell ≡ c)

-- it stands there, with the value of that place, or it doesn't, with the other value
abbrev pub LooksUp : List Cell → List ℤ → Cell → ℤ → Type 0
LooksUp xs ws c d =
    ((j : ℕ) × (j < length xs) × (get_or xs j no_cell ≡ c) × (lookup xs ws c d ≡ get_or ws j (pos 0)))
    ⊎ ((Stands xs c → ⊥) × (lookup xs ws c d ≡ d))

not_first : (x c : Cell) → same_cell x c ≡ false → x ≡ c → ⊥
not_first x c other same = false≢true (sym other ∙ subst (λ y. same_cell x y ≡ true) same (same_cell_refl x))

behind : (x : Cell) (xs : List Cell) (c : Cell) → same_cell x c ≡ false → (Stands xs c → ⊥) → (j : ℕ) → j < length (x ∷ xs) → get_or (x ∷ xs) j no_cell ≡ c → ⊥
behind x xs c other none zero lt at = not_first x c other at
behind x xs c other none (suc j) lt at = none (j, (let l : j < length xs = omega arith in l), at)

pub looks_up : (xs : List Cell) (ws : List ℤ) (c : Cell) (d : ℤ) → length ws ≡ length xs → LooksUp xs ws c d
looks_up [] ws c d long = inr ((λ h. absurd (let lt : h.0 < 0 = h.1 in omega (arith, lt))), refl)
looks_up (x ∷ xs) [] c d long = absurd (omega (arith, long))
looks_up (x ∷ xs) (w ∷ ws) c d long = ⊎_elim
    (λ (t : same_cell x c ≡ true). inl (0, (let lt : 0 < suc (length xs) = omega arith in lt), same_cell_true x c t, cond-true (same_cell x c) w (lookup xs ws c d) t))
    (λ (t : same_cell x c ≡ false). later t (cond-false (same_cell x c) w (lookup xs ws c d) t) (looks_up xs ws c d (omega (arith, long))))
    (cases_Bool (same_cell x c))
  where
    later : same_cell x c ≡ false → lookup (x ∷ xs) (w ∷ ws) c d ≡ lookup xs ws c d → LooksUp xs ws c d → LooksUp (x ∷ xs) (w ∷ ws) c d
    later other same (inl h) = inl (suc h.0, (let lt : suc h.0 < suc (length xs) = omega (arith, h.1) in lt), h.2, same ∙ h.3)
    later other same (inr h) = inr ((λ g. behind x xs c other h.0 g.0 g.1 g.2), same ∙ h.1)
