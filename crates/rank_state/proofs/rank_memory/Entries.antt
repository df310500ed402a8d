-- A table of numbers, as the slots that these say.
use Rattle.std.proofs.Common.{◌≡◌, ℕ, zero, suc, ◌<◌, List, [], ◌∷◌, length, map, get_or, set, replicate, None, refl, sym, ap, ap₂, ◌∙◌}
use Rattle.std.proofs.lemmas.List.{get_or-map, map-set}
use Rattle.rank_state.specs.Slots.{slot_of, entries, with_entry}

pub entries_put : (table : List (List ℕ)) (r x n : ℕ) → r < length table → entries (set table r (set (get_or table r []) x n)) ≡ with_entry r x (slot_of n) (entries table)
entries_put table r x n hr =
    map-set (map slot_of) table r (set (get_or table r []) x n)
    ∙ ap (set (map (map slot_of) table) r) (map-set slot_of (get_or table r []) x n ∙ ap (λ row. set row x (slot_of n)) (sym (get_or-map (map slot_of) table r [] [] hr)))

-- zeros say that no element has a slot
row_of_zeros : (n : ℕ) → map slot_of (replicate n 0) ≡ replicate n None
row_of_zeros zero = refl
row_of_zeros (suc n) = ap (λ row. None ∷ row) (row_of_zeros n)

pub zeros_say : (shape : List ℕ) → entries (map (λ n. replicate n 0) shape) ≡ map (λ n. replicate n None) shape
zeros_say [] = refl
zeros_say (n ∷ shape) = ap₂ ◌∷◌ (row_of_zeros n) (zeros_say shape)
