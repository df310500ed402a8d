-- Lists that are cut into runs.
use Rattle.std.proofs.Common.{◌≡◌, ℕ, zero, suc, ◌<◌, ◌≤◌, ◌-◌, refl, ap, arith, List, [], ◌∷◌, length, take, drop, get_or}
use Rattle.step_orders.specs.Runs.{cut, start_of, AreEnds}

pub length_cut : (from : ℕ) (xs es : List ℕ) → length (cut from xs es) ≡ length es
length_cut from xs [] = refl
length_cut from xs (e ∷ es) = ap suc (length_cut e xs es)

pub cut_at : (from : ℕ) (xs es : List ℕ) (i : ℕ) → i < length es
    → get_or (cut from xs es) i [] ≡ take (get_or es i 0 - start_of from es i) (drop (start_of from es i) xs)
cut_at from xs [] i lt = absurd (omega arith)
cut_at from xs (e ∷ es) zero lt = refl
cut_at from xs (e ∷ es) (suc zero) lt = cut_at e xs es 0 (omega arith)
cut_at from xs (e ∷ es) (suc (suc i)) lt = cut_at e xs es (suc i) (omega arith)

pub ends_rise : (from : ℕ) (xs es : List ℕ) (i : ℕ) → AreEnds from xs es → i < length es → start_of from es i ≤ get_or es i 0
ends_rise from xs [] i h lt = absurd (omega arith)
ends_rise from xs (e ∷ es) zero h lt = h.0
ends_rise from xs (e ∷ es) (suc zero) h lt = ends_rise e xs es 0 h.2 (omega arith)
ends_rise from xs (e ∷ es) (suc (suc i)) h lt = ends_rise e xs es (suc i) h.2 (omega arith)

pub ends_within : (from : ℕ) (xs es : List ℕ) (i : ℕ) → AreEnds from xs es → i < length es → get_or es i 0 ≤ length xs
ends_within from xs [] i h lt = absurd (omega arith)
ends_within from xs (e ∷ es) zero h lt = h.1
ends_within from xs (e ∷ es) (suc i) h lt = ends_within e xs es i h.2 (omega arith)
