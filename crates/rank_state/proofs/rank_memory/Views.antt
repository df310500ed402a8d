-- One row of a table of vectors that was written, as lists.
use Rattle.std.proofs.Common.{◌≡◌, ℤ, ℕ, ◌<◌, [], ◌∷◌, ◌∙◌, refl, ap, sym, subst, arith, length, get_or, set, map, List, Vec, Global}
use Rattle.std.specs.Vec.{with_items}
use Rattle.std.proofs.lemmas.List.{map-set, get_or-map, length-map}
use Rattle.rank_state.specs.declared.scalars.Scalar.{Scalar}
use Rattle.rank_state.specs.Windows.{Merges}
use Rattle.lemmas.proofs.Lists.{refilled}

abbrev pub lists : List (Vec ℤ Global) → List (List ℤ)
lists vs = map (λ (v : Vec ℤ Global). v.items) vs

pub rank_in : (vs : List (Vec ℤ Global)) (r : ℕ) → r < length (lists vs) → r < length vs
rank_in vs r h = let e : length (lists vs) ≡ length vs = length-map vs (λ (v : Vec ℤ Global). v.items) in omega arith

pub row_is : (vs : List (Vec ℤ Global)) (r : ℕ) (v : Vec ℤ Global) → r < length vs → v ≡ get_or vs r v → v.items ≡ get_or (lists vs) r []
row_is vs r v h e = sym (get_or-map (λ (w : Vec ℤ Global). w.items) vs r v [] h ∙ ap (λ (w : Vec ℤ Global). w.items) (sym e))

pub row_put : (vs : List (Vec ℤ Global)) (r : ℕ) (v : Vec ℤ Global) (new other : List ℤ) → length new ≡ length v.items → new ≡ other → lists (set vs r (with_items v new)) ≡ set (lists vs) r other
row_put vs r v new other e i =
    map-set (λ (w : Vec ℤ Global). w.items) vs r (with_items v new) ∙ ap (set (lists vs) r) (refilled v new e ∙ i)

-- what holds of the rows that a value shows holds of the vectors
pub merges_in : (vs ws : List (Vec ℤ Global)) (ps : List (List ℤ)) (scalars : List Scalar) → ws ≡ vs → lists vs ≡ ps → ((i : ℕ) → i < length ps → Merges (length (get_or ps i [])) scalars)
    → (i : ℕ) → i < length ws → Merges (length (get_or (lists ws) i [])) scalars
merges_in vs ws ps scalars e v h i lt =
    let same : lists ws ≡ ps = ap lists e ∙ v in
    let n : length (lists ws) ≡ length ws = length-map ws (λ (w : Vec ℤ Global). w.items) in
    let m : length (lists ws) ≡ length ps = ap length same in
    subst (λ z. Merges (length (get_or z i [])) scalars) (sym same) (h i (omega arith))

-- one row for each vector
pub same_on_all : (row : List ℤ) (ws vs : List (Vec ℤ Global)) → ws ≡ vs → map (λ (v : Vec ℤ Global). row) ws ≡ map (λ (m : List ℤ). row) (lists vs)
same_on_all row ws vs e = ap (map (λ (v : Vec ℤ Global). row)) e ∙ fused vs
  where
    fused : (vs : List (Vec ℤ Global)) → map (λ (v : Vec ℤ Global). row) vs ≡ map (λ (m : List ℤ). row) (lists vs)
    fused [] = refl
    fused (v ∷ vs) = ap (λ z. row ∷ z) (fused vs)
