-- Where dats begin, one after another, and the first values of all cells.
use Rattle.std.proofs.Common.{◌≡◌, ◌<◌, ◌≤◌, ◌+◌, ◌-◌, ◌*◌, ℕ, suc, ℤ, List, [], ◌∷◌, ◌++◌, append_assoc, flat_map, map, length, take, get_or, sym, ap, ◌∙◌, arith, below_more}
use Rattle.std.proofs.lemmas.List.{length-append, length-map, get_or-map, get_or_append_left, get_or-append_right, append-nil, map-id, take_more}
use Rattle.std.proofs.lemmas.List.Concat.{flat_map-append}
use Rattle.std.proofs.lemmas.List.FromFn.{map-range_with_len_more}
use Rattle.mesh_decl.specs.Mesh.{dat_count, dat_set, dat_dim, set_size, dat_values, IsDatAt}
use Rattle.bound_program.specs.declared.programs.Var.{Var}
use Rattle.bound_program.specs.Values.{BoundValue, VarValue, var_of, no_var}
use Rattle.run_model.specs.Windows.{numbers}
use Rattle.run_model.specs.Memory.{memory_length, dat_start, IsInOrder}
use Rattle.deep_halo.specs.Layouts.{AreDatStarts}

-- one number more
pub pushed : (f : ℕ → List ℤ) (n : ℕ) (now new : List ℤ) → now ≡ flat_map f (numbers n) → new ≡ now ++ f n → new ≡ flat_map f (numbers (n + 1))
pushed f n now new is more =
    let next : numbers (n + 1) ≡ numbers n ++ n ∷ [] =
    sym (map-id (numbers (n + 1))) ∙ map-range_with_len_more (λ (x : ℕ). x) 0 n n (omega arith) ∙ ap (λ z. z ++ n ∷ []) (map-id (numbers n)) in
    more ∙ ap (λ z. z ++ f n) is
    ∙ sym (ap (flat_map f) next ∙ flat_map-append f (numbers n) (n ∷ []) ∙ ap (λ z. flat_map f (numbers n) ++ z) (append-nil (f n)))

module _ (b : BoundValue) where
  -- the next dat ends where the one behind it begins
  pub next_end : (d next : ℕ) → IsDatAt b.mesh d → next ≡ dat_start b d → next + length (dat_values b.mesh d) ≡ dat_start b (d + 1)
  next_end d next is at =
      let l : length (dat_values b.mesh d) ≡ set_size b.mesh (dat_set b.mesh d) * dat_dim b.mesh d = is.length in
      let s : d + 1 ≡ suc d = omega arith in
      let e : dat_start b (d + 1) ≡ dat_start b d + set_size b.mesh (dat_set b.mesh d) * dat_dim b.mesh d = ap (dat_start b) s in
      omega (arith, l, e, at)

  -- it ends within the memory
  pub next_within : IsInOrder b → (d next : ℕ) → IsDatAt b.mesh d → next ≡ dat_start b d → d < dat_count b.mesh → next + length (dat_values b.mesh d) ≤ memory_length b
  next_within order d next is at lt =
      let l : length (dat_values b.mesh d) ≡ set_size b.mesh (dat_set b.mesh d) * dat_dim b.mesh d = is.length in
      omega (arith, l, at, order.dats d (dat_count b.mesh) lt, order.behind (length b.vars))

  pub starts_more : (starts more : List ℕ) (next after d : ℕ) → AreDatStarts b d starts next → more ≡ starts ++ next ∷ [] → after ≡ dat_start b (d + 1)
      → AreDatStarts b (d + 1) more after
  starts_more starts more next after d h e a = record {
    count = ap length e ∙ (length-append starts (next ∷ []) ∙ (let c = h.count in omega arith));
    each = λ k lt. ap (λ l. get_or l k 0) e ∙ below_more (λ w. get_or (starts ++ next ∷ []) w 0 ≡ dat_start b w) d
        (λ w l. get_or_append_left starts (next ∷ []) 0 w (let c = h.count in omega arith) ∙ h.each w l)
        (get_or-append_right starts (next ∷ []) d d 0 h.count (omega arith) ∙ (ap (λ z. get_or (next ∷ []) z 0) (let z : d - d ≡ 0 = omega arith in z) ∙ h.ends))
        k lt;
    ends = a;
  }

-- ---- variables

pub var_here : (xs : List Var) (v : ℕ) (x : Var) → v < length xs → x ≡ get_or xs v x → (v < length (map var_of xs)) × (get_or (map var_of xs) v no_var ≡ var_of x)
var_here xs v x lt e = ((let n = length-map xs var_of in omega (arith, n)), get_or-map var_of xs v x no_var lt ∙ ap var_of (sym e))

-- the first values of one variable more
pub more_taken : (front : List ℤ) (vars : List VarValue) (v : ℕ) (now new start : List ℤ) {x : VarValue} → (v < length vars) × (get_or vars v no_var ≡ x) → start ≡ x.start
    → now ≡ front ++ flat_map (λ (y : VarValue). y.start) (take v vars) → new ≡ now ++ start
    → new ≡ front ++ flat_map (λ (y : VarValue). y.start) (take (v + 1) vars)
more_taken front vars v now new start {x = x} here is e more =
    more ∙ ap (λ z. z ++ start) e ∙ append_assoc front (flat_map (λ (y : VarValue). y.start) (take v vars)) start
    ∙ ap (λ z. front ++ z) (ap (λ z. flat_map (λ (y : VarValue). y.start) (take v vars) ++ z) (is ∙ ap (λ (y : VarValue). y.start) (sym here.1) ∙ sym (append-nil (get_or vars v no_var).start))
    ∙ sym (flat_map-append (λ (y : VarValue). y.start) (take v vars) (get_or vars v no_var ∷ []))
    ∙ ap (flat_map (λ (y : VarValue). y.start)) (sym (take_more vars v no_var here.0)))
