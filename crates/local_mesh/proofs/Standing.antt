-- The cells of dats that stand behind one another.
use Rattle.std.proofs.Common.{◌≡◌, ◌+◌, ◌-◌, ◌*◌, ◌<◌, ◌≤◌, ◌⊎◌, ℕ, zero, suc, List, length, add-one, refl, arith, ap, sym, ⊎_elim, subst}
use Rattle.std.proofs.lemmas.Bool.{cases_order, cases_eq, cases_lt}
use Rattle.std.proofs.lemmas.Nat.{mul-add-lt}
use Rattle.mesh_decl.specs.Mesh.{MeshValue, dat_set, dat_dim}
use Rattle.local_mesh.specs.declared.types.LocalSet.{LocalSet}
use Rattle.local_mesh.specs.LocalMesh.{originals_in, cells_before}

-- the cells of one dat's elements
row_apart : (w l i k j : ℕ) → i < w → j < w → l * w + i ≡ k * w + j → (l ≡ k) × (i ≡ j)
row_apart w l i k j li lj e = ⊎_elim
    (λ (q : l ≡ k). (q, (let z : l * w ≡ k * w = ap (λ z. z * w) q in omega arith)))
    (λ (o : (l < k) ⊎ (k < l)). ⊎_elim
    (λ (q : l < k). let a = mul-add-lt l w i k q li in absurd (omega arith))
    (λ (q : k < l). let a = mul-add-lt k w j l q lj in absurd (omega arith))
    o)
    (cases_order l k)

-- a place in a table of rows is one in a row
pub in_row : (c n w : ℕ) → c < n * w → (l : ℕ) × (i : ℕ) × (l < n) × (i < w) × (l * w + i ≡ c)
in_row c zero w h = absurd (omega arith)
in_row c (suc n) w h = ⊎_elim
    (λ (m : c < n * w). let r = in_row c n w m in (r.0, r.1, omega (arith, r.2), r.3, r.4))
    (λ (m : n * w ≤ c). (n, c - n * w, omega arith, omega arith, omega arith))
    (cases_lt c (n * w))

module _ (g : MeshValue) (sets : List LocalSet) where
  abbrev pub copies : ℕ → ℕ
  copies d = length (originals_in sets (dat_set g d))

  pub cells_more : (d : ℕ) → cells_before g sets (d + 1) ≡ cells_before g sets d + copies d * dat_dim g d
  cells_more d = rw add-one refl

  -- a later dat begins where an earlier one ends, or after it
  pub cells_later : (d e : ℕ) → d < e → cells_before g sets d + copies d * dat_dim g d ≤ cells_before g sets e
  cells_later d zero l = absurd (omega arith)
  cells_later d (suc e) l =
      let s : cells_before g sets (suc e) ≡ cells_before g sets e + copies e * dat_dim g e = rw add-one at (cells_more e) in
      ⊎_elim
      (λ (q : d ≡ e). rw q (omega arith))
      (λ (q : d ≡ e → ⊥). let r : cells_before g sets d + copies d * dat_dim g d ≤ cells_before g sets e = cells_later d e (omega arith) in omega arith)
      (cases_eq d e)

  before : (d l i e k j : ℕ) → l < copies d → i < dat_dim g d → d < e → cells_before g sets d + l * dat_dim g d + i ≡ cells_before g sets e + k * dat_dim g e + j → ⊥
  before d l i e k j ll li q s =
      let a = cells_later d e q in
      let b = mul-add-lt l (dat_dim g d) i (copies d) ll li in
      absurd (omega arith)

  pub disjoint : (d l i e k j : ℕ) → l < copies d → i < dat_dim g d → k < copies e → j < dat_dim g e
      → cells_before g sets d + l * dat_dim g d + i ≡ cells_before g sets e + k * dat_dim g e + j → (d ≡ e) × (l ≡ k) × (i ≡ j)
  disjoint d l i e k j ll li lk lj s = ⊎_elim
      (λ (q : d ≡ e).
      let t : l * dat_dim g e + i ≡ k * dat_dim g e + j =
      (let u : cells_before g sets e + l * dat_dim g e + i ≡ cells_before g sets e + k * dat_dim g e + j =
      subst (λ z. cells_before g sets z + l * dat_dim g z + i ≡ cells_before g sets e + k * dat_dim g e + j) q s in omega arith) in
      let r = row_apart (dat_dim g e) l i k j (subst (λ z. i < dat_dim g z) q li) lj t in
      (q, r.0, r.1))
      (λ (o : (d < e) ⊎ (e < d)). ⊎_elim
      (λ (q : d < e). absurd (before d l i e k j ll li q s))
      (λ (q : e < d). absurd (before e k j d l i lk lj q (sym s)))
      o)
      (cases_order d e)

  -- a cell before dat n is a value of an element of an earlier dat
  pub cell_of : (n c : ℕ) → c < cells_before g sets n → (d : ℕ) × (l : ℕ) × (i : ℕ) × (d < n) × (l < copies d) × (i < dat_dim g d) × (cells_before g sets d + l * dat_dim g d + i ≡ c)
  cell_of zero c h = absurd (omega arith)
  cell_of (suc n) c h =
      let s : cells_before g sets (suc n) ≡ cells_before g sets n + copies n * dat_dim g n = rw add-one at (cells_more n) in
      ⊎_elim
      (λ (m : c < cells_before g sets n). let r = cell_of n c m in (r.0, r.1, r.2, omega (arith, r.3), r.4, r.5, r.6))
      (λ (m : cells_before g sets n ≤ c).
      let a = in_row (c - cells_before g sets n) (copies n) (dat_dim g n) (omega arith) in
      (n, a.0, a.1, omega arith, a.2, a.3, (let q : cells_before g sets n + a.0 * dat_dim g n + a.1 ≡ c = omega (arith, a.4) in q)))
      (cases_lt c (cells_before g sets n))
