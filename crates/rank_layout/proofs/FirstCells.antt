-- The first cells of a rank are its elements' values in the mesh.
use Rattle.std.proofs.Common.{◌≡◌, ◌<◌, ◌≤◌, ◌+◌, ◌-◌, ◌*◌, ℕ, zero, suc, ℤ, pos, List, [], ◌∷◌, ◌++◌, All, flat_map, length, take, drop, get_or, refl, sym, ap, subst, ◌∙◌, arith, length-take-le, length-drop, get_or-take, get_or-drop}
use Rattle.std.specs.Prelude.{slice_index, slice_index_or}
use Rattle.std.proofs.lemmas.List.{get_or_default, take_all, append-nil, map-id}
use Rattle.std.proofs.lemmas.List.Concat.{flat_map-append, get_or-flat_map}
use Rattle.std.proofs.lemmas.List.FromFn.{length-range_with_len, get_or-range_with_len, map-range_with_len_more}
use Rattle.std.proofs.lemmas.Nat.{mul-add-lt}
use Rattle.std.proofs.Math.Nat.{mul_comm}
use Rattle.mesh_decl.specs.Mesh.{MeshValue, dat_count, dat_set, dat_dim, dat_values, set_size, IsDatAt}
use Rattle.local_mesh.specs.declared.types.RankMesh.{RankMesh}
use Rattle.local_mesh.specs.LocalMesh.{originals_in, cells_before, AreClosed}
use Rattle.run_model.specs.Windows.{numbers}
use Rattle.rank_layout.specs.First.{element_values, rank_values, first_cells}
use Rattle.lemmas.proofs.Lists.{one_piece}

-- pieces of n cells each
even : (f : ℕ → List ℤ) (xs : List ℕ) (n : ℕ) → ((k : ℕ) → k < length xs → length (f (get_or xs k 0)) ≡ n)
    → (k : ℕ) → k ≤ length xs → length (flat_map f (take k xs)) ≡ k * n
even f xs n each zero le = let z : 0 ≡ 0 * n = omega arith in z
even f xs n each (suc k) le =
    let lt : k < length xs = omega arith in
    omega (arith, one_piece f xs k 0 lt, each k lt, even f xs n each k (omega arith))

-- one number more
pub pushed : (f : ℕ → List ℤ) (n : ℕ) (now new : List ℤ) → now ≡ flat_map f (numbers n) → new ≡ now ++ f n → new ≡ flat_map f (numbers (n + 1))
pushed f n now new is more =
    let next : numbers (n + 1) ≡ numbers n ++ n ∷ [] =
    sym (map-id (numbers (n + 1))) ∙ map-range_with_len_more (λ (x : ℕ). x) 0 n n (omega arith) ∙ ap (λ z. z ++ n ∷ []) (map-id (numbers n)) in
    more ∙ ap (λ z. z ++ f n) is
    ∙ sym (ap (flat_map f) next ∙ flat_map-append f (numbers n) (n ∷ []) ∙ ap (λ z. flat_map f (numbers n) ++ z) (append-nil (f n)))

-- a part of a list
part_at : (vs : List ℤ) (k n i : ℕ) → i < n → get_or (take n (drop k vs)) i (pos 0) ≡ get_or vs (k + i) (pos 0)
part_at vs k n i lt = get_or-take n (drop k vs) i (pos 0) lt ∙ get_or-drop k vs i (pos 0)

module _ (g : MeshValue) (m : RankMesh) (dats : (d : ℕ) → d < dat_count g → IsDatAt g d) (shut : AreClosed g m.sets.items) where
  abbrev own : ℕ → List ℕ
  own d = originals_in m.sets.items (dat_set g d)

  -- an element's values lie in the mesh's
  pub inside : (d k : ℕ) → d < dat_count g → k < length (own d)
      → slice_index (own d) k * dat_dim g d + dat_dim g d ≤ length (dat_values g d)
  inside d k ld lk =
      let below : slice_index (own d) k < set_size g (dat_set g d) = shut.within (dat_set g d) k (dats d ld).set lk in
      let some = (dats d ld).some in
      let last : slice_index (own d) k * dat_dim g d + (dat_dim g d - 1) < dat_dim g d * set_size g (dat_set g d) =
      mul-add-lt (slice_index (own d) k) (dat_dim g d) (dat_dim g d - 1) (set_size g (dat_set g d)) below (omega (arith, some)) in
      let turned = mul_comm (dat_dim g d) (set_size g (dat_set g d)) in
      omega (arith, last, some, turned, (dats d ld).length)

  pub all_inside : (d : ℕ) → d < dat_count g → All (λ x. x * dat_dim g d + dat_dim g d ≤ length (dat_values g d)) (own d)
  all_inside d ld = λ k e lk.
      let same : get_or (own d) k e ≡ slice_index (own d) k = get_or_default (own d) k e 0 lk in
      subst (λ x. x * dat_dim g d + dat_dim g d ≤ length (dat_values g d)) (sym same) (inside d k ld lk)

  long : (d k : ℕ) → d < dat_count g → k < length (own d) → length (element_values g d (slice_index (own d) k)) ≡ dat_dim g d
  long d k ld lk =
      let at = inside d k ld lk in
      let rest : length (drop (slice_index (own d) k * dat_dim g d) (dat_values g d)) ≡ length (dat_values g d) - slice_index (own d) k * dat_dim g d =
      length-drop (slice_index (own d) k * dat_dim g d) (dat_values g d) in
      length-take-le (dat_dim g d) (drop (slice_index (own d) k * dat_dim g d) (dat_values g d)) (omega (arith, at, rest))

  -- where an element's values begin among its dat's
  start : (d k : ℕ) → d < dat_count g → k ≤ length (own d) → length (flat_map (element_values g d) (take k (own d))) ≡ k * dat_dim g d
  start d k ld le = even (element_values g d) (own d) (dat_dim g d) (λ i lt. long d i ld lt) k le

  dat_long : (d : ℕ) → d < dat_count g → length (rank_values g m d) ≡ length (own d) * dat_dim g d
  dat_long d ld =
      ap (λ z. length (flat_map (element_values g d) z)) (sym (take_all (length (own d)) (own d) (omega arith))) ∙ start d (length (own d)) ld (omega arith)

  dat_at : (d k i : ℕ) → d < dat_count g → k < length (own d) → i < dat_dim g d
      → get_or (rank_values g m d) (k * dat_dim g d + i) (pos 0) ≡ slice_index_or (dat_values g d) (slice_index (own d) k * dat_dim g d + i) (pos 0)
  dat_at d k i ld lk li =
      ap (λ z. get_or (rank_values g m d) (z + i) (pos 0)) (sym (start d k ld (omega arith)))
      ∙ get_or-flat_map (element_values g d) (own d) k i 0 (pos 0) lk (let l = long d k ld lk in omega arith)
      ∙ part_at (dat_values g d) (slice_index (own d) k * dat_dim g d) (dat_dim g d) i li

  -- where a dat begins among the cells
  abbrev all : List ℕ
  all = numbers (dat_count g)

  count_long : length all ≡ dat_count g
  count_long = length-range_with_len 0 (dat_count g)

  number_is : (d : ℕ) → d < dat_count g → get_or all d 0 ≡ d
  number_is d lt = get_or-range_with_len 0 (dat_count g) d 0 lt ∙ omega arith

  begins : (d : ℕ) → d ≤ dat_count g → length (flat_map (rank_values g m) (take d all)) ≡ cells_before g m.sets.items d
  begins zero le = refl
  begins (suc d) le =
      let lt : d < dat_count g = omega arith in
      let one = one_piece (rank_values g m) all d 0 (omega (arith, count_long)) in
      let size : length (rank_values g m (get_or all d 0)) ≡ length (own d) * dat_dim g d = ap (λ k. length (rank_values g m k)) (number_is d lt) ∙ dat_long d lt in
      omega (arith, one, size, begins d (omega arith))

  pub whole : length (first_cells g m) ≡ cells_before g m.sets.items (dat_count g)
  whole =
      ap (λ z. length (flat_map (rank_values g m) z)) (sym (take_all (dat_count g) all (omega (arith, count_long)))) ∙ begins (dat_count g) (omega arith)

  pub cell_is : (d k i : ℕ) → d < dat_count g → k < length (own d) → i < dat_dim g d
      → get_or (first_cells g m) (cells_before g m.sets.items d + (k * dat_dim g d + i)) (pos 0)
      ≡ slice_index_or (dat_values g d) (slice_index (own d) k * dat_dim g d + i) (pos 0)
  cell_is d k i ld lk li =
      let fits : k * dat_dim g d + i < length (rank_values g m (get_or all d 0)) =
      subst (λ z. k * dat_dim g d + i < length (rank_values g m z)) (sym (number_is d ld))
      (let l = dat_long d ld in let s = mul-add-lt k (dat_dim g d) i (length (own d)) lk li in let t = mul_comm (dat_dim g d) (length (own d)) in omega arith) in
      ap (λ z. get_or (first_cells g m) (z + (k * dat_dim g d + i)) (pos 0)) (sym (begins d (omega (arith, ld))))
      ∙ get_or-flat_map (rank_values g m) all d (k * dat_dim g d + i) 0 (pos 0) (omega (arith, count_long, ld)) fits
      ∙ ap (λ z. get_or (rank_values g m z) (k * dat_dim g d + i) (pos 0)) (number_is d ld)
      ∙ dat_at d k i ld lk li
