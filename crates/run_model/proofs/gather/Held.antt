-- Where the values of a dat stand in a rank's memory.
use Rattle.std.proofs.Common.{◌≡◌, ◌<◌, ◌≤◌, ◌+◌, ◌*◌, ℕ, ℤ, zero, suc, ⊎_elim, List, [], ◌++◌, length, drop, get_or, codes, Result, Ok, Err, OnOk, sym, ap, ◌∙◌, subst, append_assoc, arith}
use Rattle.std.specs.Prelude.{slice_index}
use Rattle.std.proofs.lemmas.Bool.{cases_eq}
use Rattle.std.proofs.lemmas.List.{get_or-map, get_or_default}
use Rattle.std.specs.Fmt.{decimal}
use Rattle.mesh_decl.specs.Mesh.{MeshValue, dat_count, dat_name, dat_set, dat_dim}
use Rattle.local_mesh.specs.declared.types.LocalSet.{LocalSet}
use Rattle.local_mesh.specs.declared.types.RankMesh.{RankMesh}
use Rattle.local_mesh.specs.LocalMesh.{originals_in, cells_before}
use Rattle.local_mesh.specs.Numbers.{own_in}
use Rattle.run_model.specs.Dump.{IsHeld, exec_in, nonexec_in, sizes_text, counts_text, dat_counts, copies_text, dat_text}

module _ (g : MeshValue) (sets : List LocalSet) where
  -- the dats before d, and d itself, are among the first n
  before_fits : (d n : ℕ) → d < n → cells_before g sets d + length (originals_in sets (dat_set g d)) * dat_dim g d ≤ cells_before g sets n
  before_fits d zero l = absurd (omega (arith, l))
  before_fits d (suc n) l = ⊎_elim
      (λ (i : d ≡ n). subst (λ z. cells_before g sets d + length (originals_in sets (dat_set g d)) * dat_dim g d ≤ cells_before g sets (suc z)) i (omega arith))
      (λ (ne : d ≡ n → ⊥).
      let k : cells_before g sets d + length (originals_in sets (dat_set g d)) * dat_dim g d ≤ cells_before g sets n = before_fits d n (omega (arith, l, ne)) in
      omega (arith, k))
      (cases_eq d n)

module _ (g : MeshValue) (m : RankMesh) (memory : List ℤ) (d at : ℕ) (h : IsHeld g m memory) (l : d < dat_count g)
    (e : at ≡ get_or m.bases.items d at) where
  pub base_at : at ≡ slice_index m.bases.items d
  base_at = e ∙ get_or_default m.bases.items d at 0 (subst (λ n. d < n) (sym h.bases.count) l)

  whole : at + length (originals_in m.sets.items (dat_set g d)) * dat_dim g d ≤ length memory
  whole =
      let f : cells_before g m.sets.items d + length (originals_in m.sets.items (dat_set g d)) * dat_dim g d ≤ cells_before g m.sets.items (dat_count g) =
      before_fits g m.sets.items d (dat_count g) l in
      let a : at ≡ slice_index m.bases.items d = base_at in
      let b : slice_index m.bases.items d ≡ cells_before g m.sets.items d = h.bases.bases d l in
      let c : m.cells ≡ cells_before g m.sets.items (dat_count g) = h.bases.cells in
      let n : length memory ≡ m.cells = h.cells in
      omega (arith, f, a, b, c, n)

  pub base_fits : at ≤ length memory
  base_fits = (let w : at + length (originals_in m.sets.items (dat_set g d)) * dat_dim g d ≤ length memory = whole in omega (arith, w))

  -- the values of the dat are there behind its base
  pub values_fit : (n : ℕ) → n + at ≡ length memory → length (originals_in m.sets.items (dat_set g d)) * dat_dim g d ≤ n
  values_fit n k = (let w : at + length (originals_in m.sets.items (dat_set g d)) * dat_dim g d ≤ length memory = whole in omega (arith, w, k))

-- the counts and numbers of a set, as its element of the list has them
module _ (sets : List LocalSet) (t : ℕ) (s : LocalSet) (l : t < length sets) (e : s ≡ get_or sets t s) where
  own_read : s.own ≡ own_in sets t
  unfolding own_in
  own_read = ap (λ (x : LocalSet). x.own) e ∙ sym (get_or-map (λ (x : LocalSet). x.own) sets t s 0 l)

  exec_read : s.exec ≡ exec_in sets t
  exec_read = ap (λ (x : LocalSet). x.exec) e ∙ sym (get_or-map (λ (x : LocalSet). x.exec) sets t s 0 l)

  nonexec_read : s.nonexec ≡ nonexec_in sets t
  nonexec_read = ap (λ (x : LocalSet). x.nonexec) e ∙ sym (get_or-map (λ (x : LocalSet). x.nonexec) sets t s 0 l)

  pub originals_read : s.original ≡ originals_in sets t
  unfolding originals_in
  originals_read = ap (λ (x : LocalSet). x.original) e ∙ sym (get_or-map (λ (x : LocalSet). x.original) sets t s [] l)

  pub sizes_read : sizes_text s.own s.exec s.nonexec ≡ sizes_text (own_in sets t) (exec_in sets t) (nonexec_in sets t)
  sizes_read =
      ap (λ z. sizes_text z s.exec s.nonexec) own_read
      ∙ (ap (λ z. sizes_text (own_in sets t) z s.nonexec) exec_read ∙ ap (λ z. sizes_text (own_in sets t) (exec_in sets t) z) nonexec_read)

-- the lines of a dat, one part behind another
pub dat_printed : {T E : Type 0} (r : Result T E) (old counted new : List ℕ) (g : MeshValue) (rank : ℕ) (m : RankMesh) (memory : List ℤ) (d t dim : ℕ)
    (s : LocalSet) (zs : List ℤ)
    → t < length m.sets.items → s ≡ get_or m.sets.items t s → t ≡ dat_set g d → dim ≡ dat_dim g d
    → counted ≡ old ++ counts_text rank (dat_name g d) s.own s.exec s.nonexec
    → zs ≡ drop (slice_index m.bases.items d) memory
    → OnOk r (new ≡ counted ++ copies_text dim s.original zs)
    → OnOk r (new ≡ old ++ dat_text g rank m memory d)
dat_printed (Err e) old counted new g rank m memory d t dim s zs lt at et ed ec ez ok = tt
dat_printed (Ok v) old counted new g rank m memory d t dim s zs lt at et ed ec ez ok =
    let head : List ℕ → List ℕ = λ sizes. (codes "rank " ++ decimal rank ++ codes " " ++ dat_name g d) ++ sizes in
    let sizes : sizes_text s.own s.exec s.nonexec
    ≡ sizes_text (own_in m.sets.items (dat_set g d)) (exec_in m.sets.items (dat_set g d)) (nonexec_in m.sets.items (dat_set g d)) =
    subst (λ z. sizes_text s.own s.exec s.nonexec ≡ sizes_text (own_in m.sets.items z) (exec_in m.sets.items z) (nonexec_in m.sets.items z)) et
    (sizes_read m.sets.items t s lt at) in
    let originals : s.original ≡ originals_in m.sets.items (dat_set g d) =
    subst (λ z. s.original ≡ originals_in m.sets.items z) et (originals_read m.sets.items t s lt at) in
    ok
    ∙ (ap (λ z. z ++ copies_text dim s.original zs) (ec ∙ ap (λ z. old ++ head z) sizes)
    ∙ (append_assoc old (dat_counts g rank m d) (copies_text dim s.original zs)
    ∙ (ap (λ z. old ++ (dat_counts g rank m d ++ copies_text z s.original zs)) ed
    ∙ (ap (λ z. old ++ (dat_counts g rank m d ++ copies_text (dat_dim g d) z zs)) originals
    ∙ ap (λ z. old ++ (dat_counts g rank m d ++ copies_text (dat_dim g d) (originals_in m.sets.items (dat_set g d)) z)) ez))))
