-- Where cells stand in the buffers of ranks.
use Rattle.std.proofs.Common.{◌≡◌, ◌<◌, ◌≤◌, ◌+◌, ◌-◌, ◌*◌, ◌/◌, ◌%◌, ℕ, zero, suc, Bool, true, false, List, [], length, get_or, refl, sym, ap, subst, ◌∙◌, ⊎_elim, arith}
use Rattle.std.specs.Prelude.{◌&&◌, ◌||◌, nat_lt}
use Rattle.std.proofs.lemmas.Bool.{cases_Bool, cases_lt, cond-true, cond-false, and_parts, or_left, or_right, lt-ltb, le-ltb, ltb-true, ltb-false}
use Rattle.std.proofs.lemmas.List.{get_or-map}
use Rattle.std.proofs.lemmas.Nat.{div-mul-add, mod-mul-add, div-add-mod', row_fits}
use Rattle.std.proofs.Math.Nat.{div-lt_iff_lt-mul}
use Rattle.mesh_decl.specs.declared.owners.Owners.{Owners}
use Rattle.mesh_decl.specs.declared.owners.Perms.{Perms}
use Rattle.mesh_decl.specs.Mesh.{MeshValue, set_count, set_size, dat_count, dat_set, dat_dim}
use Rattle.mesh_decl.specs.Owners.{owner_of}
use Rattle.bound_plan.proofs.Places.{one_of}
use Rattle.local_mesh.specs.Halo.{owns, imports_execute, imports_nonexecute, has_copy}
use Rattle.local_mesh.specs.declared.types.LocalSet.{LocalSet}
use Rattle.local_mesh.specs.declared.types.RankMesh.{RankMesh}
use Rattle.local_mesh.specs.LocalMesh.{cells_before, originals_in}
use Rattle.schedule_model.specs.Cells.{DatCell}
use Rattle.schedule_model.specs.Layout.{is_cell, Has}
use Rattle.bound_program.specs.Values.{BoundValue}
use Rattle.loop_plan.specs.Values.{PlanValue}
use Rattle.loop_plan.specs.Pairs.{sets_of}
use Rattle.bound_plan.specs.Places.{last_upto, originals, original_at, local_at, bases_of, cells_of, place_of, dat_at, offset_at, cell_at}
use Rattle.bound_plan.specs.Setups.{setup_of}
use Rattle.bound_plan.specs.Layouts.{layout_of}
use Rattle.bound_plan.specs.Laws.{Planned}
use Rattle.bound_plan.specs.Given.{NumberLaws, HaloLaws}
use Rattle.bound_plan.proofs.Halos.{owns_is}
use Rattle.bound_plan.proofs.Locals.{rank_there, is_mesh, sets_are, stands, is_copy, local_is}
use Rattle.bound_plan.proofs.FrameFacts.{dat_cell}

-- ---- dats one after another

module _ (g : MeshValue) (sets : List LocalSet) where
  abbrev width : ℕ → ℕ
  width d = length (originals_in sets (dat_set g d)) * dat_dim g d

  later : (d m : ℕ) → d < m → cells_before g sets d + width d ≤ cells_before g sets m
  later d zero l = absurd (omega arith)
  later d (suc m) l = ⊎_elim
      (λ (h : d < m). let i = later d m h in omega arith)
      (λ (h : m ≤ d). let e : d ≡ m = omega arith in subst (λ z. cells_before g sets z + width z ≤ cells_before g sets m + width m) (sym e) (omega arith))
      (cases_lt d m)

  module _ (starts : List ℕ) (count : ℕ) (are : (d : ℕ) → d < count → get_or starts d 0 ≡ cells_before g sets d) where
    -- an index of a dat is one of no later dat
    pub last_is : (n d i : ℕ) → n ≤ count → d < n → cells_before g sets d ≤ i → i < cells_before g sets d + width d → last_upto starts n i ≡ d
    last_is zero d i ln l low high = absurd (omega arith)
    last_is (suc n) d i ln l low high = ⊎_elim
        (λ (h : d < n).
        let m = later d n h in
        let s = are n (omega arith) in
        cond-true (nat_lt i (get_or starts n 0)) (last_upto starts n i) n (lt-ltb i (get_or starts n 0) (omega arith)) ∙ last_is n d i (omega arith) h low high)
        (λ (h : n ≤ d).
        let e : n ≡ d = omega arith in
        let s : get_or starts n 0 ≤ i = subst (λ z. z ≤ i) (sym (are n (omega arith) ∙ ap (cells_before g sets) e)) low in
        cond-false (nat_lt i (get_or starts n 0)) (last_upto starts n i) n (le-ltb i (get_or starts n 0) s) ∙ e)
        (cases_lt d n)

    -- each index is one of a dat
    pub last_has : (n i : ℕ) → n ≤ count → i < cells_before g sets n
        → (last_upto starts n i < n) × (cells_before g sets (last_upto starts n i) ≤ i) × (i < cells_before g sets (last_upto starts n i) + width (last_upto starts n i))
    last_has zero i ln l = absurd (omega arith)
    last_has (suc n) i ln l = ⊎_elim
        (λ (h : nat_lt i (get_or starts n 0) ≡ true).
        let s = are n (omega arith) in
        let m : i < get_or starts n 0 = ltb-true i (get_or starts n 0) h in
        let w = last_has n i (omega arith) (omega arith) in
        subst (λ z. (z < suc n) × (cells_before g sets z ≤ i) × (i < cells_before g sets z + width z)) (sym (cond-true (nat_lt i (get_or starts n 0)) (last_upto starts n i) n h))
        ((let q : last_upto starts n i < n = w.0 in omega arith), w.1, w.2))
        (λ (h : nat_lt i (get_or starts n 0) ≡ false).
        let s = are n (omega arith) in
        let m : get_or starts n 0 ≤ i = ltb-false i (get_or starts n 0) h in
        subst (λ z. (z < suc n) × (cells_before g sets z ≤ i) × (i < cells_before g sets z + width z)) (sym (cond-false (nat_lt i (get_or starts n 0)) (last_upto starts n i) n h))
        (omega arith, omega arith, l))
        (cases_Bool (nat_lt i (get_or starts n 0)))

-- ---- the buffer of a rank

module _ (laws : NumberLaws) (halos : HaloLaws) (b : BoundValue) (o : Owners) (n : Perms) (meshes : List RankMesh) (p : PlanValue) (pl : Planned b o n meshes p) (r : ℕ) (lr : r < o.ranks) where
  bases_are : (d : ℕ) → d < dat_count b.mesh → get_or (bases_of meshes r) d 0 ≡ cells_before b.mesh (sets_of meshes r) d
  unfolding bases_of
  bases_are d l =
      ap (λ z. get_or z d 0) (get_or-map (λ (m : RankMesh). m.bases.items) meshes r
      (one_of meshes r (rank_there laws b.mesh o n meshes pl.distributed r lr)) []
      (rank_there laws b.mesh o n meshes pl.distributed r lr))
      ∙ (is_mesh laws b.mesh o n meshes pl.distributed r lr).bases.bases d l
      ∙ ap (λ z. cells_before b.mesh z d) (sets_are laws b.mesh o n meshes pl.distributed r lr)

  cells_are : cells_of meshes r ≡ cells_before b.mesh (sets_of meshes r) (dat_count b.mesh)
  unfolding cells_of
  cells_are =
      get_or-map (λ (m : RankMesh). m.cells) meshes r (one_of meshes r (rank_there laws b.mesh o n meshes pl.distributed r lr)) 0 (rank_there laws b.mesh o n meshes pl.distributed r lr)
      ∙ (is_mesh laws b.mesh o n meshes pl.distributed r lr).bases.cells
      ∙ ap (λ z. cells_before b.mesh z (dat_count b.mesh)) (sets_are laws b.mesh o n meshes pl.distributed r lr)

  -- the cell at an index, where its dat is known
  abbrev cell_by : ℕ → ℕ → DatCell
  cell_by i d = record {
    dat = d;
    element = original_at meshes r (dat_set b.mesh d) ((i - get_or (bases_of meshes r) d 0) / dat_dim b.mesh d);
    component = (i - get_or (bases_of meshes r) d 0) % dat_dim b.mesh d;
  }

  pub cell_is : (d l i : ℕ) → d < dat_count b.mesh → l < length (originals meshes r (dat_set b.mesh d)) → i < dat_dim b.mesh d
      → (get_or (bases_of meshes r) d 0 + l * dat_dim b.mesh d + i < cells_of meshes r)
      × (cell_at meshes b.mesh r (get_or (bases_of meshes r) d 0 + l * dat_dim b.mesh d + i) ≡ record { dat = d; element = original_at meshes r (dat_set b.mesh d) l; component = i })
  cell_is d l i ld ll li =
      let w : ℕ = dat_dim b.mesh d in
      let s : ℕ = get_or (bases_of meshes r) d 0 in
      let k : ℕ = s + l * w + i in
      let base : s ≡ cells_before b.mesh (sets_of meshes r) d = bases_are d ld in
      let row : l * w + i < length (originals meshes r (dat_set b.mesh d)) * w = below l w (length (originals meshes r (dat_set b.mesh d))) i ll li in
      let end = later b.mesh (sets_of meshes r) d (dat_count b.mesh) ld in
      let dat : dat_at meshes b.mesh r k ≡ d = last_is b.mesh (sets_of meshes r) (bases_of meshes r) (dat_count b.mesh) bases_are (dat_count b.mesh) d k (omega arith) ld (omega arith) (omega arith) in
      let off : k - s ≡ l * w + i = omega arith in
      let quotient : (k - s) / w ≡ l = ap (λ z. z / w) off ∙ div-mul-add l w i li in
      let rest : (k - s) % w ≡ i = ap (λ z. z % w) off ∙ mod-mul-add l w i li in (
        omega (arith, cells_are),
        ap (cell_by k) dat ∙ (λ j. record { dat = d; element = original_at meshes r (dat_set b.mesh d) (quotient j); component = rest j }),
      )
    where
      below : (l w h i : ℕ) → l < h → i < w → l * w + i < h * w
      below l w h i ll li = let f : l * w + w ≤ h * w = row_fits l w h w ll (omega arith) in omega arith

  -- a rank has a copy of an element of which it has a cell
  copy_of : (c : DatCell) → nat_lt c.element (set_size b.mesh (dat_set b.mesh c.dat)) ≡ true → Has (setup_of b o meshes p) (layout_of b o meshes p) r c
      → has_copy b.mesh o (dat_set b.mesh c.dat) c.element r ≡ true
  copy_of c inside has =
      let s : ℕ = dat_set b.mesh c.dat in
      let other : Bool = imports_execute b.mesh o s c.element r || imports_nonexecute b.mesh o s c.element r in
      ⊎_elim
      (λ h. or_left (owns o s c.element r) other
      (owns_is o s c.element r (sym (cond-true (nat_lt c.element (set_size b.mesh s)) (owner_of o s c.element) 0 inside) ∙ h)))
      (λ h. or_right (owns o s c.element r) other (and_parts (nat_lt c.element (set_size b.mesh s)) other h).1)
      has

  pub placed : (c : DatCell) → is_cell (setup_of b o meshes p) (layout_of b o meshes p) c ≡ true → Has (setup_of b o meshes p) (layout_of b o meshes p) r c
      → (place_of meshes b.mesh r c < cells_of meshes r) × (cell_at meshes b.mesh r (place_of meshes b.mesh r c) ≡ c)
  placed c h has =
      let s : ℕ = dat_set b.mesh c.dat in
      let u : (nat_lt c.dat (dat_count b.mesh) ≡ true) × ((nat_lt c.element (set_size b.mesh s) && nat_lt c.component (dat_dim b.mesh c.dat)) ≡ true)
      = and_parts (nat_lt c.dat (dat_count b.mesh)) (nat_lt c.element (set_size b.mesh s) && nat_lt c.component (dat_dim b.mesh c.dat)) h in
      let v : (nat_lt c.element (set_size b.mesh s) ≡ true) × (nat_lt c.component (dat_dim b.mesh c.dat) ≡ true)
      = and_parts (nat_lt c.element (set_size b.mesh s)) (nat_lt c.component (dat_dim b.mesh c.dat)) u.1 in
      let ld : c.dat < dat_count b.mesh = ltb-true c.dat (dat_count b.mesh) u.0 in
      let ls : s < set_count b.mesh = (halos.dats b.mesh pl.fits.mesh c.dat ld).set in
      let w : (local_at meshes r s c.element < length (originals meshes r s)) × (original_at meshes r s (local_at meshes r s c.element) ≡ c.element)
      = stands laws b.mesh o n meshes pl.distributed r lr s ls c.element (ltb-true c.element (set_size b.mesh s) v.0) (copy_of c v.0 has) in
      let t = cell_is c.dat (local_at meshes r s c.element) c.component ld w.0 (ltb-true c.component (dat_dim b.mesh c.dat) v.1) in
      (t.0, t.1 ∙ (λ j. record { dat = c.dat; element = w.1 j; component = c.component }))

  -- what stands at an index
  pub record Holder (i : ℕ) : Type 0 where
    pub dat : dat_at meshes b.mesh r i < dat_count b.mesh
    pub local : offset_at meshes b.mesh r i / dat_dim b.mesh (dat_at meshes b.mesh r i) < length (originals meshes r (dat_set b.mesh (dat_at meshes b.mesh r i)))
    pub component : offset_at meshes b.mesh r i % dat_dim b.mesh (dat_at meshes b.mesh r i) < dat_dim b.mesh (dat_at meshes b.mesh r i)
    pub start : get_or (bases_of meshes r) (dat_at meshes b.mesh r i) 0 ≤ i

  holder : (i : ℕ) → i < cells_of meshes r → Holder i
  holder i l =
      let d : ℕ = dat_at meshes b.mesh r i in
      let w = last_has b.mesh (sets_of meshes r) (bases_of meshes r) (dat_count b.mesh) bases_are (dat_count b.mesh) i (omega arith) (subst (λ z. i < z) cells_are l) in
      let base : get_or (bases_of meshes r) d 0 ≡ cells_before b.mesh (sets_of meshes r) d = bases_are d w.0 in
      let some : 0 < dat_dim b.mesh d = (halos.dats b.mesh pl.fits.mesh d w.0).some in
      let low : cells_before b.mesh (sets_of meshes r) d ≤ i = w.1 in
      let high : i < cells_before b.mesh (sets_of meshes r) d + length (originals meshes r (dat_set b.mesh d)) * dat_dim b.mesh d = w.2 in
      record {
        dat = w.0;
        local = (div-lt_iff_lt-mul some).1 (omega arith);
        component = omega arith;
        start = omega arith;
      }

  pub real : (i : ℕ) → i < cells_of meshes r → is_cell (setup_of b o meshes p) (layout_of b o meshes p) (cell_at meshes b.mesh r i) ≡ true
  real i l =
      let w : Holder i = holder i l in
      let d : ℕ = dat_at meshes b.mesh r i in
      let ls : dat_set b.mesh d < set_count b.mesh = (halos.dats b.mesh pl.fits.mesh d w.dat).set in
      dat_cell halos b o meshes p pl.fits d (original_at meshes r (dat_set b.mesh d) (offset_at meshes b.mesh r i / dat_dim b.mesh d)) (offset_at meshes b.mesh r i % dat_dim b.mesh d)
      w.dat (is_copy laws b.mesh o n meshes pl.distributed r lr (dat_set b.mesh d) ls (offset_at meshes b.mesh r i / dat_dim b.mesh d) w.local).0 w.component

  -- each index is its cell's place
  pub place_at : (i : ℕ) → i < cells_of meshes r → place_of meshes b.mesh r (cell_at meshes b.mesh r i) ≡ i
  place_at i l =
      let w : Holder i = holder i l in
      let d : ℕ = dat_at meshes b.mesh r i in
      let k : ℕ = offset_at meshes b.mesh r i in
      let ls : dat_set b.mesh d < set_count b.mesh = (halos.dats b.mesh pl.fits.mesh d w.dat).set in
      let back = local_is laws b.mesh o n meshes pl.distributed r lr (dat_set b.mesh d) ls (k / dat_dim b.mesh d) w.local in
      let start : get_or (bases_of meshes r) d 0 ≤ i = w.start in
      let parts : k / dat_dim b.mesh d * dat_dim b.mesh d + k % dat_dim b.mesh d ≡ k = div-add-mod' k (dat_dim b.mesh d) in
      let off : k ≡ i - get_or (bases_of meshes r) d 0 = refl in
      ap (λ z. get_or (bases_of meshes r) d 0 + z * dat_dim b.mesh d + k % dat_dim b.mesh d) back ∙ omega arith
