-- Where arguments lead by the targets of one map in order, its table has their numbers.
use Rattle.std.proofs.Common.{◌≡◌, ℕ, ◌+◌, ◌*◌, ◌/◌, ◌%◌, ◌<◌, ◌≤◌, zero, suc, List, Vec, Some, None, length, get_or, take, ap, sym, subst, ◌∙◌, arith, ⊎_elim, mul-le-mul_right}
use Rattle.std.proofs.Math.Nat.{div-add-mod, mod-lt, div-lt_iff_lt-mul}
use Rattle.std.proofs.lemmas.Bool.{cases_eq}
use Rattle.std.proofs.lemmas.List.{get_or-take, get_or_default, length-take}
use Rattle.std.proofs.lemmas.Nat.{mul-add-lt}
use Rattle.std.specs.declared.alloc.Global.{Global}
use Rattle.mesh_decl.specs.Mesh.{MeshValue, IsDatAt, dat_count, dat_set, map_from}
use Rattle.lemmas.specs.Below.{row}
use Rattle.lemmas.proofs.Rows.{row_read}
use Rattle.local_mesh.specs.declared.types.RankMesh.{RankMesh}
use Rattle.local_mesh.specs.LocalMesh.{executed_in, AreLocalTargets}
use Rattle.colouring.specs.declared.types.IncArg.{IncArg}
use Rattle.colouring.specs.declared.types.Colours.{Colours}
use Rattle.colouring.specs.Colours.{target_of, Leads, AreArgs, AreColours}
use Rattle.colouring.specs.Table.{copies_of, IsRankOf, AreStarts, IsTable}
use Rattle.colouring.specs.Mapped.{IsColumn, AreColumns, AreRowColours}
use Rattle.colouring.proofs.Numbering.{target_within}
use Rattle.colouring.proofs.Translating.{are_colours}

-- an argument, where there is none
nowhere : IncArg
nowhere = record { dat = 0; via = None }

some_factor : (i a b : ℕ) → i < a * b → 0 < b
some_factor i a zero h = absurd (omega arith)
some_factor i a (suc b) h = omega arith

-- one column more
pub column_more : (map : ℕ) (args : List IncArg) (starts : List ℕ) (n k : ℕ) (d x : IncArg) → n < length args
    → IsColumn map (get_or starts n 0) n (get_or args n d)
    → ((j : ℕ) (y : IncArg) → j < n → IsColumn map (get_or starts j 0) j (get_or args j y)) → k < n + 1
    → IsColumn map (get_or starts k 0) k (get_or args k x)
column_more map args starts n k d x l now before lt = ⊎_elim
    (λ (e : k ≡ n). subst (λ j. IsColumn map (get_or starts j 0) j (get_or args j x)) (sym e) (now.0, ap (λ (a : IncArg). a.via) (get_or_default args n x d l) ∙ now.1))
    (λ (ne : k ≡ n → ⊥). before k x (omega arith))
    (cases_eq k n)

module _ (g : MeshValue) (r : RankMesh) (args : List IncArg) (places : ℕ) (is : IsRankOf g r) (k : AreArgs g r.sets.items places args) where
  -- each place's targets are elements that the rank has
  pub all_within : ((d : ℕ) → d < dat_count g → IsDatAt g d) → (p a : ℕ) (x : IncArg) → p < places → a < length args
      → target_of g r.maps.items p (get_or args a x) < copies_of g r.sets.items (get_or args a x).dat
  all_within dats p a x lp la = target_within g r is (get_or args a x) p k.set (dats (get_or args a x).dat (k.each a x la).dat).set
      (k.each a x la) (let e : places ≤ executed_in r.sets.items k.set = k.executed (omega arith) in omega arith)

  -- the colours of a table of the numbers are those of places and blocks
  pub rows_are : ((d : ℕ) → d < dat_count g → IsDatAt g d) → (starts table : List ℕ) (total size : ℕ) (c : Colours)
      → AreStarts (copies_of g r.sets.items) args starts total → IsTable g r.maps.items args starts places table
      → AreRowColours table (length args) places size c → AreColours g r.maps.items args places size c
  rows_are dats starts table total size c s t h = are_colours g r.maps.items args places total (copies_of g r.sets.items) starts table s t (all_within dats) size c h.count h.long h.blocks h.inner

  -- the map's targets as they are read
  pub targets_are : (starts : List ℕ) (map : ℕ) → AreColumns g args starts map → (v : Vec ℕ Global) (targets : List ℕ)
      → v ≡ get_or r.maps.items map v → targets ≡ v.items → targets ≡ row r.maps.items map
  targets_are starts map columns v targets e t = t ∙ row_read r.maps.items map v (rw is.maps_count columns.within) e

  -- the map's table
  module _ (starts : List ℕ) (map : ℕ) (columns : AreColumns g args starts map) where
    leads : Leads g k.set (dat_set g (get_or args 0 nowhere).dat) (Some (record { map = map; index = 0 }))
    leads = subst (Leads g k.set (dat_set g (get_or args 0 nowhere).dat)) (columns.columns 0 nowhere columns.some).1 (k.each 0 nowhere columns.some).leads

    -- it has a row for each place
    pub rows_fit : places * length args ≤ length (row r.maps.items map)
    rows_fit =
        let t : AreLocalTargets g map r.sets.items (row r.maps.items map) = is.maps map columns.within in
        let e : executed_in r.sets.items (map_from g map) ≡ executed_in r.sets.items k.set = ap (executed_in r.sets.items) leads.2 in
        let l : places ≤ executed_in r.sets.items (map_from g map) = rw e (k.executed columns.some) in
        rw (t.count, columns.dim) (mul-le-mul_right (length args) l)

    pub rows_table : IsTable g r.maps.items args starts places (take (places * length args) (row r.maps.items map))
    rows_table = record {
      count = simp length-take (omega (arith, rows_fit));
      at = λ p a x lp la.
          let w = length args in
          let lt : p * w + a < places * w = omega (arith, mul-add-lt p w a places lp la) in
          let col = columns.columns a x la in
          get_or-take (places * w) (row r.maps.items map) (p * w + a) 0 lt
          ∙ sym (rw (col.0, col.1, columns.dim) (omega arith));
    }

  -- each number of a table is below the total
  pub table_below : ((d : ℕ) → d < dat_count g → IsDatAt g d) → (starts table : List ℕ) (total : ℕ)
      → AreStarts (copies_of g r.sets.items) args starts total → IsTable g r.maps.items args starts places table → (i : ℕ)
      → i < length table → get_or table i 0 < total
  table_below dats starts table total s t i l =
      let w = length args in
      let fits : i < places * w = omega (arith, l, t.count) in
      let some : 0 < w = some_factor i places w fits in
      let p : i / w < places = (div-lt_iff_lt-mul some).1 fits in
      let a : i % w < w = mod-lt i some in
      let e : (i / w) * w + i % w ≡ i = omega (arith, div-add-mod i w) in
      let x = get_or args (i % w) nowhere in
      let h : target_of g r.maps.items (i / w) x < copies_of g r.sets.items x.dat = all_within dats (i / w) (i % w) nowhere p a in
      let n : get_or starts (i % w) 0 + copies_of g r.sets.items x.dat ≤ total = s.within (i % w) nowhere a in
      let v : get_or table ((i / w) * w + i % w) 0 ≡ get_or starts (i % w) 0 + target_of g r.maps.items (i / w) x = t.at (i / w) (i % w) nowhere p a in
      subst (λ k. get_or table k 0 < total) e (omega arith)
