-- The cells of messages are those that arrive.
use Rattle.std.proofs.Common.{◌≡◌, ◌<◌, ◌≤◌, ℕ, Bool, true, List, length, get_or, flat_map, sym, ap, subst, ◌∙◌, ⊎_elim, arith}
use Rattle.std.specs.Prelude.{◌&&◌, ◌||◌, ◌==◌, nat_eq, nat_lt}
use Rattle.std.proofs.lemmas.Bool.{cases_lt, cond-true, and_parts, and_from, eqb-true, ltb-true}
use Rattle.std.proofs.lemmas.List.{get_or_past}
use Rattle.std.proofs.lemmas.List.FromFn.{length-map-range_with_len, get_or-map-range_with_len}
use Rattle.mesh_decl.specs.declared.owners.Owners.{Owners}
use Rattle.mesh_decl.specs.declared.owners.Perms.{Perms}
use Rattle.mesh_decl.specs.Mesh.{set_size, dat_count, dat_set, dat_dim}
use Rattle.mesh_decl.specs.Owners.{owner_of}
use Rattle.local_mesh.specs.Halo.{owns, imports, imports_execute, imports_nonexecute}
use Rattle.local_mesh.specs.declared.types.RankMesh.{RankMesh}
use Rattle.schedule_model.specs.Cells.{Data, DatCell}
use Rattle.schedule_model.specs.Setup as setup
use Rattle.schedule_model.specs.Machine.{arrives}
use Rattle.schedule_model.specs.Layout.{among, is_cell}
use Rattle.run_model.specs.OnWindows.{no_cell}
use Rattle.bound_program.specs.Values.{BoundValue}
use Rattle.run_model.specs.Windows.{Element, cell_in, cells_in}
use Rattle.loop_plan.specs.Values.{PlanValue, ItemPlanValue, item_plan, no_item_plan}
use Rattle.loop_plan.specs.Needs.{exchanges}
use Rattle.bound_plan.specs.Setups.{setup_of}
use Rattle.bound_plan.specs.Layouts.{layout_of, exported, exported_cells}
use Rattle.bound_plan.specs.Laws.{Planned}
use Rattle.bound_plan.specs.Given.{HaloLaws}
use Rattle.bound_plan.proofs.Halos.{owns_is, owner_is}
use Rattle.bound_plan.proofs.Among.{among_at, at_among, among_pieces, piece_among}
use Rattle.bound_plan.proofs.FrameFacts.{dat_cell}
use Rattle.lemmas.proofs.Lists.{any_at}

module _ (b : BoundValue) where
  -- the cells of an element
  pub cell_among : (d x i : ℕ) → i < dat_dim b.mesh d → among (cells_in b (Element d x)) (Data (record { dat = d; element = x; component = i })) ≡ true
  cell_among d x i l =
      among_at (cells_in b (Element d x)) i (Data (record { dat = d; element = x; component = i }))
      (omega (arith, length-map-range_with_len (cell_in (Element d x)) 0 (dat_dim b.mesh d)))
      (get_or-map-range_with_len (cell_in (Element d x)) 0 (dat_dim b.mesh d) i i no_cell l (omega arith))

  pub among_cell : (d x : ℕ) (c : DatCell) → among (cells_in b (Element d x)) (Data c) ≡ true → (i : ℕ) × (i < dat_dim b.mesh d) × (record { dat = d; element = x; component = i } ≡ c)
  among_cell d x c h =
      let w = at_among (cells_in b (Element d x)) (Data c) h in
      let lw : w.0 < length (cells_in b (Element d x)) = w.1 in
      let l : w.0 < dat_dim b.mesh d = omega (arith, length-map-range_with_len (cell_in (Element d x)) 0 (dat_dim b.mesh d)) in
      let q : Data (record { dat = d; element = x; component = w.0 }) ≡ Data c =
      sym (get_or-map-range_with_len (cell_in (Element d x)) 0 (dat_dim b.mesh d) w.0 w.0 no_cell l (omega arith)) ∙ w.2 in
      (w.0, l, (let s : record { dat = d; element = x; component = w.0 } ≡ c = cc in s))

module _ (halos : HaloLaws) (b : BoundValue) (o : Owners) (n : Perms) (meshes : List RankMesh) (p : PlanValue) (pl : Planned b o n meshes p) where
  either : (s x r : ℕ) → (imports_execute b.mesh o s x r || imports_nonexecute b.mesh o s x r) ≡ true → imports b.mesh o s x r ≡ true
  unfolding imports
  either s x r h = h

  pub arrive : (k s r : ℕ) (c : DatCell) → is_cell (setup_of b o meshes p) (layout_of b o meshes p) c ≡ true → arrives (setup_of b o meshes p) k r s c ≡ true
      → among (exported_cells b o (item_plan p k).exchange s r) (Data c) ≡ true
  arrive k s r c h a =
      let g : ℕ = set_size b.mesh (dat_set b.mesh c.dat) in
      let other : Bool = imports_execute b.mesh o (dat_set b.mesh c.dat) c.element r || imports_nonexecute b.mesh o (dat_set b.mesh c.dat) c.element r in
      let u : ((setup.owner_of (setup_of b o meshes p) c == s) ≡ true) × ((exchanges b p k c.dat && setup.has_copy (setup_of b o meshes p) r c) ≡ true)
      = and_parts (setup.owner_of (setup_of b o meshes p) c == s) (exchanges b p k c.dat && setup.has_copy (setup_of b o meshes p) r c) a in
      let v : (exchanges b p k c.dat ≡ true) × (setup.has_copy (setup_of b o meshes p) r c ≡ true) = and_parts (exchanges b p k c.dat) (setup.has_copy (setup_of b o meshes p) r c) u.1 in
      let w : (nat_lt c.element g ≡ true) × (other ≡ true) = and_parts (nat_lt c.element g) other v.1 in
      let own : owner_of o (dat_set b.mesh c.dat) c.element ≡ s =
      sym (cond-true (nat_lt c.element g) (owner_of o (dat_set b.mesh c.dat) c.element) 0 w.0) ∙ eqb-true (setup.owner_of (setup_of b o meshes p) c) s u.0 in
      let test : (imports b.mesh o (dat_set b.mesh c.dat) c.element r && owns o (dat_set b.mesh c.dat) c.element s) ≡ true =
      and_from (imports b.mesh o (dat_set b.mesh c.dat) c.element r) (owns o (dat_set b.mesh c.dat) c.element s)
      (either (dat_set b.mesh c.dat) c.element r w.1) (owns_is o (dat_set b.mesh c.dat) c.element s own) in
      let at = any_at (nat_eq c.dat) (item_plan p k).exchange v.0 in
      let same : c.dat ≡ get_or (item_plan p k).exchange at.0 0 = eqb-true c.dat (get_or (item_plan p k).exchange at.0 0) at.2 in
      let el = (halos.listed g (λ x. imports b.mesh o (dat_set b.mesh c.dat) x r && owns o (dat_set b.mesh c.dat) x s)).has c.element (ltb-true c.element g w.0) test in
      let i : (nat_lt c.dat (dat_count b.mesh) ≡ true) × ((nat_lt c.element g && nat_lt c.component (dat_dim b.mesh c.dat)) ≡ true)
      = and_parts (nat_lt c.dat (dat_count b.mesh)) (nat_lt c.element g && nat_lt c.component (dat_dim b.mesh c.dat)) h in
      let j : (nat_lt c.element g ≡ true) × (nat_lt c.component (dat_dim b.mesh c.dat) ≡ true) = and_parts (nat_lt c.element g) (nat_lt c.component (dat_dim b.mesh c.dat)) i.1 in
      among_pieces (λ d. flat_map (λ x. cells_in b (Element d x)) (exported b.mesh o (dat_set b.mesh d) s r)) (item_plan p k).exchange at.0 (Data c) at.1
      (subst (λ d. among (flat_map (λ x. cells_in b (Element d x)) (exported b.mesh o (dat_set b.mesh d) s r)) (Data c) ≡ true) same
      (among_pieces (λ x. cells_in b (Element c.dat x)) (exported b.mesh o (dat_set b.mesh c.dat) s r) el.0 (Data c) el.1
      (subst (λ x. among (cells_in b (Element c.dat x)) (Data c) ≡ true) (sym el.2) (cell_among b c.dat c.element c.component (ltb-true c.component (dat_dim b.mesh c.dat) j.1)))))

  -- the dats that an item exchanges are dats
  pub exchanged_there : (k j : ℕ) → j < length (item_plan p k).exchange → get_or (item_plan p k).exchange j 0 < dat_count b.mesh
  unfolding item_plan
  exchanged_there k j l = ⊎_elim
      (λ (h : k < length b.trace).
      let e = pl.proper.exchanges.in_order k h in
      subst (λ z. get_or z j 0 < dat_count b.mesh) (sym e) ((halos.listed (dat_count b.mesh) (exchanges b p k)).passes j (subst (λ z. j < length z) e l)).0)
      (λ (h : length b.trace ≤ k).
      let z : length (item_plan p k).exchange ≡ 0 = ap (λ (i : ItemPlanValue). length i.exchange) (get_or_past p.items k no_item_plan (omega (arith, pl.proper.items))) in
      absurd (omega arith))
      (cases_lt k (length b.trace))

  pub exports_own : (k s r : ℕ) (c : DatCell) → among (exported_cells b o (item_plan p k).exchange s r) (Data c) ≡ true
      → (is_cell (setup_of b o meshes p) (layout_of b o meshes p) c ≡ true) × (setup.owner_of (setup_of b o meshes p) c ≡ s)
  exports_own k s r c h =
      let u = piece_among (λ d. flat_map (λ x. cells_in b (Element d x)) (exported b.mesh o (dat_set b.mesh d) s r)) (item_plan p k).exchange (Data c) h in
      let d : ℕ = get_or (item_plan p k).exchange u.0 0 in
      let v = piece_among (λ x. cells_in b (Element d x)) (exported b.mesh o (dat_set b.mesh d) s r) (Data c) u.2 in
      let x : ℕ = get_or (exported b.mesh o (dat_set b.mesh d) s r) v.0 0 in
      let w = among_cell b d x c v.2 in
      let el : (x < set_size b.mesh (dat_set b.mesh d)) × ((imports b.mesh o (dat_set b.mesh d) x r && owns o (dat_set b.mesh d) x s) ≡ true)
      = (halos.listed (set_size b.mesh (dat_set b.mesh d)) (λ x. imports b.mesh o (dat_set b.mesh d) x r && owns o (dat_set b.mesh d) x s)).passes v.0 v.1 in
      let own : owns o (dat_set b.mesh d) x s ≡ true = (and_parts (imports b.mesh o (dat_set b.mesh d) x r) (owns o (dat_set b.mesh d) x s) el.1).1 in
      let there : is_cell (setup_of b o meshes p) (layout_of b o meshes p) (record { dat = d; element = x; component = w.0 }) ≡ true =
      dat_cell halos b o meshes p pl.fits d x w.0 (exchanged_there k u.0 u.1) el.0 w.1 in (
        subst (λ z. is_cell (setup_of b o meshes p) (layout_of b o meshes p) z ≡ true) w.2 there,
        subst (λ z. setup.owner_of (setup_of b o meshes p) z ≡ s) w.2
            (cond-true (nat_lt x (set_size b.mesh (dat_set b.mesh d))) (owner_of o (dat_set b.mesh d) x) 0
            (and_parts (nat_lt x (set_size b.mesh (dat_set b.mesh d))) (nat_lt w.0 (dat_dim b.mesh d))
            (and_parts (nat_lt d (dat_count b.mesh)) (nat_lt x (set_size b.mesh (dat_set b.mesh d)) && nat_lt w.0 (dat_dim b.mesh d))
            there).1).0
            ∙ owner_is o (dat_set b.mesh d) x s own),
      )
