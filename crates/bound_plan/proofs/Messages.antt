-- The cells of messages.
use Rattle.std.proofs.Common.{◌≡◌, ◌<◌, ℕ, true, List, length, get_or, flat_map, refl, sym, ap, subst, ◌∙◌, ⊎_elim, arith}
use Rattle.std.specs.Prelude.{◌&&◌, ◌||◌, ◌==◌, nat_eq, nat_lt}
use Rattle.std.proofs.lemmas.Bool.{cases_lt, cond-true, and_parts, and_from, eq-eqb, lt-ltb}
use Rattle.std.proofs.lemmas.List.{get_or_past}
use Rattle.std.proofs.lemmas.List.Folds.{list_any_at}
use Rattle.std.proofs.lemmas.List.FromFn.{length-map-range_with_len, get_or-map-range_with_len}
use Rattle.mesh_decl.specs.declared.owners.Owners.{Owners}
use Rattle.mesh_decl.specs.declared.owners.Perms.{Perms}
use Rattle.mesh_decl.specs.Mesh.{set_size, dat_count, dat_set, dat_dim}
use Rattle.mesh_decl.specs.Owners.{owner_of}
use Rattle.local_mesh.specs.Halo.{owns, imports, imports_execute, imports_nonexecute}
use Rattle.local_mesh.specs.declared.types.RankMesh.{RankMesh}
use Rattle.schedule_model.specs.Cells.{Cell, Data, Variable, DatCell}
use Rattle.schedule_model.specs.Setup as setup
use Rattle.schedule_model.specs.Machine.{arrives}
use Rattle.schedule_model.specs.Layout.{among}
use Rattle.schedule_model.specs.Scatter.{Once}
use Rattle.run_model.specs.OnWindows.{no_cell}
use Rattle.bound_program.specs.Values.{BoundValue}
use Rattle.run_model.specs.Windows.{Element, cell_in, cells_in}
use Rattle.loop_plan.specs.Values.{PlanValue, ItemPlanValue, item_plan, no_item_plan}
use Rattle.loop_plan.specs.Needs.{exchanges}
use Rattle.loop_plan.specs.Pairs.{sets_of, imports_from, passes}
use Rattle.bound_plan.specs.Setups.{setup_of}
use Rattle.bound_plan.specs.Layouts.{exported, exported_cells}
use Rattle.bound_plan.specs.Laws.{Planned}
use Rattle.bound_plan.specs.Machine.{AreMessages}
use Rattle.bound_plan.specs.Given.{HaloLaws}
use Rattle.bound_plan.proofs.Halos.{owner_is}
use Rattle.bound_plan.proofs.Among.{at_among, among_pieces, piece_among}
use Rattle.bound_plan.proofs.Onces.{Apart, once_of, once_pieces}
use Rattle.bound_plan.proofs.Exports.{cell_among, among_cell, exchanged_there}
use Rattle.lemmas.proofs.Lists.{any_at}

abbrev dat_of : Cell → ℕ
dat_of (Data c) = c.dat
dat_of (Variable v) = 0

abbrev element_of : Cell → ℕ
element_of (Data c) = c.element
element_of (Variable v) = 0

abbrev component_of : Cell → ℕ
component_of (Data c) = c.component
component_of (Variable v) = 0

module _ (b : BoundValue) where
  -- a cell of an element tells it
  tells : (d x : ℕ) (c : Cell) → among (cells_in b (Element d x)) c ≡ true → (i : ℕ) × (i < dat_dim b.mesh d) × (Data (record { dat = d; element = x; component = i }) ≡ c)
  tells d x c h =
      let w = at_among (cells_in b (Element d x)) c h in
      let lw : w.0 < length (cells_in b (Element d x)) = w.1 in
      let l : w.0 < dat_dim b.mesh d = omega (arith, length-map-range_with_len (cell_in (Element d x)) 0 (dat_dim b.mesh d)) in
      (w.0, l, sym (get_or-map-range_with_len (cell_in (Element d x)) 0 (dat_dim b.mesh d) w.0 w.0 no_cell l (omega arith)) ∙ w.2)

  cells_once : (d x : ℕ) → Once (cells_in b (Element d x))
  cells_once d x = once_of (cells_in b (Element d x)) (λ i j li lj e.
      let n = length-map-range_with_len (cell_in (Element d x)) 0 (dat_dim b.mesh d) in
      let a : get_or (cells_in b (Element d x)) i no_cell ≡ cell_in (Element d x) i = get_or-map-range_with_len (cell_in (Element d x)) 0 (dat_dim b.mesh d) i i no_cell (omega arith) (omega arith) in
      let c : get_or (cells_in b (Element d x)) j no_cell ≡ cell_in (Element d x) j = get_or-map-range_with_len (cell_in (Element d x)) 0 (dat_dim b.mesh d) j j no_cell (omega arith) (omega arith) in
      ap component_of (sym a ∙ e ∙ c))

  module _ (halos : HaloLaws) (o : Owners) (s r : ℕ) where
    abbrev row : ℕ → List Cell
    row d = flat_map (λ x. cells_in b (Element d x)) (exported b.mesh o (dat_set b.mesh d) s r)

    row_tells : (d : ℕ) (c : Cell) → among (row d) c ≡ true → dat_of c ≡ d
    row_tells d c h =
        let u = piece_among (λ x. cells_in b (Element d x)) (exported b.mesh o (dat_set b.mesh d) s r) c h in
        let w = tells d (get_or (exported b.mesh o (dat_set b.mesh d) s r) u.0 0) c u.2 in
        ap dat_of (sym w.2)

    row_once : (d : ℕ) → Once (row d)
    row_once d = once_pieces (λ x. cells_in b (Element d x)) element_of
        (λ x c h. let w = tells d x c h in ap element_of (sym w.2))
        (exported b.mesh o (dat_set b.mesh d) s r) (λ k l. cells_once d (get_or (exported b.mesh o (dat_set b.mesh d) s r) k 0))
        (halos.listed (set_size b.mesh (dat_set b.mesh d)) (λ x. imports b.mesh o (dat_set b.mesh d) x r && owns o (dat_set b.mesh d) x s)).once

    rows_once : (dats : List ℕ) → Apart dats → Once (exported_cells b o dats s r)
    rows_once dats apart = once_pieces row dat_of row_tells dats (λ k l. row_once (get_or dats k 0)) apart

module _ (halos : HaloLaws) (b : BoundValue) (o : Owners) (n : Perms) (meshes : List RankMesh) (p : PlanValue) (pl : Planned b o n meshes p) where
  exchange_apart : (k : ℕ) → Apart (item_plan p k).exchange
  unfolding item_plan
  exchange_apart k = ⊎_elim
      (λ (h : k < length b.trace). subst Apart (sym (pl.proper.exchanges.in_order k h)) (halos.listed (dat_count b.mesh) (exchanges b p k)).once)
      (λ h i j li lj e.
      let z : length (item_plan p k).exchange ≡ 0 = ap (λ (i : ItemPlanValue). length i.exchange) (get_or_past p.items k no_item_plan (omega (arith, pl.proper.items))) in
      absurd (omega arith))
      (cases_lt k (length b.trace))

  imported : (s x r : ℕ) → imports b.mesh o s x r ≡ true → (imports_execute b.mesh o s x r || imports_nonexecute b.mesh o s x r) ≡ true
  unfolding imports
  imported s x r h = h

  arriving : (k s r : ℕ) (c : DatCell) → among (exported_cells b o (item_plan p k).exchange s r) (Data c) ≡ true → arrives (setup_of b o meshes p) k r s c ≡ true
  arriving k s r c h =
      let u = piece_among (λ d. flat_map (λ x. cells_in b (Element d x)) (exported b.mesh o (dat_set b.mesh d) s r)) (item_plan p k).exchange (Data c) h in
      let d : ℕ = get_or (item_plan p k).exchange u.0 0 in
      let v = piece_among (λ x. cells_in b (Element d x)) (exported b.mesh o (dat_set b.mesh d) s r) (Data c) u.2 in
      let x : ℕ = get_or (exported b.mesh o (dat_set b.mesh d) s r) v.0 0 in
      let w = among_cell b d x c v.2 in
      let el : (x < set_size b.mesh (dat_set b.mesh d)) × ((imports b.mesh o (dat_set b.mesh d) x r && owns o (dat_set b.mesh d) x s) ≡ true)
      = (halos.listed (set_size b.mesh (dat_set b.mesh d)) (λ x. imports b.mesh o (dat_set b.mesh d) x r && owns o (dat_set b.mesh d) x s)).passes v.0 v.1 in
      let t : (imports b.mesh o (dat_set b.mesh d) x r ≡ true) × (owns o (dat_set b.mesh d) x s ≡ true) = and_parts (imports b.mesh o (dat_set b.mesh d) x r) (owns o (dat_set b.mesh d) x s) el.1 in
      let inside : nat_lt x (set_size b.mesh (dat_set b.mesh d)) ≡ true = lt-ltb x (set_size b.mesh (dat_set b.mesh d)) el.0 in
      let y : DatCell = record { dat = d; element = x; component = w.0 } in
      let own : setup.owner_of (setup_of b o meshes p) y ≡ s =
      cond-true (nat_lt x (set_size b.mesh (dat_set b.mesh d))) (owner_of o (dat_set b.mesh d) x) 0 inside ∙ owner_is o (dat_set b.mesh d) x s t.1 in
      let exchanged : exchanges b p k d ≡ true = list_any_at (nat_eq d) (item_plan p k).exchange u.0 0 u.1 (eq-eqb d d refl) in
      subst (λ z. arrives (setup_of b o meshes p) k r s z ≡ true) w.2
      (and_from (setup.owner_of (setup_of b o meshes p) y == s) (exchanges b p k d && setup.has_copy (setup_of b o meshes p) r y) (eq-eqb (setup.owner_of (setup_of b o meshes p) y) s own)
      (and_from (exchanges b p k d) (setup.has_copy (setup_of b o meshes p) r y) exchanged
      (and_from (nat_lt x (set_size b.mesh (dat_set b.mesh d))) (imports_execute b.mesh o (dat_set b.mesh d) x r || imports_nonexecute b.mesh o (dat_set b.mesh d) x r) inside
      (imported (dat_set b.mesh d) x r t.0))))

  some : (k s r : ℕ) → s < o.ranks → r < o.ranks → passes b.mesh meshes (item_plan p k).exchange s r ≡ true → 0 < length (exported_cells b o (item_plan p k).exchange s r)
  some k s r ls lr h =
      let u = any_at (λ d. imports_from (sets_of meshes s) (sets_of meshes r) (dat_set b.mesh d)) (item_plan p k).exchange h in
      let d : ℕ = get_or (item_plan p k).exchange u.0 0 in
      let ld : d < dat_count b.mesh = exchanged_there halos b o n meshes p pl k u.0 u.1 in
      let dat = halos.dats b.mesh pl.fits.mesh d ld in
      let w = (halos.messages b.mesh o n meshes pl.distributed.are_perms pl.distributed.are_meshes s r (dat_set b.mesh d) ls lr dat.set).0 u.2 in
      let el = (halos.listed (set_size b.mesh (dat_set b.mesh d)) (λ x. imports b.mesh o (dat_set b.mesh d) x r && owns o (dat_set b.mesh d) x s)).has w.0 w.1
      (and_from (imports b.mesh o (dat_set b.mesh d) w.0 r) (owns o (dat_set b.mesh d) w.0 s) w.2 w.3) in
      let c : Cell = Data (record { dat = d; element = w.0; component = 0 }) in
      let m : among (exported_cells b o (item_plan p k).exchange s r) c ≡ true =
      among_pieces (λ d. flat_map (λ x. cells_in b (Element d x)) (exported b.mesh o (dat_set b.mesh d) s r)) (item_plan p k).exchange u.0 c u.1
      (among_pieces (λ x. cells_in b (Element d x)) (exported b.mesh o (dat_set b.mesh d) s r) el.0 c el.1
      (subst (λ x. among (cells_in b (Element d x)) c ≡ true) (sym el.2) (cell_among b d w.0 0 dat.some))) in
      let z = at_among (exported_cells b o (item_plan p k).exchange s r) c m in
      let lz : z.0 < length (exported_cells b o (item_plan p k).exchange s r) = z.1 in
      omega arith

  pub messages : AreMessages b o meshes p
  messages = record {
    once = λ k s r. rows_once b halos o s r (item_plan p k).exchange (exchange_apart k);
    arrive = arriving;
    some = some;
  }
