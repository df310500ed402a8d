-- A receiver imports from a sender as many cells by local numbers as the sender exports.
use Rattle.std.proofs.Common.{◌≡◌, ◌<◌, ◌≤◌, ◌+◌, ◌*◌, ◌-◌, ℕ, suc, Bool, true, refl, sym, ap, subst, ◌∙◌, ⊎_elim, arith, List, [], ◌∷◌, length, get_or, flat_map, take, drop}
use Rattle.std.specs.Prelude.{◌&&◌, nat_eq, Contains}
use Rattle.std.specs.Bool.{Decides, one_answer}
use Rattle.std.specs.List.{IsDistinct}
use Rattle.std.specs.Set.{is_member}
use Rattle.std.proofs.lemmas.Bool.{cases_lt, and_parts, and_from}
use Rattle.std.proofs.lemmas.Bool.Decides.{Decides-eqb}
use Rattle.std.proofs.lemmas.Cmp.{nat_eq_equiv}
use Rattle.std.proofs.lemmas.List.{get_or-drop, get_or_default, get_or_past, length-append, length-drop}
use Rattle.std.proofs.lemmas.List.Sums.{length-filter}
use Rattle.std.proofs.lemmas.List.FromFn.{length-map-range_with_len}
use Rattle.std.proofs.lemmas.Map.Made.{is_member-Decides, IsDistinct-from_AllPairs, length-IsIntersection}
use Rattle.lemmas.specs.Below.{HasNumbers, listed}
use Rattle.mesh_decl.specs.declared.owners.Owners.{Owners}
use Rattle.mesh_decl.specs.declared.owners.Perms.{Perms}
use Rattle.mesh_decl.specs.Mesh.{MeshValue, set_count, set_size, dat_count, dat_set, dat_dim}
use Rattle.local_mesh.specs.Halo.{owns, imports}
use Rattle.local_mesh.specs.declared.types.RankMesh.{RankMesh}
use Rattle.schedule_model.specs.Layout.{message_cells}
use Rattle.bound_program.specs.Values.{BoundValue}
use Rattle.run_model.specs.Windows.{Element, cell_in, cells_in}
use Rattle.loop_plan.specs.Values.{PlanValue, ItemPlanValue, item_plan, no_item_plan}
use Rattle.loop_plan.specs.Needs.{exchanges}
use Rattle.loop_plan.specs.Distributed.{IsDistributed}
use Rattle.schedule_check.specs.Mail.{is_among, imported_from, cells_between, plan_cells}
use Rattle.bound_plan.specs.Layouts.{exported, exported_cells, layout_of}
use Rattle.bound_plan.specs.Laws.{Planned}
use Rattle.rank_exec.proofs.planned_run.Elements.{Given, originals, own, apart, owned_is, is_owned, import_is, is_import}

-- numbers at different places of a list differ
distinct : (xs : List ℕ) → ((i j : ℕ) → i < length xs → j < length xs → get_or xs i 0 ≡ get_or xs j 0 → i ≡ j) → IsDistinct nat_eq xs
distinct xs h = IsDistinct-from_AllPairs Decides-eqb xs (λ i j z l lj e.
    let q : i ≡ j = h i j (omega arith) lj (get_or_default xs i 0 z (omega arith) ∙ (e ∙ get_or_default xs j z 0 lj)) in
    absurd (omega arith))

module _ (laws : Given) (g : MeshValue) (o : Owners) (n : Perms) (meshes : List RankMesh) (d : IsDistributed g o n meshes) (s r t : ℕ)
    (ls : s < o.ranks) (lr : r < o.ranks) (lt : t < set_count g) where
  abbrev ours : List ℕ
  ours = drop (own laws g o n meshes d r t lr lt) (originals laws g o n meshes d r t lr lt)

  abbrev theirs : List ℕ
  theirs = take (own laws g o n meshes d s t ls lt) (originals laws g o n meshes d s t ls lt)

  abbrev test : ℕ → Bool
  test x = imports g o t x r && owns o t x s

  ours_apart : IsDistinct nat_eq ours
  ours_apart = distinct ours (λ i j li lj e.
      let w : ℕ = own laws g o n meshes d r t lr lt in
      let xs : List ℕ = originals laws g o n meshes d r t lr lt in
      let c : length ours ≡ length xs - w = length-drop w xs in
      let q : w + i ≡ w + j = apart laws g o n meshes d r t lr lt (w + i) (w + j) (omega arith) (omega arith) (sym (get_or-drop w xs i 0) ∙ (e ∙ get_or-drop w xs j 0)) in
      omega arith)

  abbrev Both : ℕ → Type 0
  Both x = (x < set_size g t) × (imports g o t x r ≡ true) × (owns o t x s ≡ true)

  exports_both : (x : ℕ) → Decides (is_member nat_eq (exported g o t s r) x) (Both x)
  exports_both x =
      let n : HasNumbers (set_size g t) test = laws.listed (set_size g t) test in
      let m : Decides (is_member nat_eq (exported g o t s r) x) (Contains (exported g o t s r) x) = is_member-Decides Decides-eqb (exported g o t s r) x in (
        (λ h.
            let c : Contains (exported g o t s r) x = m.0 h in
            let e : get_or (exported g o t s r) c.0 0 ≡ x = get_or_default (exported g o t s r) c.0 0 x c.1 ∙ c.2 in
            let p : (x < set_size g t) × (test x ≡ true) = subst (λ z. (z < set_size g t) × (test z ≡ true)) e (n.passes c.0 c.1) in
            let a : (imports g o t x r ≡ true) × (owns o t x s ≡ true) = and_parts (imports g o t x r) (owns o t x s) p.1 in
            (p.0, a.0, a.1)),
        (λ (h : Both x).
            let w : (k : ℕ) × (k < length (exported g o t s r)) × (get_or (exported g o t s r) k 0 ≡ x) = n.has x h.0 (and_from (imports g o t x r) (owns o t x s) h.1 h.2) in
            m.1 (w.0, w.1, get_or_default (exported g o t s r) w.0 x 0 w.1 ∙ w.2)),
      )

  locals_both : (x : ℕ) → Decides (is_member nat_eq ours x && is_member nat_eq theirs x) (Both x)
  locals_both x = (
    (λ h.
        let a : (is_member nat_eq ours x ≡ true) × (is_member nat_eq theirs x ≡ true) = and_parts (is_member nat_eq ours x) (is_member nat_eq theirs x) h in
        let i : (x < set_size g t) × (imports g o t x r ≡ true) = import_is laws g o n meshes d r t lr lt x a.0 in
        (i.0, i.1, owned_is laws g o n meshes d s t ls lt x a.1)),
    (λ (h : Both x). and_from (is_member nat_eq ours x) (is_member nat_eq theirs x)
        (is_import laws g o n meshes d r t lr lt x h.0 h.1) (is_owned laws g o n meshes d s t ls lt x h.0 h.2)),
  )

  pub elements_are_exported : imported_from meshes s r t ≡ length (exported g o t s r)
  elements_are_exported =
      length-filter (is_among (own laws g o n meshes d s t ls lt) (originals laws g o n meshes d s t ls lt)) ours
      ∙ sym (length-IsIntersection nat_eq_equiv ours theirs (exported g o t s r) ours_apart
      (distinct (exported g o t s r) (laws.listed (set_size g t) test).once)
      (λ x. one_answer (is_member nat_eq (exported g o t s r) x) (is_member nat_eq ours x && is_member nat_eq theirs x) (exports_both x) (locals_both x)))

-- each element has a dat's cells
row_length : (b : BoundValue) (e : ℕ) (xs : List ℕ) → length (flat_map (λ x. cells_in b (Element e x)) xs) ≡ dat_dim b.mesh e * length xs
row_length b e [] = grind arith
row_length b e (x ∷ xs) =
    let h : length (flat_map (λ x. cells_in b (Element e x)) xs) ≡ dat_dim b.mesh e * length xs = row_length b e xs in
    let c : length (cells_in b (Element e x)) ≡ dat_dim b.mesh e = length-map-range_with_len (cell_in (Element e x)) 0 (dat_dim b.mesh e) in
    length-append (cells_in b (Element e x)) (flat_map (λ x. cells_in b (Element e x)) xs)
    ∙ (ap (λ z. z + length (flat_map (λ x. cells_in b (Element e x)) xs)) c
    ∙ (ap (λ z. dat_dim b.mesh e + z) h ∙ one_more (dat_dim b.mesh e) (length xs)))
  where
    one_more : (a m : ℕ) → a + a * m ≡ a * suc m
    one_more a m = grind arith

module _ (laws : Given) (b : BoundValue) (o : Owners) (n : Perms) (meshes : List RankMesh) (p : PlanValue) (pl : Planned b o n meshes p) (s r : ℕ) (ls : s < o.ranks) (lr : r < o.ranks) where
  cells_of_dats : (ds : List ℕ) → ((k : ℕ) → k < length ds → get_or ds k 0 < dat_count b.mesh) → cells_between b.mesh meshes ds s r ≡ length (exported_cells b o ds s r)
  cells_of_dats [] l = refl
  cells_of_dats (e ∷ ds) l =
      let rest : cells_between b.mesh meshes ds s r ≡ length (exported_cells b o ds s r) = cells_of_dats ds (λ k lk. l (suc k) (omega arith)) in
      let le : e < dat_count b.mesh = l 0 (omega arith) in
      let row : List _ = flat_map (λ x. cells_in b (Element e x)) (exported b.mesh o (dat_set b.mesh e) s r) in
      let lt : dat_set b.mesh e < set_count b.mesh = (laws.dats b.mesh pl.fits.mesh e le).set in
      let here : dat_dim b.mesh e * imported_from meshes s r (dat_set b.mesh e) ≡ length row =
      ap (λ z. dat_dim b.mesh e * z) (elements_are_exported laws b.mesh o n meshes pl.distributed s r (dat_set b.mesh e) ls lr lt)
      ∙ sym (row_length b e (exported b.mesh o (dat_set b.mesh e) s r)) in
      ap (λ z. z + cells_between b.mesh meshes ds s r) here
      ∙ (ap (λ z. length row + z) rest ∙ sym (length-append row (exported_cells b o ds s r)))

  -- the dats that an item exchanges are dats
  exchanged_there : (k j : ℕ) → j < length (item_plan p k).exchange → get_or (item_plan p k).exchange j 0 < dat_count b.mesh
  unfolding item_plan
  exchanged_there k j l = ⊎_elim
      (λ (h : k < length b.trace).
      let e : (item_plan p k).exchange ≡ listed (dat_count b.mesh) (exchanges b p k) = pl.proper.exchanges.in_order k h in
      subst (λ z. get_or z j 0 < dat_count b.mesh) (sym e) ((laws.listed (dat_count b.mesh) (exchanges b p k)).passes j (subst (λ z. j < length z) e l)).0)
      (λ (h : length b.trace ≤ k).
      let z : length (item_plan p k).exchange ≡ 0 = ap (λ (i : ItemPlanValue). length i.exchange) (get_or_past p.items k no_item_plan (omega (arith, pl.proper.items))) in
      absurd (omega arith))
      (cases_lt k (length b.trace))

  pub cells_are_exported : (k : ℕ) → plan_cells b meshes p k s r ≡ message_cells (layout_of b o meshes p) k s r
  cells_are_exported k = cells_of_dats (item_plan p k).exchange (exchanged_there k)
