-- The spans in the buffers of owners are where the windows of elements stand.
use Rattle.std.proofs.Common.{◌≡◌, ◌<◌, ◌+◌, ℕ, zero, suc, true, List, [], ◌∷◌, ◌++◌, All, map, flat_map, length, get_or, Some, None, refl, sym, ap, ap₂, ◌∙◌, subst, ⊎_elim, arith}
use Rattle.std.specs.Prelude.{slice_index}
use Rattle.std.proofs.lemmas.Bool.{false≢true, or_cases, and_parts, eqb-true, lt-ltb, cond-true}
use Rattle.std.proofs.lemmas.List.{get_or-map}
use Rattle.mesh_decl.specs.declared.owners.Owners.{Owners}
use Rattle.mesh_decl.specs.declared.owners.Perms.{Perms}
use Rattle.mesh_decl.specs.Mesh.{MeshValue, IsMesh, IsMapAt, IsDatAt, set_count, set_size, map_count, dat_count, dat_set, dat_dim, target}
use Rattle.local_mesh.specs.declared.halo_lists.types.Halos.{Halos}
use Rattle.local_mesh.specs.declared.types.RankMesh.{RankMesh}
use Rattle.local_mesh.specs.declared.lists.LocalLists.{LocalLists}
use Rattle.local_mesh.specs.Lists.{IsLocal, AreAtOwners}
use Rattle.schedule_model.specs.Cells.{Variable, DatCell, VarCell}
use Rattle.schedule_model.specs.Program.{Ordered, is_loop}
use Rattle.schedule_model.specs.Setup as setup
use Rattle.bound_program.specs.declared.sites.Arg.{Arg}
use Rattle.bound_program.specs.declared.sites.Arg.TheVariants.{Dat, Global}
use Rattle.bound_program.specs.Values.{BoundValue, SiteValue, no_site}
use Rattle.bound_program.specs.Fits.{ArgFits, ViaFits, SiteFits}
use Rattle.run_model.specs.Windows.{Reached, Element, Whole, is_same, reached, element_by, different, cells_in}
use Rattle.run_model.specs.Laws.{LoopsAreThere, site_of}
use Rattle.run_model.specs.Programs.{item_at, kind_of, loop_of}
use Rattle.loop_plan.specs.Values.{PlanValue}
use Rattle.bound_plan.specs.Places.{originals, bases_of, cell_at}
use Rattle.bound_plan.specs.Machine.{Stand, ElementsStand, DatsComeFirst, FramesHaveCellsOnce}
use Rattle.bound_plan.specs.Windows.{on_dats, frame_cells}
use Rattle.bound_plan.specs.Variables.{variable_at}
use Rattle.bound_plan.specs.Setups.{setup_of}
use Rattle.bound_plan.specs.Layouts.{layout_of}
use Rattle.rank_state.specs.declared.owned.Owned.{Owned}
use Rattle.rank_state.specs.declared.scalars.Scalar.{Scalar}
use Rattle.rank_state.specs.declared.scalars.Scalar.TheVariants.{Value, Amount}
use Rattle.rank_state.specs.Windows.{cells_from, index, scalar_cells}
use Rattle.rank_state.specs.Ordered.{OwnedBy, InVariables, index_cells, owned_cells}
use Rattle.rank_layout.specs.Seen.{has}
use Rattle.rank_layout.specs.Placed.{is_dat}
use Rattle.rank_layout.specs.Numbered.{ViaThere}
use Rattle.rank_layout.specs.Tables.{tables_of}
use Rattle.rank_layout.specs.Made.{EachIsScalar}
use Rattle.rank_layout.specs.MessageLaws.{HasLists}
use Rattle.rank_layout.specs.OwnedWindows.{begins_with, owned_after, owners_locals, no_owned, owner_at, place_at_owner, owners_span, HasPlace, owned_by, ArgPlaced}
use Rattle.rank_layout.specs.OwnedLaws.{FramesFit, OwnedStand}
use Rattle.run_model.proofs.Public.{same_true}
use Rattle.rank_layout.proofs.SeenSoFar.{has_of}
use Rattle.rank_layout.proofs.MessageCells.{one_element}
use Rattle.rank_layout.proofs.MessagesStand.{bases_at}
use Rattle.rank_layout.proofs.RankMeshes.{some_at}
use Rattle.rank_layout.proofs.OwnedSpans.{all_owned, reached_cells, reached_owned, all_length}

mesh_at : (meshes : List RankMesh) (r : ℕ) → r < length meshes → (m : RankMesh) × (m ≡ get_or meshes r m)
mesh_at [] r lt = absurd (omega arith)
mesh_at (x ∷ xs) zero lt = (x, refl)
mesh_at (x ∷ xs) (suc r) lt = mesh_at xs r (omega arith)

locals_at : (lists : List LocalLists) (t : ℕ) (e : LocalLists) → t < length lists → owners_locals lists t ≡ (get_or lists t e).at_owner
unfolding owners_locals
locals_at lists t e lt = get_or-map (λ (x : LocalLists). x.at_owner) lists t e [] lt

module _ (b : BoundValue) (o : Owners) (n : Perms) (meshes : List RankMesh) (p : PlanValue) (h : Halos) (lists : List LocalLists)
    (has_lists : HasLists b o n meshes p h lists)
    (declared : (d : ℕ) → d < dat_count b.mesh → IsDatAt b.mesh d)
    (standing : ElementsStand) where
  at_owners : (t : ℕ) → t < set_count b.mesh → AreAtOwners b.mesh o meshes t (owners_locals lists t)
  at_owners t lt =
      let here : t < length lists = omega (arith, has_lists.lists.count, lt) in
      let there : t < length h.sets.items = omega (arith, has_lists.halos.count, lt) in
      let e = some_at lists t here in
      let d = some_at h.sets.items t there in
      subst (AreAtOwners b.mesh o meshes t) (sym (locals_at lists t e here)) (has_lists.lists.sets t d e lt).owners

  module _ (d x : ℕ) (ld : d < dat_count b.mesh) (lx : x < set_size b.mesh (dat_set b.mesh d)) where
    pub rank_of : owner_at b.mesh o meshes lists d x < o.ranks
    rank_of = has_lists.planned.distributed.are_owners.below (dat_set b.mesh d) x (declared d ld).set lx

    stand : Stand b o meshes (owner_at b.mesh o meshes lists d x)
    stand = standing b o n meshes p has_lists.planned (owner_at b.mesh o meshes lists d x) rank_of

    local_of : IsLocal (originals meshes (owner_at b.mesh o meshes lists d x) (dat_set b.mesh d)) x (slice_index (owners_locals lists (dat_set b.mesh d)) x)
    local_of = (at_owners (dat_set b.mesh d) (declared d ld).set).each x lx

    pub value_at : (j : ℕ) → j < dat_dim b.mesh d
        → cell_at meshes b.mesh (owner_at b.mesh o meshes lists d x) (place_at_owner b.mesh o meshes lists d x + j) ≡ record { dat = d; element = x; component = j }
    value_at j lj =
        stand.values d (slice_index (owners_locals lists (dat_set b.mesh d)) x) j ld local_of.0 lj
        ∙ ap (λ y. record { dat = d; element = y; component = j }) local_of.1

    bases_count : length (bases_of meshes (owner_at b.mesh o meshes lists d x)) ≡ dat_count b.mesh
    bases_count =
        let are = has_lists.planned.distributed.are_meshes in
        let lm : owner_at b.mesh o meshes lists d x < length meshes = omega (arith, are.count, rank_of) in
        let m = mesh_at meshes (owner_at b.mesh o meshes lists d x) lm in
        ap length (sym (bases_at meshes (owner_at b.mesh o meshes lists d x) m.0 lm m.1) ∙ ap (λ (z : RankMesh). z.bases.items) m.1)
        ∙ (are.ranks (owner_at b.mesh o meshes lists d x) m.0 rank_of).bases.count

    pub has_place : HasPlace b.mesh o meshes lists d x
    has_place =
        let t = (declared d ld).set in
        let dist = has_lists.planned.distributed in
        record {
          dat = ld;
          set = omega (arith, dist.are_owners.sets, t);
          element = omega (arith, dist.are_owners.lengths (dat_set b.mesh d) t, lx);
          rank = omega (arith, dist.are_meshes.count, rank_of);
          list = omega (arith, has_lists.lists.count, t);
          local = omega (arith, (at_owners (dat_set b.mesh d) t).count, lx);
          base = omega (arith, bases_count, ld);
          inside = stand.inside d (slice_index (owners_locals lists (dat_set b.mesh d)) x) ld local_of.0;
        }

    pub cells_are : cells_from (cell_at meshes b.mesh (owner_at b.mesh o meshes lists d x)) (place_at_owner b.mesh o meshes lists d x) (dat_dim b.mesh d)
        ≡ cells_in b (Element d x)
    cells_are = one_element b d (slice_index (bases_of meshes (owner_at b.mesh o meshes lists d x)) d)
        (originals meshes (owner_at b.mesh o meshes lists d x) (dat_set b.mesh d)) (cell_at meshes b.mesh (owner_at b.mesh o meshes lists d x))
        (λ k i lk li. stand.values d k i ld lk li) (slice_index (owners_locals lists (dat_set b.mesh d)) x) x local_of

    pub owned_one : OwnedBy (setup_of b o meshes p) (layout_of b o meshes p) (tables_of b p) (owners_span b.mesh o meshes lists d x ∷ [])
    owned_one = (
      rank_of,
      has_place.inside,
      (λ j lj. ap (setup.owner_of (setup_of b o meshes p)) (value_at j lj) ∙ cond-true _ _ _ (lt-ltb x (set_size b.mesh (dat_set b.mesh d)) lx)),
      tt,
    )

  first_cell : (d x : ℕ) (ld : d < dat_count b.mesh) (lx : x < set_size b.mesh (dat_set b.mesh d))
      → cell_at meshes b.mesh (owner_at b.mesh o meshes lists d x) (place_at_owner b.mesh o meshes lists d x) ≡ record { dat = d; element = x; component = 0 }
  first_cell d x ld lx =
      ap (cell_at meshes b.mesh (owner_at b.mesh o meshes lists d x))
      (let f : place_at_owner b.mesh o meshes lists d x ≡ place_at_owner b.mesh o meshes lists d x + 0 = omega arith in f)
      ∙ value_at d x ld lx 0 (declared d ld).some

  -- ---- an element's windows

  abbrev span : Reached → Owned
  span (Element d x) = owners_span b.mesh o meshes lists d x
  span (Whole v) = no_owned

  -- it is an element of a dat of the mesh
  record IsThere (q : Reached) : Type 0 where
    dat : ℕ
    element : ℕ
    is : q ≡ Element dat element
    there : dat < dat_count b.mesh
    inside : element < set_size b.mesh (dat_set b.mesh dat)

  apart : (q z : Reached) → IsThere q → IsThere z → begins_with (span q) (span z) ≡ true → q ≡ z
  apart q z i j same =
      let both = and_parts _ _ (ap₂ (λ x y. begins_with (span x) (span y)) (sym i.is) (sym j.is) ∙ same) in
      let ranks = eqb-true (owner_at b.mesh o meshes lists i.dat i.element) (owner_at b.mesh o meshes lists j.dat j.element) both.0 in
      let ats = eqb-true (place_at_owner b.mesh o meshes lists i.dat i.element) (place_at_owner b.mesh o meshes lists j.dat j.element) both.1 in
      let cells =
      sym (first_cell i.dat i.element i.there i.inside) ∙ ap₂ (cell_at meshes b.mesh) ranks ats ∙ first_cell j.dat j.element j.there j.inside in
      i.is ∙ ap (λ (c : DatCell). Element c.dat c.element) cells ∙ sym j.is

  module _ (maps : (m : ℕ) → m < map_count b.mesh → IsMapAt b.mesh m) (site : SiteValue) (fit : SiteFits b site) (e : ℕ)
      (le : e < set_size b.mesh site.set) where
    element_inside : (d : ℕ) (v : _) → ViaFits b site.set d v → element_by b v e < set_size b.mesh (dat_set b.mesh d)
    element_inside d None fit = subst (λ s. e < set_size b.mesh s) (sym fit) le
    element_inside d (Some v) fit =
        subst (λ s. target b.mesh v.map e v.index < set_size b.mesh s) fit.2
        ((maps v.map fit.0).within e v.index (subst (λ s. e < set_size b.mesh s) (sym fit.1) le) fit.3)

    via_there : (d : ℕ) (v : _) → ViaFits b site.set d v → ViaThere b e v
    via_there d None fit = tt
    via_there d (Some v) fit = (fit.0, subst (λ s. e < set_size b.mesh s) (sym fit.1) le, fit.3)

    placed : (y : Arg) → ArgFits b site.set y → ArgPlaced b o meshes lists e y
    placed (Global v a) fit = tt
    placed (Dat d v a) fit = (via_there d v fit.2, has_place d (element_by b v e) fit.0 (element_inside d v fit.2))

    all_there : (xs : List Arg) → All (ArgFits b site.set) xs → (q : Reached) → has (map (reached b e) (on_dats xs)) q ≡ true → IsThere q
    all_there [] fits q t = absurd (false≢true t)
    all_there (Global v a ∷ xs) fits q t = all_there xs (λ i d lt. fits (suc i) d (omega arith)) q t
    all_there (Dat d v a ∷ xs) fits q t = ⊎_elim
        (λ (s : is_same (reached b e (Dat d v a)) q ≡ true). record {
          dat = d;
          element = element_by b v e;
          is = sym (same_true (reached b e (Dat d v a)) q s);
          there = (fits 0 (Dat d v a) (omega arith)).0;
          inside = element_inside d v (fits 0 (Dat d v a) (omega arith)).2;
        })
        (λ s. all_there xs (λ i z lt. fits (suc i) z (omega arith)) q s)
        (or_cases (is_same (reached b e (Dat d v a)) q) (has (map (reached b e) (on_dats xs)) q) t)

    arg_is : (y : Arg) → is_dat y ≡ true → owned_by b o meshes lists e y ≡ span (reached b e y)
    arg_is (Global v a) t = absurd (false≢true t)
    arg_is (Dat d v a) t = refl

    there_of : (q : Reached) → has (different (map (reached b e) (on_dats site.args))) q ≡ true → IsThere q
    there_of q t = all_there site.args fit.args q (has_of (map (reached b e) (on_dats site.args)) q t)

    spans_are : owned_after (owned_by b o meshes lists e) site.args [] ≡ map span (different (map (reached b e) (on_dats site.args)))
    spans_are = all_owned span (reached b e) (owned_by b o meshes lists e) site.args []
        (λ q z t s same. apart q z (all_there site.args fit.args q t) (all_there site.args fit.args z s) same) arg_is

    reached_is : (q : Reached) (i : IsThere q) → cells_from (cell_at meshes b.mesh (span q).rank) (span q).at (span q).dim ≡ cells_in b q
    reached_is q i =
        ap (λ z. cells_from (cell_at meshes b.mesh (span z).rank) (span z).at (span z).dim) i.is
        ∙ cells_are i.dat i.element i.there i.inside ∙ sym (ap (cells_in b) i.is)

    dat_cells : owned_cells (cell_at meshes b.mesh) (owned_after (owned_by b o meshes lists e) site.args [])
        ≡ flat_map (cells_in b) (different (map (reached b e) (on_dats site.args)))
    dat_cells =
        ap (owned_cells (cell_at meshes b.mesh)) spans_are
        ∙ reached_cells span b (cell_at meshes b.mesh) (different (map (reached b e) (on_dats site.args))) (λ q t. reached_is q (there_of q t))

    all_placed : All (ArgPlaced b o meshes lists e) site.args
    all_placed i d lt = placed (get_or site.args i d) (fit.args i d lt)

    dats_owned : OwnedBy (setup_of b o meshes p) (layout_of b o meshes p) (tables_of b p) (owned_after (owned_by b o meshes lists e) site.args [])
    dats_owned = subst (OwnedBy (setup_of b o meshes p) (layout_of b o meshes p) (tables_of b p)) (sym spans_are)
        (reached_owned span (setup_of b o meshes p) (layout_of b o meshes p) (tables_of b p) (different (map (reached b e) (on_dats site.args)))
        (λ q t. let i = there_of q t in
        subst (λ z. OwnedBy (setup_of b o meshes p) (layout_of b o meshes p) (tables_of b p) (span z ∷ [])) (sym i.is) (owned_one i.dat i.element i.there i.inside)))

-- ---- the variables behind them

indices_cells : (variable_at : ℕ → VarCell) (scalars : List Scalar) → index_cells variable_at (map index scalars) ≡ scalar_cells variable_at scalars
indices_cells variable_at [] = refl
indices_cells variable_at (x ∷ xs) = ap (λ z. Variable (variable_at (index x)) ∷ z) (indices_cells variable_at xs)

indices_inside : (b : BoundValue) (o : Owners) (meshes : List RankMesh) (p : PlanValue) (s : ℕ) (scalars : List Scalar) → EachIsScalar b s scalars
    → InVariables (setup_of b o meshes p) (layout_of b o meshes p) (tables_of b p) (map index scalars)
indices_inside b o meshes p s [] each = tt
indices_inside b o meshes p s (Value at ∷ xs) each = (each.0.0, indices_inside b o meshes p s xs each.1)
indices_inside b o meshes p s (Amount at slot how ∷ xs) each = (each.0.0, indices_inside b o meshes p s xs each.1)

-- ---- the law

loop_from : (b : BoundValue) (k : ℕ) → kind_of (item_at b k) ≡ Ordered → is_loop (kind_of (item_at b k)) ≡ true
loop_from b k kind = ap is_loop kind

pub owned_stand : ((g : MeshValue) → IsMesh g → (m : ℕ) → m < map_count g → IsMapAt g m)
    → ((g : MeshValue) → IsMesh g → (d : ℕ) → d < dat_count g → IsDatAt g d)
    → ElementsStand → LoopsAreThere → DatsComeFirst → FramesHaveCellsOnce → FramesFit → OwnedStand
owned_stand maps dats standing loops first once fit b o n meshes p h lists has_lists k e kind le =
    let fits = has_lists.planned.fits in
    let declared = dats b.mesh fits.mesh in
    let lead = maps b.mesh fits.mesh in
    let s = loop_of (item_at b k) in
    let ls : s < length b.sites = loops b k fits (loop_from b k kind) in
    let site = site_of b k in
    let site_fit : SiteFits b site = fits.sites s no_site ls in
    let spans = owned_after (owned_by b o meshes lists e) site.args [] in
    record {
      loop = ls;
      placed = all_placed b o n meshes p h lists has_lists declared standing lead site site_fit e le;
      are = λ scalars are.
          let cells : frame_cells b site.args e ≡ owned_cells (cell_at meshes b.mesh) spans ++ index_cells (variable_at b) (map index scalars) =
          first b site.args e
          ∙ ap₂ (λ x y. x ++ y) (sym (dat_cells b o n meshes p h lists has_lists declared standing lead site site_fit e le))
          (are.cells e ∙ sym (indices_cells (variable_at b) scalars)) in
          let count = ap length cells ∙ all_length (cell_at meshes b.mesh) (variable_at b) spans (map index scalars) in
          let room = fit b p s e ls in
          record {
            cells = cells;
            once = once b site e;
            owned = dats_owned b o n meshes p h lists has_lists declared standing lead site site_fit e le;
            variables = indices_inside b o meshes p s scalars are.each;
            fits = omega (arith, count, room);
          };
    }
