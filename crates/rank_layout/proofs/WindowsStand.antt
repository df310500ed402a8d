-- The windows on dats of an element stand where its local targets do.
use Rattle.std.proofs.Common.{◌≡◌, ◌<◌, ◌≤◌, ◌+◌, ◌*◌, ℕ, suc, Bool, true, false, List, [], ◌∷◌, ◌++◌, All, map, length, get_or, Some, None, refl, sym, ap, ◌∙◌, subst, ⊎_elim, arith}
use Rattle.std.specs.Prelude.{slice_index}
use Rattle.std.proofs.Math.Nat.{mul-le-mul_left}
use Rattle.std.proofs.lemmas.Bool.{false≢true, or_cases}
use Rattle.lemmas.specs.Below.{row}
use Rattle.mesh_decl.specs.declared.owners.Owners.{Owners}
use Rattle.mesh_decl.specs.declared.owners.Perms.{Perms}
use Rattle.mesh_decl.specs.Mesh.{MeshValue, IsMesh, IsDatAt, map_count, dat_count, dat_set, dat_dim, map_from, map_dim, target}
use Rattle.local_mesh.specs.declared.types.RankMesh.{RankMesh}
use Rattle.local_mesh.specs.LocalMesh.{executed_in, AreLocalTargets, IsRankMesh}
use Rattle.local_mesh.specs.Numbers.{RankMeshesAreClosed}
use Rattle.local_mesh.specs.Lists.{sets_of, IsLocal}
use Rattle.schedule_model.specs.Cells.{Data, DatCell}
use Rattle.bound_program.specs.declared.sites.Arg.{Arg}
use Rattle.bound_program.specs.declared.sites.Arg.TheVariants.{Dat, Global}
use Rattle.bound_program.specs.Values.{BoundValue, SiteValue, no_site}
use Rattle.bound_program.specs.Fits.{ArgFits, ViaFits, SiteFits, site_at}
use Rattle.run_model.specs.Windows.{Reached, Element, Whole, is_same, reached, element_by, different, cell_in, cells_in}
use Rattle.loop_plan.specs.Values.{PlanValue}
use Rattle.bound_plan.specs.Laws.{Planned}
use Rattle.bound_plan.specs.Places.{originals, original_at, local_at, bases_of, cells_of, cell_at}
use Rattle.bound_plan.specs.Machine.{Stand, ElementsStand}
use Rattle.bound_plan.specs.Windows.{on_dats}
use Rattle.rank_state.specs.declared.spans.Span.{Span}
use Rattle.rank_state.specs.Spans.{Within}
use Rattle.rank_state.specs.Windows.{cells_from, span_cells, Marked}
use Rattle.rank_layout.specs.Seen.{has}
use Rattle.rank_layout.specs.Placed.{is_dat}
use Rattle.rank_layout.specs.DatWindows.{local_by, begins_at, with_span, spans_after, ViaHere, ArgHere}
use Rattle.rank_layout.specs.WindowLaws.{arg_span, AreDatWindows, IsPlaceOf, DatWindowsStand, ArgsAreHere, ArgsHaveCells}
use Rattle.run_model.proofs.Public.{same_true}
use Rattle.rank_layout.proofs.SeenSoFar.{has_of}
use Rattle.rank_layout.proofs.MessageCells.{one_element}
use Rattle.rank_layout.proofs.MessagesStand.{bases_at}
use Rattle.rank_layout.proofs.PushedWindows.{pick}
use Rattle.rank_layout.proofs.RankMeshes.{sets_at, cells_at, rank_there, rank_mesh, closed_at}
use Rattle.rank_layout.proofs.RankWindows.{all_spans, reached_cells, reached_within}

-- ---- marks

marked_append : (taken : ℕ → Bool) (xs : List Span) (s : Span) → Marked taken xs → ((j : ℕ) → j < s.dim → taken (s.at + j) ≡ s.writes)
    → Marked taken (xs ++ s ∷ [])
marked_append taken [] s h g = (g, tt)
marked_append taken (x ∷ xs) s h g = (h.0, marked_append taken xs s h.1 g)

marked_with : (taken : ℕ → Bool) (xs : List Span) (s : Span) → Marked taken xs → ((j : ℕ) → j < s.dim → taken (s.at + j) ≡ s.writes)
    → Marked taken (with_span s xs)
marked_with taken xs s h g = pick (Marked taken) (begins_at s.at xs) xs (xs ++ s ∷ []) h (marked_append taken xs s h g)

module _ (b : BoundValue) (o : Owners) (meshes : List RankMesh) (r x : ℕ) (m : RankMesh) (writes : ℕ → Bool)
    (declared : (d : ℕ) → d < dat_count b.mesh → IsDatAt b.mesh d)
    (stand : Stand b o meshes r)
    (bases : m.bases.items ≡ bases_of meshes r)
    (targets : (a : ℕ) → a < map_count b.mesh → AreLocalTargets b.mesh a (sets_of meshes r) (row m.maps.items a))
    (site : SiteValue) (fit : SiteFits b site) (lx : x < executed_in (sets_of meshes r) site.set)
    (held : executed_in (sets_of meshes r) site.set ≤ length (originals meshes r site.set)) where
  abbrev set : ℕ
  set = site.set

  abbrev e : ℕ
  e = original_at meshes r set x

  abbrev span : Reached → Span
  span (Element d y) =
      record { at = slice_index (bases_of meshes r) d + local_at meshes r (dat_set b.mesh d) y * dat_dim b.mesh d; dim = dat_dim b.mesh d; writes = writes d }
  span (Whole v) = record { at = 0; dim = 0; writes = false }

  -- the rank has the element of the dat
  record IsHere (q : Reached) : Type 0 where
    dat : ℕ
    element : ℕ
    place : ℕ
    is : q ≡ Element dat element
    there : dat < dat_count b.mesh
    local : IsLocal (originals meshes r (dat_set b.mesh dat)) element place

  -- an argument's local number is that of what it reaches
  local_is : (d : ℕ) (v : _) → ViaFits b set d v → IsLocal (originals meshes r (dat_set b.mesh d)) (element_by b v e) (local_by b.mesh m x v)
  local_is d None fit =
      subst (λ s. IsLocal (originals meshes r s) e x) (sym fit) ((let lt : x < length (originals meshes r set) = omega (arith, lx, held) in lt), refl)
  local_is d (Some v) fit =
      let t = targets v.map fit.0 in
      let run : x < executed_in (sets_of meshes r) (map_from b.mesh v.map) = subst (λ s. x < executed_in (sets_of meshes r) s) (sym fit.1) lx in
      subst (λ s. IsLocal (originals meshes r s) (target b.mesh v.map e v.index) (local_by b.mesh m x (Some v))) fit.2 (
        t.within x v.index run fit.3,
        t.targets x v.index run fit.3 ∙ ap (λ s. target b.mesh v.map (get_or (originals meshes r s) x 0) v.index) fit.1,
      )

  here : (d : ℕ) (v : _) (a : _) → ArgFits b set (Dat d v a) → IsHere (reached b e (Dat d v a))
  here d v a fit = record {
    dat = d;
    element = element_by b v e;
    place = local_by b.mesh m x v;
    is = refl;
    there = fit.0;
    local = local_is d v fit.2;
  }

  all_here : (xs : List Arg) → All (ArgFits b set) xs → (q : Reached) → has (map (reached b e) (on_dats xs)) q ≡ true → IsHere q
  all_here [] fits q h = absurd (false≢true h)
  all_here (Global v a ∷ xs) fits q h = all_here xs (λ i d lt. fits (suc i) d (omega arith)) q h
  all_here (Dat d v a ∷ xs) fits q h = ⊎_elim
      (λ (t : is_same (reached b e (Dat d v a)) q ≡ true). subst IsHere (same_true (reached b e (Dat d v a)) q t) (here d v a (fits 0 (Dat d v a) (omega arith))))
      (λ t. all_here xs (λ i z lt. fits (suc i) z (omega arith)) q t)
      (or_cases (is_same (reached b e (Dat d v a)) q) (has (map (reached b e) (on_dats xs)) q) h)

  -- its one local number
  number_is : (d y k : ℕ) → d < dat_count b.mesh → IsLocal (originals meshes r (dat_set b.mesh d)) y k → local_at meshes r (dat_set b.mesh d) y ≡ k
  number_is d y k ld is = ap (local_at meshes r (dat_set b.mesh d)) (sym is.1) ∙ stand.one (dat_set b.mesh d) k (declared d ld).set is.0

  span_is : (d y k : ℕ) → d < dat_count b.mesh → IsLocal (originals meshes r (dat_set b.mesh d)) y k
      → (span (Element d y)).at ≡ slice_index (bases_of meshes r) d + k * dat_dim b.mesh d
  span_is d y k ld is = ap (λ z. slice_index (bases_of meshes r) d + z * dat_dim b.mesh d) (number_is d y k ld is)

  -- the first cell of a span is that of its element
  first_cell : (q : Reached) (h : IsHere q) → cell_at meshes b.mesh r (span q).at ≡ record { dat = h.dat; element = h.element; component = 0 }
  first_cell q h =
      ap (λ z. cell_at meshes b.mesh r (span z).at) h.is
      ∙ ap (cell_at meshes b.mesh r)
      (span_is h.dat h.element h.place h.there h.local
      ∙ (let f : slice_index (bases_of meshes r) h.dat + h.place * dat_dim b.mesh h.dat ≡ slice_index (bases_of meshes r) h.dat + h.place * dat_dim b.mesh h.dat + 0 = omega arith in f))
      ∙ stand.values h.dat h.place 0 h.there h.local.0 (declared h.dat h.there).some
      ∙ ap (λ y. record { dat = h.dat; element = y; component = 0 }) h.local.1

  apart : (q z : Reached) → IsHere q → IsHere z → (span q).at ≡ (span z).at → q ≡ z
  apart q z h g same =
      let cells = sym (first_cell q h) ∙ ap (cell_at meshes b.mesh r) same ∙ first_cell z g in
      h.is ∙ ap (λ (c : DatCell). Element c.dat c.element) cells ∙ sym g.is

  cells_are : (q : Reached) → IsHere q → cells_from (cell_at meshes b.mesh r) (span q).at (span q).dim ≡ cells_in b q
  cells_are q h =
      ap (λ z. cells_from (cell_at meshes b.mesh r) (span z).at (span z).dim) h.is
      ∙ ap (λ z. cells_from (cell_at meshes b.mesh r) z (dat_dim b.mesh h.dat)) (span_is h.dat h.element h.place h.there h.local)
      ∙ one_element b h.dat (slice_index (bases_of meshes r) h.dat) (originals meshes r (dat_set b.mesh h.dat)) (cell_at meshes b.mesh r)
      (λ k i lk li. stand.values h.dat k i h.there lk li) h.place h.element h.local
      ∙ sym (ap (cells_in b) h.is)

  is_within : (q : Reached) → IsHere q → (span q).at + (span q).dim ≤ cells_of meshes r
  is_within q h =
      let at = span_is h.dat h.element h.place h.there h.local in
      let inside = stand.inside h.dat h.place h.there h.local.0 in
      let fits : (span (Element h.dat h.element)).at + dat_dim b.mesh h.dat ≤ cells_of meshes r = omega (arith, at, inside) in
      subst (λ z. (span z).at + (span z).dim ≤ cells_of meshes r) (sym h.is) fits

  arg_is : (y : Arg) → ArgFits b set y → is_dat y ≡ true → arg_span b.mesh m x writes y ≡ span (reached b e y)
  arg_is (Global v a) fit h = absurd (false≢true h)
  arg_is (Dat d v a) fit h =
      ap (λ z. record { at = slice_index z d + local_by b.mesh m x v * dat_dim b.mesh d; dim = dat_dim b.mesh d; writes = writes d }) bases
      ∙ ap (λ z. record { at = z; dim = dat_dim b.mesh d; writes = writes d })
      (sym (span_is d (element_by b v e) (local_by b.mesh m x v) fit.0 (local_is d v fit.2)))

  -- what the mark of an argument's span says of its cells
  span_marked : (d : ℕ) (v : _) (a : _) → ArgFits b set (Dat d v a) → (j : ℕ) → j < dat_dim b.mesh d
      → writes (cell_at meshes b.mesh r ((arg_span b.mesh m x writes (Dat d v a)).at + j)).dat ≡ writes d
  span_marked d v a fit j lj =
      let local = local_is d v fit.2 in
      ap (λ z. writes (cell_at meshes b.mesh r (slice_index z d + local_by b.mesh m x v * dat_dim b.mesh d + j)).dat) bases
      ∙ ap (λ (c : DatCell). writes c.dat) (stand.values d (local_by b.mesh m x v) j fit.0 local.0 lj)

  -- the cells of an argument's span are those that the element reaches by it
  span_cell : (y : Arg) → ArgFits b set y → (j : ℕ) → j < (arg_span b.mesh m x writes y).dim
      → Data (cell_at meshes b.mesh r ((arg_span b.mesh m x writes y).at + j)) ≡ cell_in (reached b e y) j
  span_cell (Global v a) fit j lj = absurd (omega arith)
  span_cell (Dat d v a) fit j lj =
      let local = local_is d v fit.2 in
      ap (λ z. Data (cell_at meshes b.mesh r (slice_index z d + local_by b.mesh m x v * dat_dim b.mesh d + j))) bases
      ∙ ap Data (stand.values d (local_by b.mesh m x v) j fit.0 local.0 lj)
      ∙ ap (λ y. Data (record { dat = d; element = y; component = j })) local.1

  pub all_cells : All (λ y. (j : ℕ) → j < (arg_span b.mesh m x writes y).dim
      → Data (cell_at meshes b.mesh r ((arg_span b.mesh m x writes y).at + j)) ≡ cell_in (reached b e y) j) site.args
  all_cells i y lt = span_cell (get_or site.args i y) (fit.args i y lt)

  all_marked : (xs : List Arg) → All (ArgFits b set) xs → (seen : List Span) → Marked (λ i. writes (cell_at meshes b.mesh r i).dat) seen
      → Marked (λ i. writes (cell_at meshes b.mesh r i).dat) (spans_after (arg_span b.mesh m x writes) xs seen)
  all_marked [] fits seen h = h
  all_marked (Global v a ∷ xs) fits seen h = all_marked xs (λ i z lt. fits (suc i) z (omega arith)) seen h
  all_marked (Dat d v a ∷ xs) fits seen h =
      all_marked xs (λ i z lt. fits (suc i) z (omega arith)) (with_span (arg_span b.mesh m x writes (Dat d v a)) seen)
      (marked_with (λ i. writes (cell_at meshes b.mesh r i).dat) seen (arg_span b.mesh m x writes (Dat d v a)) h
      (span_marked d v a (fits 0 (Dat d v a) (omega arith))))

  pub dat_windows : AreDatWindows b meshes site r x writes (spans_after (arg_span b.mesh m x writes) site.args [])
  dat_windows =
      let reach = reached b e in
      let spans = all_spans span reach (arg_span b.mesh m x writes) site.args []
      (λ q z h g at. apart q z (all_here site.args fit.args q h) (all_here site.args fit.args z g) at)
      (λ i y lt. arg_is (get_or site.args i y) (fit.args i y lt)) in
      record {
        cells = sym (ap (span_cells (cell_at meshes b.mesh r)) spans
            ∙ reached_cells span b (cell_at meshes b.mesh r) (different (map reach (on_dats site.args)))
            (λ q h. cells_are q (all_here site.args fit.args q (has_of (map reach (on_dats site.args)) q h))));
        within = subst (Within (cells_of meshes r)) (sym spans)
            (reached_within span (cells_of meshes r) (different (map reach (on_dats site.args)))
            (λ q h. is_within q (all_here site.args fit.args q (has_of (map reach (on_dats site.args)) q h))));
        marked = all_marked site.args fit.args [] tt;
      }

  module _ (base_count : length m.bases.items ≡ dat_count b.mesh) (maps_count : length m.maps.items ≡ map_count b.mesh)
      (cells : m.cells ≡ cells_of meshes r) where
    via_here : (d : ℕ) (v : _) → ViaFits b set d v → ViaHere b.mesh m x v
    via_here d None fit = tt
    via_here d (Some v) fit =
        let t = targets v.map fit.0 in
        let run : suc x ≤ executed_in (sets_of meshes r) (map_from b.mesh v.map) = subst (λ s. suc x ≤ executed_in (sets_of meshes r) s) (sym fit.1) (omega (arith, lx)) in
        let rows = mul-le-mul_left (map_dim b.mesh v.map) run in
        (fit.0, omega (arith, maps_count, fit.0), omega (arith, rows, t.count, fit.3))

    arg_here : (y : Arg) → ArgFits b set y → ArgHere b.mesh m x y
    arg_here (Global v a) fit = tt
    arg_here (Dat d v a) fit =
        let local = local_is d v fit.2 in
        let inside = stand.inside d (local_by b.mesh m x v) fit.0 local.0 in
        let base : slice_index m.bases.items d ≡ slice_index (bases_of meshes r) d = ap (λ z. slice_index z d) bases in
        (fit.0, omega (arith, base_count, fit.0), via_here d v fit.2, omega (arith, inside, base, cells))

    pub args_here : All (ArgHere b.mesh m x) site.args
    args_here i y lt = arg_here (get_or site.args i y) (fit.args i y lt)

-- ---- the law

module _ (dats : (g : MeshValue) → IsMesh g → (d : ℕ) → d < dat_count g → IsDatAt g d)
    (standing : ElementsStand) (closed : RankMeshesAreClosed)
    (b : BoundValue) (o : Owners) (n : Perms) (meshes : List RankMesh) (p : PlanValue) (pl : Planned b o n meshes p)
    (s r x : ℕ) (m : RankMesh) (here : IsPlaceOf b o meshes s r x m) where
  there : r < length meshes
  there = rank_there b o n meshes p pl r here.rank

  mesh : IsRankMesh b.mesh o n r m
  mesh = rank_mesh b o n meshes p pl r here.rank m here.part

  targets_at : (a : ℕ) → a < map_count b.mesh → AreLocalTargets b.mesh a (sets_of meshes r) (row m.maps.items a)
  targets_at a la = subst (λ z. AreLocalTargets b.mesh a z (row m.maps.items a)) (sets_at meshes r m there here.part) (mesh.maps a la)

  fits : SiteFits b (site_at b s)
  fits = pl.fits.sites s no_site here.loop

  held_at : executed_in (sets_of meshes r) (site_at b s).set ≤ length (originals meshes r (site_at b s).set)
  held_at = (closed_at b o n meshes p pl r here.rank closed).executed (site_at b s).set fits.set

  pub windows_at : (writes : ℕ → Bool) → AreDatWindows b meshes (site_at b s) r x writes (spans_after (arg_span b.mesh m x writes) (site_at b s).args [])
  windows_at writes = dat_windows b o meshes r x m writes (dats b.mesh pl.fits.mesh) (standing b o n meshes p pl r here.rank)
      (bases_at meshes r m there here.part) targets_at (site_at b s) fits here.place held_at

  pub cells_here : (writes : ℕ → Bool) → All (λ y. (j : ℕ) → j < (arg_span b.mesh m x writes y).dim
      → Data (cell_at meshes b.mesh r ((arg_span b.mesh m x writes y).at + j)) ≡ cell_in (reached b (original_at meshes r (site_at b s).set x) y) j) (site_at b s).args
  cells_here writes = all_cells b o meshes r x m writes (dats b.mesh pl.fits.mesh) (standing b o n meshes p pl r here.rank)
      (bases_at meshes r m there here.part) targets_at (site_at b s) fits here.place held_at

  pub args_at : All (ArgHere b.mesh m x) (site_at b s).args
  args_at = args_here b o meshes r x m (λ d. false) (dats b.mesh pl.fits.mesh) (standing b o n meshes p pl r here.rank)
      (bases_at meshes r m there here.part) targets_at (site_at b s) fits here.place held_at
      mesh.bases.count mesh.maps_count (cells_at meshes r m there here.part)

pub windows_stand : ((g : MeshValue) → IsMesh g → (d : ℕ) → d < dat_count g → IsDatAt g d)
    → ElementsStand → RankMeshesAreClosed → DatWindowsStand
windows_stand dats standing closed b o n meshes p pl s r x m writes here = windows_at dats standing closed b o n meshes p pl s r x m here writes

pub args_stand : ((g : MeshValue) → IsMesh g → (d : ℕ) → d < dat_count g → IsDatAt g d)
    → ElementsStand → RankMeshesAreClosed → ArgsAreHere
args_stand dats standing closed b o n meshes p pl s r x m here = args_at dats standing closed b o n meshes p pl s r x m here

pub args_have_cells : ((g : MeshValue) → IsMesh g → (d : ℕ) → d < dat_count g → IsDatAt g d)
    → ElementsStand → RankMeshesAreClosed → ArgsHaveCells
args_have_cells dats standing closed b o n meshes p pl s r x m writes here = cells_here dats standing closed b o n meshes p pl s r x m here writes
