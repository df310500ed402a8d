-- The cells of frames.
use Rattle.std.proofs.Common.{◌≡◌, ◌<◌, ◌+◌, ℕ, Bool, true, ◌⊎◌, inl, inr, List, length, get_or, Option, Some, None, sym, ap, subst, ◌∙◌, ⊎_elim}
use Rattle.std.specs.Prelude.{◌&&◌, ◌||◌, ◌==◌, nat_lt}
use Rattle.std.proofs.lemmas.Bool.{and_parts, and_from, or_cases, cond-true, lt-ltb, eqb-true}
use Rattle.kernel_model.specs.Obeys.{Mode, mode_at}
use Rattle.kernel_model.specs.Meaning.{target_at}
use Rattle.mesh_decl.specs.declared.owners.Owners.{Owners}
use Rattle.mesh_decl.specs.declared.owners.Perms.{Perms}
use Rattle.mesh_decl.specs.declared.access.Via.{Via}
use Rattle.mesh_decl.specs.Mesh.{set_size, dat_count, dat_set, dat_dim, map_from, target}
use Rattle.mesh_decl.specs.Owners.{owner_of}
use Rattle.local_mesh.specs.Halo.{owns, imports_execute, imports_nonexecute, has_copy}
use Rattle.local_mesh.specs.declared.types.RankMesh.{RankMesh}
use Rattle.schedule_model.specs.Cells.{Cell, Data, DatCell}
use Rattle.schedule_model.specs.Program.{Free}
use Rattle.schedule_model.specs.Setup as setup
use Rattle.schedule_model.specs.Layout.{among, is_cell, Exists, Has}
use Rattle.run_model.specs.OnWindows.{no_cell, OnWindows}
use Rattle.bound_program.specs.declared.sites.Arg.{Arg}
use Rattle.bound_program.specs.declared.sites.Arg.TheVariants.{Dat, Global}
use Rattle.bound_program.specs.Values.{BoundValue, SiteValue}
use Rattle.bound_program.specs.Fits.{Fits, SiteFits, ArgFits, ViaFits}
use Rattle.run_model.specs.Windows.{element_by, reached, cell_in}
use Rattle.run_model.specs.Programs.{kind_of, item_at}
use Rattle.run_model.specs.Arguments.{no_arg, arg_at, arg_width, modes_of, cell_of}
use Rattle.run_model.specs.Laws.{site_of, WindowsAreReached}
use Rattle.loop_plan.specs.Values.{PlanValue}
use Rattle.loop_plan.specs.Needs.{item_scatters}
use Rattle.bound_plan.specs.Windows.{frame_cells, frame_windows}
use Rattle.bound_plan.specs.Setups.{setup_of}
use Rattle.bound_plan.specs.Layouts.{layout_of}
use Rattle.bound_plan.specs.Laws.{Planned}
use Rattle.bound_plan.specs.Given.{NumberLaws, ItemLaws, HaloLaws}
use Rattle.bound_plan.proofs.Halos.{owner_is, executing}
use Rattle.bound_plan.proofs.Sides.{executed_copy}
use Rattle.run_model.proofs.Public.{mode_is, is_argument}
use Rattle.bound_plan.proofs.Framed.{on_frames}
use Rattle.bound_plan.proofs.Among.{among_at, at_among}
use Rattle.bound_plan.proofs.Indexed.{indexed}

module _ (windows : WindowsAreReached) (b : BoundValue) (site : SiteValue) (e : ℕ) where
  frames : OnWindows (modes_of b site) (cell_of b site e) (frame_cells b site.args e) (frame_windows b site.args e)
  frames = on_frames b windows site e

  -- each component of an argument is among them
  pub among_arg : (a i : ℕ) → i < (mode_at (modes_of b site) a).dim → among (frame_cells b site.args e) (cell_of b site e a i) ≡ true
  among_arg a i l = among_at (frame_cells b site.args e) ((target_at (frame_windows b site.args e) a).from + i) (cell_of b site e a i) (frames.inside a i l) (frames.are a i l)

  -- and they are such components
  pub arg_among : (c : Cell) → among (frame_cells b site.args e) c ≡ true → (a : ℕ) × (i : ℕ) × (i < (mode_at (modes_of b site) a).dim) × (cell_of b site e a i ≡ c)
  arg_among c h =
      let w = at_among (frame_cells b site.args e) c h in
      let u = frames.covered w.0 w.1 in
      (u.0, u.1, u.2, sym (frames.are u.0 u.1 u.2) ∙ ap (λ j. get_or (frame_cells b site.args e) j no_cell) u.3 ∙ w.2)

  -- as an argument with one of its components
  pub record Component (c : Cell) : Type 0 where
    pub number : ℕ
    pub there : number < length site.args
    pub index : ℕ
    pub below : index < arg_width b (arg_at site number)
    pub is : cell_in (reached b e (arg_at site number)) index ≡ c

  pub component : (c : Cell) → among (frame_cells b site.args e) c ≡ true → Component c
  component c h =
      let w = arg_among c h in
      let l = is_argument b site w.0 w.1 w.2 in
      record { number = w.0; there = l; index = w.1; below = subst (λ (m : Mode). w.1 < m.dim) (mode_is b site w.0 l) w.2; is = w.3 }

module _ (halos : HaloLaws) (b : BoundValue) (fits : Fits b) (set e : ℕ) (le : e < set_size b.mesh set) where
  -- what an argument reaches is an element
  pub element_there : (d : ℕ) (v : Option Via) → ViaFits b set d v → element_by b v e < set_size b.mesh (dat_set b.mesh d)
  element_there d None f = subst (λ z. e < set_size b.mesh z) (sym f) le
  element_there d (Some v) f =
      subst (λ z. target b.mesh v.map e v.index < set_size b.mesh z) f.2
      ((halos.maps b.mesh fits.mesh v.map f.0).within e v.index (subst (λ z. e < set_size b.mesh z) (sym f.1) le) f.3)

module _ (halos : HaloLaws) (b : BoundValue) (o : Owners) (meshes : List RankMesh) (p : PlanValue) (fits : Fits b) where
  -- a cell of an element of a dat
  pub dat_cell : (d x i : ℕ) → d < dat_count b.mesh → x < set_size b.mesh (dat_set b.mesh d) → i < dat_dim b.mesh d
      → is_cell (setup_of b o meshes p) (layout_of b o meshes p) (record { dat = d; element = x; component = i }) ≡ true
  dat_cell d x i ld lx li =
      and_from (nat_lt d (dat_count b.mesh)) (nat_lt x (set_size b.mesh (dat_set b.mesh d)) && nat_lt i (dat_dim b.mesh d)) (lt-ltb d (dat_count b.mesh) ld)
      (and_from (nat_lt x (set_size b.mesh (dat_set b.mesh d))) (nat_lt i (dat_dim b.mesh d)) (lt-ltb x (set_size b.mesh (dat_set b.mesh d)) lx) (lt-ltb i (dat_dim b.mesh d) li))

  pub arg_exists : (set e : ℕ) → e < set_size b.mesh set → (y : Arg) (i : ℕ) → ArgFits b set y → i < arg_width b y
      → Exists (setup_of b o meshes p) (layout_of b o meshes p) (cell_in (reached b e y) i)
  arg_exists set e le (Dat d v a) i f l = dat_cell d (element_by b v e) i f.0 (element_there halos b fits set e le d v f.2) l
  arg_exists set e le (Global v a) i f l = indexed b (record { variable = v; component = i }) f.0 l

  pub exist : (site : SiteValue) (e : ℕ) (c : Cell) → WindowsAreReached → SiteFits b site → e < set_size b.mesh site.set → among (frame_cells b site.args e) c ≡ true
      → Exists (setup_of b o meshes p) (layout_of b o meshes p) c
  exist site e c windows f le h =
      let w : Component windows b site e c = component windows b site e c h in
      subst (Exists (setup_of b o meshes p) (layout_of b o meshes p)) w.is
      (arg_exists site.set e le (arg_at site w.number) w.index (f.args w.number no_arg w.there) w.below)

  -- a rank has the cells of elements of which it has a copy
  pub has_cell : (r d x i : ℕ) → x < set_size b.mesh (dat_set b.mesh d) → has_copy b.mesh o (dat_set b.mesh d) x r ≡ true
      → Has (setup_of b o meshes p) (layout_of b o meshes p) r (record { dat = d; element = x; component = i })
  has_cell r d x i l h =
      let inside : nat_lt x (set_size b.mesh (dat_set b.mesh d)) ≡ true = lt-ltb x (set_size b.mesh (dat_set b.mesh d)) l in
      let other : Bool = imports_execute b.mesh o (dat_set b.mesh d) x r || imports_nonexecute b.mesh o (dat_set b.mesh d) x r in
      ⊎_elim
      (λ t. inl (cond-true (nat_lt x (set_size b.mesh (dat_set b.mesh d))) (owner_of o (dat_set b.mesh d) x) 0 inside ∙ owner_is o (dat_set b.mesh d) x r t))
      (λ t. inr (and_from (nat_lt x (set_size b.mesh (dat_set b.mesh d))) other inside t))
      (or_cases (owns o (dat_set b.mesh d) x r) other h)

module _ (numbers : NumberLaws) (items : ItemLaws) (halos : HaloLaws) (b : BoundValue) (o : Owners) (n : Perms) (meshes : List RankMesh)
    (p : PlanValue) (pl : Planned b o n meshes p) (k : ℕ) (free : kind_of (item_at b k) ≡ Free) (r : ℕ) (lr : r < o.ranks) where
  -- a rank has a copy of what an argument of an executed element reaches
  reached_copy : (e d : ℕ) (v : Option Via) → e < set_size b.mesh (site_of b k).set → setup.executes (setup_of b o meshes p) k r e ≡ true → ViaFits b (site_of b k).set d v
      → has_copy b.mesh o (dat_set b.mesh d) (element_by b v e) r ≡ true
  reached_copy e d None le ex f = subst (λ z. has_copy b.mesh o z e r ≡ true) (sym f) (executed_copy numbers items b o n meshes p pl k free r lr e ex)
  reached_copy e d (Some v) le ex f =
      subst (λ z. has_copy b.mesh o z (target b.mesh v.map e v.index) r ≡ true) f.2
      (halos.targets b.mesh o v.map e v.index r f.0 (subst (λ z. e < set_size b.mesh z) (sym f.1) le)
      (executing halos b.mesh pl.fits.mesh o r (map_from b.mesh v.map) e
      (subst (λ z. (owner_of o z e ≡ r) ⊎ (imports_execute b.mesh o z e r ≡ true)) (sym f.1) (⊎_elim
      (λ t. inl (eqb-true (owner_of o (site_of b k).set e) r t))
      (λ t. inr (and_parts (item_scatters b k) (imports_execute b.mesh o (site_of b k).set e r) t).1)
      (or_cases (owner_of o (site_of b k).set e == r) (item_scatters b k && imports_execute b.mesh o (site_of b k).set e r) ex))))
      f.3)

  arg_held : (e : ℕ) → e < set_size b.mesh (site_of b k).set → setup.executes (setup_of b o meshes p) k r e ≡ true
      → (y : Arg) (i : ℕ) (c : DatCell) → ArgFits b (site_of b k).set y → cell_in (reached b e y) i ≡ Data c
      → Has (setup_of b o meshes p) (layout_of b o meshes p) r c
  arg_held e le ex (Dat d v a) i c f q =
      let same : record { dat = d; element = element_by b v e; component = i } ≡ c = cc in
      subst (Has (setup_of b o meshes p) (layout_of b o meshes p) r) same
      (has_cell halos b o meshes p pl.fits r d (element_by b v e) i (element_there halos b pl.fits (site_of b k).set e le d v f.2) (reached_copy e d v le ex f.2))
  arg_held e le ex (Global v a) i c f q = let z : ⊥ = cc in absurd z

  pub held : (windows : WindowsAreReached) → SiteFits b (site_of b k) → (e : ℕ) (c : DatCell) → e < set_size b.mesh (site_of b k).set → setup.executes (setup_of b o meshes p) k r e ≡ true
      → among (frame_cells b (site_of b k).args e) (Data c) ≡ true
      → Has (setup_of b o meshes p) (layout_of b o meshes p) r c
  held windows f e c le ex h =
      let w : Component windows b (site_of b k) e (Data c) = component windows b (site_of b k) e (Data c) h in
      arg_held e le ex (arg_at (site_of b k) w.number) w.index c (f.args w.number no_arg w.there) w.is
