-- A loop on a rank whose tables are made runs in rows.
use Rattle.std.proofs.Common.{◌≡◌, ◌≢◌, ◌<◌, ◌≤◌, ◌+◌, ◌-◌, ◌*◌, ◌⊎◌, inl, inr, ℕ, true, List, map, length, get_or, Option, Some, None, refl, sym, ap, ap₂, ◌∙◌, subst, ⊎_elim, arith}
use Rattle.std.specs.Prelude.{slice_index}
use Rattle.std.proofs.lemmas.Bool.{cases_lt, cases_eq}
use Rattle.std.proofs.lemmas.List.{get_or-map, get_or_past, length-map}
use Rattle.op_num.specs.Access.{OpRead, OpReduce, access_of}
use Rattle.mesh_decl.specs.declared.access.Via.{Via}
use Rattle.mesh_decl.specs.Mesh.{dat_dim}
use Rattle.kernel_model.specs.declared.types.views.frame.Place.{Place}
use Rattle.kernel_model.specs.Framed.{target_of, no_place, PlacesIn}
use Rattle.kernel_model.specs.Meaning.{Target, target_at}
use Rattle.kernel_model.specs.Obeys.{Mode, mode_at, no_mode, KernelObeys}
use Rattle.kernel_model.specs.Independence.{access, dim}
use Rattle.schedule_model.specs.Cells.{Cell, Variable}
use Rattle.run_model.specs.OnWindows.{no_cell}
use Rattle.local_mesh.specs.declared.types.RankMesh.{RankMesh}
use Rattle.bound_program.specs.declared.sites.Arg.{Arg}
use Rattle.bound_program.specs.declared.sites.Arg.TheVariants.{Global}
use Rattle.bound_program.specs.Fits.{SiteFits, ArgFits, var_at}
use Rattle.bound_program.specs.Values.{BoundValue, SiteValue}
use Rattle.run_model.specs.Arguments.{no_arg, arg_width, access_by, mode_of, modes_of, var_width}
use Rattle.run_model.specs.Programs.{item_at, loop_of}
use Rattle.run_model.specs.Laws as the
use Rattle.run_model.proofs.Public.{is_argument}
use Rattle.bound_plan.specs.Laws.{FramesAreReached}
use Rattle.bound_plan.specs.Places.{original_at, cell_at}
use Rattle.bound_plan.specs.Variables.{variable_at}
use Rattle.rank_layout.specs.Made.{EachIsScalar}
use Rattle.kernel_runs.specs.declared.row_batches.rows.RowLoop.{RowLoop}
use Rattle.kernel_runs.specs.Ways.{local_in}
use Rattle.kernel_runs.specs.RowLoops.{AllowsScalar, scalar_in, width, column_access, OnDat, OnVariable, NeverMeet, ReduceApart, RunsInRows, IsModified, MergeAlike}
use Rattle.kernel_runs.specs.declared.row_batches.batch_tables.args.LocalArg.{LocalArg}
use Rattle.kernel_runs.specs.Alike.{arg_in}
use Rattle.kernel_runs.specs.Tables.{place_at, local_at, scalar_place}
use Rattle.rank_layout.specs.DatWindows.{local_by}
use Rattle.rank_layout.specs.StepLaws.{IsBegin, StepsStand}
use Rattle.rank_layout.specs.WindowLaws.{ArgsAreHere, ArgsHaveCells, ElementWindowsStand}
use Rattle.rank_program.specs.declared.program.DistributedProgram.{DistributedProgram}
use Rattle.rank_program.specs.declared.local_loops.LocalLoop.{LocalLoop}
use Rattle.rank_program.specs.Rooms.{most_ways, most_columns}
use Rattle.rank_program.specs.Batches.{BeginsAt, IsRowLoop}
use Rattle.rank_program.specs.Here.{scalars_in}
use Rattle.rank_program.specs.LocalArgs.{IsArg, place_in, places_in}
use Rattle.rank_program.specs.LocalLoops.{IsLocalLoop, VariablesStand}
use Rattle.rank_program.specs.Sound.{Sound, program_in, plan_in}
use Rattle.rank_program.proofs.HereParts.{windows_here, dat_spans}
use Rattle.rank_program.proofs.Behind.{one_scalar}
use Rattle.rank_program.proofs.RowScalars.{allows, alike, reducer}
use Rattle.rank_program.proofs.ArgPlaces.{target_is, put_at, global_local}
use Rattle.rank_program.proofs.RowWays.{IsOn, AreOn, AreTables}
use Rattle.rank_program.proofs.InRows.{Owner, owner, meets, apart, modifier, stored_direct, has_dim, is_whole, leads_from}
use Rattle.rank_program.proofs.ArgColumns.{stands, room}
use Rattle.rank_program.proofs.LoopArgs as its
use Rattle.rank_program.proofs.LoopVariables.{BehindAt}
use Rattle.rank_program.proofs.LoopVariables as stood

module _ (l : LocalLoop) (sound : Sound l.program.now) (is : IsLocalLoop l) (stand : StepsStand) (here : ArgsAreHere) (have : ArgsHaveCells)
    (windows : ElementWindowsStand) (frames : FramesAreReached) (first : ℕ) (step : BeginsAt l first) where
  abbrev c : DistributedProgram
  c = l.program.now

  abbrev b : BoundValue
  b = program_in c

  abbrev site : SiteValue
  site = the.site_of b l.item

  abbrev m : RankMesh
  m = l.part.now

  abbrev args : List Arg
  args = site.args

  abbrev locals : List (Option LocalArg)
  locals = l.args.now

  abbrev base_of : ℕ → ℕ
  base_of d = slice_index m.bases.items d

  abbrev dim_of : ℕ → ℕ
  dim_of d = dat_dim b.mesh d

  abbrev reach : ℕ → Option Via → ℕ
  reach x v = local_by b.mesh m x v

  begun : (x : ℕ) → BeginsAt l x → IsBegin b c.owners.now c.meshes.now (plan_in c) l.item l.rank x
  begun = its.begun l sound is stand here have windows frames first step

  fits : SiteFits b site
  fits = its.fits l sound is stand here have windows frames first step

  arg_is : (a : ℕ) → a < length args → IsArg b.mesh m (arg_in args a) (local_at args locals a)
  arg_is = its.arg_is l sound is stand here have windows frames first step

  on_arg : (a : ℕ) (y : LocalArg) → a < length args → local_at args locals a ≡ Some y → IsOn args locals (BeginsAt l) m.cells base_of dim_of reach a y
  on_arg = its.on_arg l sound is stand here have windows frames first step

  are_on : AreOn args locals (BeginsAt l) m.cells base_of dim_of reach
  are_on = its.are_on l sound is stand here have windows frames first step

  -- the modes of its arguments
  abbrev modes : List Mode
  modes = modes_of b site

  mode_is : (a : ℕ) → a < length args → mode_at modes a ≡ mode_of b (arg_in args a)
  mode_is a lt = get_or-map (mode_of b) args a no_arg no_mode lt

  dim_is : (a : ℕ) → a < length args → dim modes a ≡ arg_width b (arg_in args a)
  dim_is a lt = ap (λ (z : Mode). z.dim) (mode_is a lt)

  access_is : (a : ℕ) → a < length args → access modes a ≡ access_by (arg_in args a)
  access_is a lt = ap (λ (z : Mode). z.access) (mode_is a lt)

  no_dim : (a : ℕ) → length args ≤ a → dim modes a ≡ 0
  no_dim a le = ap (λ (z : Mode). z.dim) (get_or_past modes a no_mode (omega (arith, le, length-map args (mode_of b))))

  -- ---- arguments on variables

  module _ (cells : List Place) (at : VariablesStand l cells) where
    abbrev vs : List Cell
    vs = stood.vs l sound is stand here have windows frames first step cells at

    behind : (a : ℕ) → a < length args → local_at args locals a ≡ None → BehindAt l sound is stand here have windows frames first step cells at a
    behind = stood.behind l sound is stand here have windows frames first step cells at

    vs_long : length vs ≡ length l.scalars.now
    vs_long = stood.vs_long l sound is stand here have windows frames first step cells at

    -- ---- rows

    module _ (row : RowLoop) (numbers : List ℕ) (places : List Place)
        (tables : AreTables args locals (BeginsAt l) m.cells base_of dim_of reach row numbers places)
        (codes : row.code.now ≡ l.code.now) (scalars : row.scalars.now ≡ l.scalars.now) (long : length row.places.now ≡ length args)
        (put : (a : ℕ) → a < length args → place_at row.places.now a ≡ scalar_place (length row.columns.now) m.cells (local_at args locals a) (place_at cells a) (place_at places a)) where
      -- an argument's place in the frame
      dat_frame : (a : ℕ) (y : LocalArg) → a < length args → local_at args locals a ≡ Some y → place_at row.places.now a ≡ place_at places a
      dat_frame a y lt own = put a lt ∙ ap (λ z. scalar_place (length row.columns.now) m.cells z (place_at cells a) (place_at places a)) own

      scalar_frame : (a : ℕ) → a < length args → local_at args locals a ≡ None
          → place_at row.places.now a ≡ record { from = length row.columns.now + ((place_at cells a).from - m.cells); count = (place_at cells a).count }
      scalar_frame a lt none = put a lt ∙ ap (λ z. scalar_place (length row.columns.now) m.cells z (place_at cells a) (place_at places a)) none

      frame_count : (a : ℕ) → (place_at row.places.now a).count ≡ dim modes a
      frame_count a = ⊎_elim
          (λ (lt : a < length args). by (local_at args locals a) refl lt)
          (λ (le : length args ≤ a). ap (λ (p : Place). p.count) (get_or_past row.places.now a no_place (omega (arith, long, le))) ∙ sym (no_dim a le))
          (cases_lt a (length args))
        where
          by : (o : Option LocalArg) → local_at args locals a ≡ o → a < length args → (place_at row.places.now a).count ≡ dim modes a
          by (Some y) e lt =
              let p = on_arg a y lt e in
              ap (λ (z : Place). z.count) (dat_frame a y lt e) ∙ tables.columns.counts a y lt e ∙ p.dim ∙ sym (dim_is a lt ∙ ap (arg_width b) p.is)
          by None e lt =
              let s = behind a lt e in
              ap (λ (z : Place). z.count) (scalar_frame a lt e) ∙ s.count ∙ sym (dim_is a lt ∙ ap (arg_width b) s.named)

      memory_place : (x a : ℕ) → place_at (places_in x locals cells) a ≡ place_in x (local_at args locals a) (place_at cells a)
      memory_place x a = put_at x locals cells a at.count

      memory_count : (x a : ℕ) → (place_at (places_in x locals cells) a).count ≡ dim modes a
      memory_count x a = ⊎_elim
          (λ (lt : a < length args). by (local_at args locals a) refl lt)
          (λ (le : length args ≤ a).
          let n = is.args.0 in
          ap (λ (p : Place). p.count) (memory_place x a ∙ ap₂ (λ o p. place_in x o p) (get_or_past locals a None (omega (arith, n, le)))
          (get_or_past cells a no_place (let count = at.count in omega (arith, count, n, le)))) ∙ sym (no_dim a le))
          (cases_lt a (length args))
        where
          by : (o : Option LocalArg) → local_at args locals a ≡ o → a < length args → (place_at (places_in x locals cells) a).count ≡ dim modes a
          by (Some y) e lt =
              let p = on_arg a y lt e in
              ap (λ (z : Place). z.count) (memory_place x a ∙ ap (λ o. place_in x o (place_at cells a)) e) ∙ p.dim ∙ sym (dim_is a lt ∙ ap (arg_width b) p.is)
          by None e lt =
              let s = behind a lt e in
              ap (λ (z : Place). z.count) (memory_place x a ∙ ap (λ o. place_in x o (place_at cells a)) e) ∙ s.count ∙ sym (dim_is a lt ∙ ap (arg_width b) s.named)

      pub places_fit : PlacesIn (width row) row.places.now
      places_fit a lt =
          let la : a < length args = omega (arith, lt, long) in by (local_at args locals a) refl la
        where
          by : (o : Option LocalArg) → local_at args locals a ≡ o → a < length args → (place_at row.places.now a).from + (place_at row.places.now a).count ≤ width row
          by (Some y) e la =
              let p = on_arg a y la e in
              let same = dat_frame a y la e in
              let from = ap (λ (z : Place). z.from) same in
              let count = ap (λ (z : Place). z.count) same ∙ tables.columns.counts a y la e in
              let inside = room args locals (BeginsAt l) m.cells base_of dim_of reach row numbers places are_on tables a y p in
              omega (arith, from, count, inside)
          by None e la =
              let s = behind a la e in
              let same = scalar_frame a la e in
              let from = ap (λ (z : Place). z.from) same in
              let count = ap (λ (z : Place). z.count) same in
              let f = s.from in let n = s.count in let few = s.few in let v = vs_long in let all = ap length scalars in
              omega (arith, from, count, f, n, few, v, all)

      all_scalars : row.scalars.now ≡ scalars_in c l.item
      all_scalars = scalars ∙ is.scalars

      each_scalar : EachIsScalar b (loop_of (item_at b l.item)) (scalars_in c l.item)
      each_scalar = (sound.made.scalars (loop_of (item_at b l.item)) (begun first step).loop).each

      own : (k : ℕ) → k < length row.columns.now → Owner args locals (BeginsAt l) m.cells base_of dim_of reach row numbers places are_on tables k
      own = owner args locals (BeginsAt l) m.cells base_of dim_of reach row numbers places are_on tables

      -- no two scalars have one cell
      one_place : (i j : ℕ) → i < length vs → j < length vs → get_or vs i no_cell ≡ get_or vs j no_cell → i ≡ j
      one_place =
          one_scalar b site (original_at c.meshes.now l.rank site.set first) (frames b site (original_at c.meshes.now l.rank site.set first))
          (cell_at c.meshes.now b.mesh l.rank) (dat_spans c sound stand l.item l.rank first step m) (variable_at b) (scalars_in c l.item)
          (windows_here c sound stand l.item l.rank first step windows m is.part).cells fits.args

      module _ (batch : List ℕ) (rows : ℕ) (begin : (r : ℕ) → r < rows → BeginsAt l (slice_index batch r)) where
        abbrev standing : ℕ → List Place
        standing x = places_in x locals cells

        frame_from : (a : ℕ) → (target_at (map target_of row.places.now) a).from ≡ (place_at row.places.now a).from
        frame_from a = ap (λ (t : Target). t.from) (target_is row.places.now a)

        memory_from : (x a : ℕ) → (target_at (map target_of (standing x)) a).from ≡ (place_in x (local_at args locals a) (place_at cells a)).from
        memory_from x a = ap (λ (t : Target). t.from) (target_is (standing x) a) ∙ ap (λ (p : Place). p.from) (memory_place x a)

        -- a component of an argument on a dat
        on_dat : (x a i : ℕ) → BeginsAt l x → (y : LocalArg) → a < length args → local_at args locals a ≡ Some y → i < dim modes a
            → OnDat row x (access modes a) ((target_at (map target_of row.places.now) a).from + i) ((target_at (map target_of (standing x)) a).from + i)
        on_dat x a i there y la e lt =
            let p = on_arg a y la e in
            let wide : dim modes a ≡ y.dim = dim_is a la ∙ ap (arg_width b) p.is ∙ sym p.dim in
            let one = stands args locals (BeginsAt l) m.cells base_of dim_of reach row numbers places are_on tables a y p x i there (omega (arith, lt, wide)) in
            let column : (target_at (map target_of row.places.now) a).from + i ≡ (place_at places a).from + i =
            ap (λ n. n + i) (frame_from a ∙ ap (λ (z : Place). z.from) (dat_frame a y la e)) in
            let cell : (target_at (map target_of (standing x)) a).from + i ≡ y.base + local_in y.via x * y.dim + i =
            ap (λ n. n + i) (memory_from x a ∙ ap (λ o. (place_in x o (place_at cells a)).from) e) in
            let how : access modes a ≡ access_of p.access = access_is a la ∙ ap access_by p.is in
            subst (λ n. OnDat row x (access modes a) n ((target_at (map target_of (standing x)) a).from + i)) (sym column)
            (subst (λ n. OnDat row x (access modes a) ((place_at places a).from + i) n) (sym cell)
            (subst (λ k. OnDat row x k ((place_at places a).from + i) (y.base + local_in y.via x * y.dim + i)) (sym how) one))

        -- and of one on a variable
        on_variable : (x a i : ℕ) → a < length args → local_at args locals a ≡ None → i < dim modes a
            → OnVariable row m.cells (access modes a) ((target_at (map target_of row.places.now) a).from + i) ((target_at (map target_of (standing x)) a).from + i)
        on_variable x a i la e lt =
            let s = behind a la e in
            let wide : dim modes a ≡ var_width b s.variable = dim_is a la ∙ ap (arg_width b) s.named in
            let below : i < var_width b s.variable = omega (arith, lt, wide) in
            let column = frame_from a ∙ ap (λ (z : Place). z.from) (scalar_frame a la e) in
            let cell = memory_from x a ∙ ap (λ o. (place_in x o (place_at cells a)).from) e in
            let from = s.from in
            let few = s.few in
            let v = vs_long in
            let count = ap length scalars in
            let fit : ArgFits b site.set (Global s.variable s.access) = subst (ArgFits b site.set) s.named (fits.args a no_arg la) in
            let j : s.number + i < length (scalars_in c l.item) = (let all = ap length is.scalars in omega (arith, few, below, v, all)) in
            record {
              number = s.number + i;
              few = omega (arith, few, below, v, count);
              column = omega (arith, column, from);
              cell = omega (arith, cell, from);
              allows = subst (λ k. AllowsScalar (scalar_in row.scalars.now (s.number + i)) k) (sym (access_is a la ∙ ap access_by s.named))
                  (subst (λ xs. AllowsScalar (scalar_in xs (s.number + i)) (access_of s.access)) (sym all_scalars)
                  (allows b (loop_of (item_at b l.item)) (scalars_in c l.item) each_scalar fits.apart a s.variable i (s.number + i) s.access (var_at b s.variable).constant la s.named fit.3 below j
                  (s.has i below)));
            }

        component : (x a i : ℕ) → BeginsAt l x → i < dim modes a
            → OnDat row x (access modes a) ((target_at (map target_of row.places.now) a).from + i) ((target_at (map target_of (standing x)) a).from + i)
            ⊎ OnVariable row m.cells (access modes a) ((target_at (map target_of row.places.now) a).from + i) ((target_at (map target_of (standing x)) a).from + i)
        component x a i there lt = by (local_at args locals a) refl
          where
            la : a < length args
            la = is_argument b site a i lt

            by : (o : Option LocalArg) → local_at args locals a ≡ o
                → OnDat row x (access modes a) ((target_at (map target_of row.places.now) a).from + i) ((target_at (map target_of (standing x)) a).from + i)
                ⊎ OnVariable row m.cells (access modes a) ((target_at (map target_of row.places.now) a).from + i) ((target_at (map target_of (standing x)) a).from + i)
            by (Some y) e = inl (on_dat x a i there y la e lt)
            by None e = inr (on_variable x a i la e lt)

        -- a column that may be modified has an argument that may
        modified : (k : ℕ) → k < length row.columns.now → column_access row k ≢ OpRead → IsModified row m.cells modes standing batch k
        modified k lt ne =
            let o = own k lt in
            let w = modifier args locals (BeginsAt l) m.cells base_of dim_of reach row numbers places are_on tables k o ne in
            let wide : dim modes w.arg ≡ o.local.dim = dim_is w.arg w.on.there ∙ ap (arg_width b) w.on.is ∙ ap dim_of w.dat ∙ sym o.on.dim in
            let below = o.below in
            let at : (target_at (map target_of row.places.now) w.arg).from ≡ (place_at places o.arg).from =
            frame_from w.arg ∙ ap (λ (z : Place). z.from) (dat_frame w.arg w.local w.on.there w.on.local) ∙ w.stands in (
              w.arg,
              o.component,
              omega (arith, below, wide),
              (λ e. w.modifies (sym (access_is w.arg w.on.there ∙ ap access_by w.on.is) ∙ e)),
              ap (λ n. n + o.component) at ∙ sym o.at,
            )

        -- as does a scalar
        reduced : (j : ℕ) → j < length row.scalars.now → (AllowsScalar (scalar_in row.scalars.now j) OpRead → ⊥)
            → IsModified row m.cells modes standing batch (length row.columns.now + j)
        reduced j lt amount =
            let few : j < length (scalars_in c l.item) = (let count = ap length all_scalars in omega (arith, lt, count)) in
            let r = reducer b (loop_of (item_at b l.item)) (scalars_in c l.item) each_scalar j few (λ h. amount (subst (λ xs. AllowsScalar (scalar_in xs j) OpRead) (sym all_scalars) h)) in
            let none = global_local b.mesh m (arg_in args r.arg) (local_at args locals r.arg) (arg_is r.arg r.there) r.variable r.access r.is in
            let s = behind r.arg r.there none in
            let same : Global s.variable s.access ≡ Global r.variable r.access = sym s.named ∙ r.is in
            let variable : s.variable ≡ r.variable = cc in
            let below : r.component < var_width b s.variable = subst (λ v. r.component < var_width b v) (sym variable) r.below in
            let inside = s.few in
            let v = vs_long in
            let count = ap length scalars in
            let one : s.number + r.component ≡ j =
            one_place (s.number + r.component) j (omega (arith, inside, below)) (omega (arith, lt, v, count))
            (s.has r.component below ∙ ap (λ n. Variable (record { variable = n; component = r.component })) variable ∙ sym r.cell) in
            let column = frame_from r.arg ∙ ap (λ (z : Place). z.from) (scalar_frame r.arg r.there none) in
            let from = s.from in (
              r.arg,
              r.component,
              subst (λ n. r.component < n) (sym (dim_is r.arg r.there ∙ ap (arg_width b) s.named)) below,
              (λ e. let no : OpReduce r.reduction ≡ OpRead = sym r.how ∙ sym (access_is r.arg r.there ∙ ap access_by r.is) ∙ e in let gone : ⊥ = cc in gone),
              omega (arith, column, from, one),
            )

        -- two columns share no cell, or reduce into one component alike
        columns_apart : (k d : ℕ) → k < length row.columns.now → d < length row.columns.now → k ≢ d → column_access row k ≢ OpRead
            → NeverMeet row m.cells modes standing batch rows k d ⊎ ReduceApart row k d
        columns_apart k d lk ld ne modifies =
            let o = own k lk in
            let q = own d ld in
            ⊎_elim
            (λ (dat : o.on.dat ≡ q.on.dat). ⊎_elim
            (λ (same : o.component ≡ q.component).
            inr (apart args locals (BeginsAt l) m.cells base_of dim_of reach row numbers places are_on tables k d o q ne modifies (record { dat = dat; component = same })))
            (λ (other : o.component ≡ q.component → ⊥). inl (λ i r li lr cell.
            other (meets args locals (BeginsAt l) m.cells base_of dim_of reach row numbers places are_on tables k d o q
            (slice_index batch i) (slice_index batch r) (begin i li) (begin r lr) cell).component))
            (cases_eq o.component q.component))
            (λ (other : o.on.dat ≡ q.on.dat → ⊥). inl (λ i r li lr cell.
            other (meets args locals (BeginsAt l) m.cells base_of dim_of reach row numbers places are_on tables k d o q
            (slice_index batch i) (slice_index batch r) (begin i li) (begin r lr) cell).dat))
            (cases_eq o.on.dat q.on.dat)

        pub in_rows : RunsInRows row m.cells modes standing batch rows
        in_rows = record {
          obeys = subst (λ z. KernelObeys z.kernel.now modes) (sym codes)
              (sound.obey (loop_of (item_at b l.item)) l.code.now.kernel.now (begun first step).loop is.kernel);
          frame_counts = λ a. ap (λ (t : Target). t.count) (target_is row.places.now a) ∙ frame_count a;
          counts = λ r a lt. ap (λ (t : Target). t.count) (target_is (standing (slice_index batch r)) a) ∙ memory_count (slice_index batch r) a;
          stands = λ r a i lr li. component (slice_index batch r) a i (begin r lr) li;
          columns = modified;
          amounts = reduced;
          dims = λ k lt. has_dim args locals (BeginsAt l) m.cells base_of dim_of reach row numbers places are_on tables k (own k lt);
          stored = λ k lt h. (
            stored_direct args locals (BeginsAt l) m.cells base_of dim_of reach row numbers places are_on tables k (own k lt) h,
            tables.differ k lt h,
          );
          apart = columns_apart;
          alike = λ i j li lj.
              let count = ap length all_scalars in
              subst (λ xs. MergeAlike (scalar_in xs i) (scalar_in xs j)) (sym all_scalars)
              (alike b (loop_of (item_at b l.item)) (scalars_in c l.item) each_scalar i j (omega (arith, li, count)) (omega (arith, lj, count)));
        }

      -- so it is a loop that runs in rows
      pub made : row.constants.now ≡ l.constants.now → row.variables.now ≡ l.variables.now → length row.ways.now ≤ most_ways → width row + l.code.now.slots ≤ most_columns
          → IsRowLoop l row
      made constants variables few_ways few_columns = record {
        code = codes;
        constants = constants;
        variables = variables;
        scalars = scalars;
        params = long ∙ is.params;
        fits = places_fit;
        whole = is_whole args locals (BeginsAt l) m.cells base_of dim_of reach row numbers places are_on tables;
        few_ways = few_ways;
        few_columns = few_columns;
        leads = leads_from args locals (BeginsAt l) m.cells base_of dim_of reach row numbers places are_on tables;
        stand = cells;
        are = at;
        in_rows = λ batch rows begin. in_rows batch rows begin;
      }
