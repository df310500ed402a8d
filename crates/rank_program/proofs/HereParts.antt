-- Where the arguments of a place's element stand in its rank's buffer and behind it, as they are read in a distributed program.
use Rattle.std.proofs.Common.{◌≡◌, ◌<◌, ◌≤◌, ◌+◌, ◌-◌, ◌*◌, ℕ, zero, suc, ℤ, Bool, false, true, List, [], ◌∷◌, ◌++◌, All, map, take, length, get_or, Option, Some, refl, sym, ap, ap₂, ◌∙◌, subst, arith}
use Rattle.std.proofs.lemmas.List.{get_or_default, length-take-le}
use Rattle.kernel_model.specs.declared.types.kernels.RKernel.{RKernel}
use Rattle.kernel_model.specs.declared.types.views.frame.Place.{Place}
use Rattle.kernel_model.specs.Framed.{PlacesIn, target_of}
use Rattle.kernel_model.specs.Effects.{faults_first}
use Rattle.kernel_model.specs.Law.{StopsUnchanged, HaveCounts, UnchangedAfterFaults}
use Rattle.mesh_decl.specs.Mesh.{set_size}
use Rattle.local_mesh.specs.declared.types.RankMesh.{RankMesh}
use Rattle.schedule_steps.specs.declared.step.Step.TheVariants.{Begin}
use Rattle.schedule_steps.specs.Steps.{IsStep}
use Rattle.schedule_model.specs.Layout.{by_place}
use Rattle.bound_program.specs.declared.sites.Arg.{Arg}
use Rattle.bound_program.specs.declared.sites.Site.{Site}
use Rattle.bound_program.specs.Values as value
use Rattle.bound_program.specs.declared.sites.Arg.TheVariants.{Dat, Global}
use Rattle.bound_program.specs.Values.{BoundValue, SiteValue, no_site}
use Rattle.schedule_model.specs.Cells.{Cell, Data, DatCell}
use Rattle.run_model.specs.OnWindows.{no_cell, OnWindows}
use Rattle.bound_program.specs.Fits.{ArgFits, SiteFits}
use Rattle.bound_program.specs.Classes.{modifies}
use Rattle.bound_program.specs.Limits.{max_dim}
use Rattle.run_model.specs.Windows.{reached, cell_in}
use Rattle.run_model.specs.Arguments.{arg_width, modes_of, cell_of}
use Rattle.run_model.specs.Kernels.{kernel_at}
use Rattle.run_model.specs.Programs.{item_at, loop_of}
use Rattle.run_model.specs.Laws as the
use Rattle.bound_plan.specs.Laws.{FramesAreReached}
use Rattle.bound_plan.specs.Places.{original_at, cells_of, place_of, cell_at}
use Rattle.bound_plan.specs.Variables.{variable_at}
use Rattle.bound_plan.specs.Windows.{frame_cells, frame_windows, core_with}
use Rattle.rank_state.specs.declared.spans.Span.{Span}
use Rattle.rank_state.specs.declared.scalars.Scalar.{Scalar}
use Rattle.rank_state.specs.Spans.{Within, gathered}
use Rattle.rank_state.specs.Windows.{scalar_cells, Marked}
use Rattle.rank_state.specs.Shows.{AreWindows}
use Rattle.rank_state.proofs.Public.{windows_counted}
use Rattle.kernel_runs.specs.Saving.{place_cells}
use Rattle.kernel_runs.specs.InPlace.{NameTheSame}
use Rattle.kernel_runs.specs.Here.{IsHere, core_on_gathered}
use Rattle.rank_program.specs.declared.program.DistributedProgram.{DistributedProgram}
use Rattle.rank_layout.specs.DatWindows.{spans_after, ArgHere}
use Rattle.rank_program.specs.Here.{arg_stands, arg_place, behind, scalars_in}
use Rattle.kernel_runs.specs.declared.row_batches.batch_tables.args.LocalArg.{LocalArg}
use Rattle.rank_program.specs.LocalArgs.{AreArgs, InBuffer, places_in}
use Rattle.rank_layout.specs.Numbered.{ArgThere}
use Rattle.rank_layout.specs.Made.{writes_by}
use Rattle.rank_program.specs.Sound.{Sound, program_in, plan_in, setup_in, layout_in, tables_in, core_in}
use Rattle.rank_layout.specs.StepLaws.{IsBegin, StepsStand}
use Rattle.rank_layout.specs.WindowLaws.{arg_span, IsPlaceOf, ArgsAreHere, ArgsHaveCells, ElementWindowsStand}
use Rattle.rank_program.proofs.BegunParts.{begins}
use Rattle.rank_program.proofs.KernelRun.{args_there}
use Rattle.rank_program.proofs.Tails.{scalar_spans}
use Rattle.rank_program.proofs.Buffer.{buffer_cell, buffer_cells, in_front, in_tail, within_append, within_more, scalars_within, marked_append, scalars_marked, buffer_append, spans_are, tail_is, one_index}
use Rattle.rank_program.specs.LocalLoops.{StandsBehind}
use Rattle.rank_program.proofs.Behind.{scalars_count, scalars_apart, scalars_changed, one_scalar, all_behind}
use Rattle.rank_program.proofs.HereStands.{is_changed, name_the_same, spans_apart, unwritten_read, written_marked}
use Rattle.rank_layout.proofs.Public.{args_are, cells_at, some_at}
use Rattle.rank_program.proofs.LocalArgs.{same_places, in_buffer}

-- ---- places

places_within : (n : ℕ) (place : Arg → Place) (args : List Arg) → All (λ y. (place y).from + (place y).count ≤ n) args → PlacesIn n (map place args)
places_within n place [] h a lt = absurd (omega arith)
places_within n place (y ∷ ys) h zero lt = h 0 y (omega arith)
places_within n place (y ∷ ys) h (suc a) lt = places_within n place ys (λ i d l. h (suc i) d (omega (arith, l))) a (omega (arith, lt))

few_cells : (place : Arg → Place) (args : List Arg) → All (λ y. (place y).count ≤ max_dim) args → place_cells (map place args) ≤ length args * max_dim
few_cells place [] h = omega arith
few_cells place (y ∷ ys) h =
    let one = h 0 y (omega arith) in
    let rest = few_cells place ys (λ i d l. h (suc i) d (omega (arith, l))) in
    omega (arith, one, rest)

have_counts : (b : BoundValue) (place : Arg → Place) (args : List Arg) → All (λ y. (place y).count ≡ arg_width b y) args → HaveCounts (map (arg_width b) args) (map target_of (map place args))
have_counts b place [] h a = omega arith
have_counts b place (y ∷ ys) h zero = let e = h 0 y (omega arith) in omega (arith, e)
have_counts b place (y ∷ ys) h (suc a) = have_counts b place ys (λ i d l. h (suc i) d (omega (arith, l))) a

data_marked : (width : ℕ) (cell_at : ℕ → DatCell) (vs : List Cell) (args : List Arg) (ss : List Span) → Within width ss → Marked (λ i. modifies args (cell_at i).dat) ss
    → Marked (λ i. is_changed args (buffer_cell width cell_at vs i)) ss
data_marked width cell_at vs args [] h k = tt
data_marked width cell_at vs args (s ∷ ss) h k =
    (λ j lt. ap (is_changed args) (in_front width cell_at vs (s.at + j) (let fits = h.0 in omega (arith, fits, lt))) ∙ k.0 j lt, data_marked width cell_at vs args ss h.1 k.1)

module _ (c : DistributedProgram) (sound : Sound c) (stand : StepsStand) (k r x : ℕ) (step : IsStep (by_place (setup_in c) (layout_in c)) (Begin k r x)) where
  abbrev b : BoundValue
  b = program_in c

  abbrev site : SiteValue
  site = the.site_of b k

  abbrev e : ℕ
  e = original_at c.meshes.now r site.set x

  abbrev width : ℕ
  width = cells_of c.meshes.now r

  abbrev scalars : List Scalar
  scalars = scalars_in c k

  -- the cells of the loop's scalars
  abbrev vs : List Cell
  vs = scalar_cells (variable_at b) scalars

  abbrev cell : ℕ → Cell
  cell = buffer_cell width (cell_at c.meshes.now b.mesh r) vs

  abbrev all_spans : List Span → List Span
  all_spans spans = spans ++ scalar_spans width scalars

  abbrev Windows : List Span → Type 0
  Windows spans = AreWindows (setup_in c) (layout_in c) (tables_in c) k r x spans scalars

  begun : IsBegin b c.owners.now c.meshes.now (plan_in c) k r x
  begun = begins c sound stand k r x step

  pub site_fits : SiteFits b site
  site_fits = sound.planned.fits.sites (loop_of (item_at b k)) no_site begun.loop

  -- the loop's arguments as they are read
  module _ (read : Site) (is : value.site_of read ≡ site) (args : List Arg) (all : args ≡ read.args.items) where
    pub args_read : args ≡ site.args
    args_read = all ∙ ap (λ (s : SiteValue). s.args) is

    pub few_read : length args ≤ 16
    few_read = let few = site_fits.few in let same = ap length args_read in omega (arith, few, same)

    -- room for so many as are read
    pub room_read : (n : ℕ) → n ≡ length read.args.items → (room : List Place) → 16 ≤ length room → length (take n room) ≡ length args
    room_read n len room fits =
        let few = few_read in let long = ap length all in
        length-take-le n room (omega (arith, few, long, len, fits)) ∙ len ∙ sym long

    -- they are there for the element
    pub there_read : (element : ℕ) → element ≡ e → All (ArgThere b element) args
    there_read element original =
        subst (λ xs. All (ArgThere b element) xs) (sym args_read)
        (args_there b site element site_fits (subst (λ z. z < set_size b.mesh site.set) (sym original) begun.element))

    pub frame_read : (element : ℕ) → element ≡ e → length (frame_cells b args element) ≡ length (frame_cells b site.args e)
    frame_read element original = ap₂ (λ xs z. length (frame_cells b xs z)) args_read original

  abbrev pub dat_spans : RankMesh → List Span
  dat_spans m = spans_after (arg_span b.mesh m x (modifies site.args)) site.args []

  pub windows_here : ElementWindowsStand → (m : RankMesh) → m ≡ get_or c.meshes.now r m → Windows (dat_spans m)
  windows_here windows m part =
      windows b c.owners.now sound.numbers c.meshes.now (plan_in c) sound.planned k r x m scalars begun part (sound.made.scalars (loop_of (item_at b k)) begun.loop)

  vs_long : length vs ≡ length scalars
  vs_long = scalars_count (cell_at c.meshes.now b.mesh r) [] (variable_at b) scalars

  windows_there : ElementWindowsStand → Windows (dat_spans (get_or c.meshes.now r (some_at c.meshes.now r begun.here)))
  windows_there windows =
      let m = get_or c.meshes.now r (some_at c.meshes.now r begun.here) in
      windows_here windows m (get_or_default c.meshes.now r (some_at c.meshes.now r begun.here) m begun.here)

  -- an element has no more scalars than the machine's windows have room for
  pub few_scalars : ElementWindowsStand → length scalars ≤ (tables_in c).stride
  few_scalars windows = let are = windows_there windows in let fits = are.fits in omega (arith, fits)

  -- its frame has their cells
  pub scalars_fit : ElementWindowsStand → length scalars ≤ length (frame_cells b site.args e)
  scalars_fit windows =
      let m = get_or c.meshes.now r (some_at c.meshes.now r begun.here) in
      let count = windows_counted (setup_in c) (layout_in c) (tables_in c) k r x (dat_spans m) scalars (windows_there windows) in
      omega (arith, count)

  -- where the arguments on variables stand behind the buffer, by the frame of the element
  pub stand_behind : FramesAreReached → (spans : List Span) → Windows spans
      → All (λ y. StandsBehind b width vs (behind b site.args e (length scalars) width y) y) site.args
  stand_behind reached spans are =
      all_behind b site e (reached b site e) (cell_at c.meshes.now b.mesh r) spans (variable_at b) scalars are.cells site_fits.args width

  module _ (m : RankMesh) (part : m ≡ get_or c.meshes.now r m) where
    cells_are : m.cells ≡ width
    cells_are = cells_at c.meshes.now r m begun.here part

    at_place : IsPlaceOf b c.owners.now c.meshes.now (loop_of (item_at b k)) r x m
    at_place = record { loop = begun.loop; rank = begun.rank; place = begun.executed; part = part }

    module _ (args_here : ArgsAreHere) where
      here : All (ArgHere b.mesh m x) site.args
      here = args_here b c.owners.now sound.numbers c.meshes.now (plan_in c) sound.planned (loop_of (item_at b k)) r x m at_place

      -- the same of arguments by local numbers
      pub locals_fit : (locals : List (Option LocalArg)) → AreArgs b.mesh m site.args locals → All (InBuffer x m.cells) locals
      locals_fit locals are = in_buffer b.mesh m x site.args locals are here

      module _ (at : Arg → Place) where
        abbrev pub span : Arg → Span
        span y = arg_stands b.mesh m x (at y) y

        abbrev pub place : Arg → Place
        place y = arg_place b.mesh m x (at y) y

        -- places that are put over others, of which those of variables stand as they did at first
        pub places_are : (locals : List (Option LocalArg)) → AreArgs b.mesh m site.args locals → (before places : List Place) → places ≡ places_in x locals before
            → places_in x locals before ≡ places_in x locals (map at site.args) → places ≡ map place site.args
        places_are locals are before places put over = put ∙ over ∙ same_places b.mesh m x at site.args locals are here

        module _ (behind_all : All (λ y. StandsBehind b width vs (at y) y) site.args) where
          dim_of : (y : Arg) (p : Place) → StandsBehind b width vs p y → (arg_stands b.mesh m x p y).dim ≡ arg_width b y
          dim_of (Dat d v a) p h = refl
          dim_of (Global v a) p h = h.2

          few_of : (y : Arg) → ArgFits b site.set y → arg_width b y ≤ max_dim
          few_of (Dat d v a) fit = fit.1
          few_of (Global v a) fit = fit.2

          dat_inside : (d : ℕ) (v : _) (a : _) → ArgHere b.mesh m x (Dat d v a) → (arg_span b.mesh m x (λ z. false) (Dat d v a)).at + (arg_span b.mesh m x (λ z. false) (Dat d v a)).dim ≤ width
          dat_inside d v a h = let room = h.3 in omega (arith, room, cells_are)

          inside_of : (y : Arg) (p : Place) → ArgHere b.mesh m x y → StandsBehind b width vs p y → (arg_stands b.mesh m x p y).at + (arg_stands b.mesh m x p y).dim ≤ width + length vs
          inside_of (Dat d v a) p h s = let room = dat_inside d v a h in omega (arith, room)
          inside_of (Global v a) p h s = let from = s.1 in let fits = s.3 in omega (arith, from, fits)

          has_of : (y : Arg) (p : Place) → ArgHere b.mesh m x y → StandsBehind b width vs p y
              → ((j : ℕ) → j < (arg_span b.mesh m x (λ d. false) y).dim
              → Data (cell_at c.meshes.now b.mesh r ((arg_span b.mesh m x (λ d. false) y).at + j)) ≡ cell_in (reached b e y) j)
              → (j : ℕ) → j < (arg_stands b.mesh m x p y).dim → cell ((arg_stands b.mesh m x p y).at + j) ≡ cell_in (reached b e y) j
          has_of (Dat d v a) p h s have j lt =
              let room = dat_inside d v a h in
              in_front width (cell_at c.meshes.now b.mesh r) vs ((arg_span b.mesh m x (λ z. false) (Dat d v a)).at + j) (omega (arith, room, lt)) ∙ have j lt
          has_of (Global v a) p h s have j lt =
              let from = s.1 in
              let at : p.from + j - width ≡ s.0 + j = omega (arith, from) in
              in_tail width (cell_at c.meshes.now b.mesh r) vs (p.from + j) (omega (arith, from)) ∙ ap (λ i. get_or vs i no_cell) at ∙ s.4 j lt

          dims : All (λ y. (span y).dim ≡ arg_width b y) site.args
          dims i d lt = dim_of (get_or site.args i d) (at (get_or site.args i d)) (behind_all i d lt)

          inside : All (λ y. (span y).at + (span y).dim ≤ width + length vs) site.args
          inside i d lt = inside_of (get_or site.args i d) (at (get_or site.args i d)) (here i d lt) (behind_all i d lt)

          pub places_fit : (n : ℕ) → n ≡ width + length scalars → (places : List Place) → places ≡ map place site.args → PlacesIn n places
          places_fit n long places are =
              let same : width + length vs ≡ n = (let count = vs_long in omega (arith, count, long)) in
              subst (λ z. PlacesIn z places) same (subst (PlacesIn (width + length vs)) (sym are) (places_within (width + length vs) place site.args inside))

          pub places_few : (places : List Place) → places ≡ map place site.args → place_cells places ≤ 1024
          places_few places are =
              let few = few_cells place site.args (λ i d lt.
              let fits = few_of (get_or site.args i d) (site_fits.args i d lt) in
              let dim = dims i d lt in
              omega (arith, fits, dim)) in
              let same : place_cells places ≡ place_cells (map place site.args) = ap place_cells are in
              let count : length site.args ≤ 16 = site_fits.few in
              omega (arith, few, same, count)

          -- a kernel that is judged to fault before it stores does so here
          pub stops_unchanged : UnchangedAfterFaults → (f : RKernel) → faults_first (map (arg_width b) site.args) f ≡ true → (places : List Place) → places ≡ map place site.args
              → (consts : List ℤ) → StopsUnchanged f (map target_of places) consts
          stops_unchanged law f judged places are consts =
              law (map (arg_width b) site.args) f (map target_of places) consts judged
              (subst (λ z. HaveCounts (map (arg_width b) site.args) (map target_of z)) (sym are) (have_counts b place site.args dims))

          module _ (frames : FramesAreReached) (have : ArgsHaveCells) (spans : List Span) (are : Windows spans) where
            on : OnWindows (modes_of b site) (cell_of b site e) (frame_cells b site.args e) (frame_windows b site.args e)
            on = frames b site e

            gathered_cells : frame_cells b site.args e ≡ buffer_cells cell (all_spans spans)
            gathered_cells =
                are.cells
                ∙ sym (buffer_append cell spans (scalar_spans width scalars)
                ∙ ap₂ (λ y z. y ++ z) (spans_are width (cell_at c.meshes.now b.mesh r) vs spans are.within) (tail_is width (cell_at c.meshes.now b.mesh r) vs scalars (sym vs_long)))

            all_within : Within (width + length vs) (all_spans spans)
            all_within =
                within_append (width + length vs) spans (scalar_spans width scalars) (within_more width (width + length vs) spans (omega arith) are.within)
                (scalars_within width (width + length vs) scalars (let count = vs_long in omega (arith, count)))

            all_marked : Marked (λ i. is_changed site.args (cell i)) (all_spans spans)
            all_marked =
                marked_append (λ i. is_changed site.args (cell i)) spans (scalar_spans width scalars)
                (data_marked width (cell_at c.meshes.now b.mesh r) vs site.args spans are.within
                (subst (λ args. Marked (λ i. modifies args (cell_at c.meshes.now b.mesh r i).dat) spans) (args_are b k begun.free) are.writes))
                (scalars_marked (λ i. is_changed site.args (cell i)) width scalars
                (λ i le lt. ap (is_changed site.args) (in_tail width (cell_at c.meshes.now b.mesh r) vs i le)
                ∙ scalars_changed (cell_at c.meshes.now b.mesh r) spans (variable_at b) scalars site.args (i - width)))

            one : (i j : ℕ) → i < width + length vs → j < width + length vs → cell i ≡ cell j → i ≡ j
            one = one_index width (cell_at c.meshes.now b.mesh r) vs (place_of c.meshes.now b.mesh r) (λ i lt. sound.indexed.place_at r i begun.rank lt)
                (one_scalar b site e on (cell_at c.meshes.now b.mesh r) spans (variable_at b) scalars are.cells site_fits.args)
                (scalars_apart (cell_at c.meshes.now b.mesh r) spans (variable_at b) scalars)

            has : All (λ y. (j : ℕ) → j < (span y).dim → cell ((span y).at + j) ≡ cell_in (reached b e y) j) site.args
            has i d lt =
                has_of (get_or site.args i d) (at (get_or site.args i d)) (here i d lt) (behind_all i d lt)
                (have b c.owners.now sound.numbers c.meshes.now (plan_in c) sound.planned (loop_of (item_at b k)) r x m (λ z. false) at_place i d lt)

            same : NameTheSame (all_spans spans) (frame_windows b site.args e) (map target_of (map place site.args))
            same = name_the_same b site e (width + length vs) cell one on (all_spans spans) gathered_cells all_within all_marked span dims inside has

            pub is_here : (f : RKernel) → kernel_at b.kernels site.kernel ≡ Some f → (consts : List ℤ) (n : ℕ) → n ≡ width + length scalars
                → (places : List Place) → places ≡ map place site.args → (marks : List Bool) → marks ≡ map (writes_by site.args) site.args
                → IsHere f consts n places marks (all_spans spans) (frame_windows b site.args e)
            is_here f kernel consts n long places pl marks mk =
                let same_length : width + length vs ≡ n = (let count = vs_long in omega (arith, count, long)) in
                subst (λ z. IsHere f consts n z marks (all_spans spans) (frame_windows b site.args e)) (sym pl)
                (subst (λ z. IsHere f consts n (map place site.args) z (all_spans spans) (frame_windows b site.args e)) (sym mk)
                (subst (λ z. IsHere f consts z (map place site.args) (map (writes_by site.args) site.args) (all_spans spans) (frame_windows b site.args e)) same_length
                (record {
                  within = all_within;
                  apart = spans_apart b site e (width + length vs) cell one on (all_spans spans) gathered_cells all_within all_marked span dims inside has;
                  same = same;
                  leaves = sound.keeps k f begun.loop kernel consts (all_spans spans) (frame_windows b site.args e) (λ a i lt. (same.in_windows a, same.inside a i lt))
                      (unwritten_read b site e (width + length vs) cell one on (all_spans spans) gathered_cells all_within all_marked span dims inside has);
                  marked = written_marked b site e (width + length vs) cell one on (all_spans spans) gathered_cells all_within all_marked span dims inside has;
                })))

  -- the run on what the spans gather is that of the layout
  pub core_is : (f : RKernel) → kernel_at b.kernels site.kernel ≡ Some f → (consts memory : List ℤ) (spans : List Span)
      → core_on_gathered f consts memory spans (frame_windows b site.args (original_at c.meshes.now r site.set x))
      ≡ core_in c k ((layout_in c).original k r x) consts (gathered memory spans)
  core_is f kernel consts memory spans =
      sym (ap (λ o. core_with b o site (original_at c.meshes.now r site.set x) consts (gathered memory spans)) kernel)
