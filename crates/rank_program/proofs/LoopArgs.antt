-- The arguments of a loop on a rank: those on dats by local numbers, and where they lead.
use Rattle.std.proofs.Common.{◌≡◌, ◌<◌, ◌≤◌, ◌+◌, ◌*◌, ℕ, suc, true, false, List, length, get_or, Option, Some, None, refl, sym, ap, ap₂, ◌∙◌, subst, arith}
use Rattle.std.specs.Prelude.{slice_index, ◌^◌, IfSome}
use Rattle.std.proofs.Math.Nat.{suc-mul}
use Rattle.op_num.specs.declared.reductions.access.Access.{Access}
use Rattle.mesh_decl.specs.declared.access.Via.{Via}
use Rattle.mesh_decl.specs.Mesh.{dat_dim}
use Rattle.schedule_model.specs.Cells.{Data, DatCell}
use Rattle.local_mesh.specs.declared.types.RankMesh.{RankMesh}
use Rattle.bound_program.specs.declared.sites.Arg.{Arg}
use Rattle.bound_program.specs.declared.sites.Arg.TheVariants.{Dat}
use Rattle.bound_program.specs.Fits.{SiteFits}
use Rattle.bound_program.specs.Values.{BoundValue, SiteValue}
use Rattle.run_model.specs.Arguments.{no_arg}
use Rattle.run_model.specs.Programs.{item_at, loop_of}
use Rattle.run_model.specs.Windows.{reached, cell_in}
use Rattle.run_model.specs.Laws as the
use Rattle.bound_plan.specs.Laws.{FramesAreReached}
use Rattle.bound_plan.specs.Places.{original_at, cell_at}
use Rattle.bound_plan.proofs.Public.{class_is}
use Rattle.kernel_runs.specs.Ways.{local_in}
use Rattle.kernel_runs.specs.declared.row_batches.batch_tables.args.LocalArg.{LocalArg}
use Rattle.kernel_runs.specs.Alike.{arg_in, same_column}
use Rattle.kernel_runs.specs.Tables.{local_at}
use Rattle.rank_layout.specs.DatWindows.{local_by, ArgHere}
use Rattle.rank_layout.specs.StepLaws.{IsBegin, StepsStand}
use Rattle.rank_layout.specs.WindowLaws.{arg_span, IsPlaceOf, ArgsAreHere, ArgsHaveCells, ElementWindowsStand}
use Rattle.rank_program.specs.declared.program.DistributedProgram.{DistributedProgram}
use Rattle.rank_program.specs.declared.local_loops.LocalLoop.{LocalLoop}
use Rattle.rank_program.specs.Batches.{BeginsAt}
use Rattle.rank_program.specs.LocalArgs.{IsArg}
use Rattle.rank_program.specs.LocalLoops.{IsLocalLoop}
use Rattle.rank_program.specs.Sound.{Sound, program_in, plan_in}
use Rattle.rank_program.proofs.BegunParts.{begins}
use Rattle.rank_program.proofs.HereParts.{site_fits}
use Rattle.rank_program.proofs.RowArgs.{are_same_column}
use Rattle.rank_program.proofs.ArgPlaces.{local_is, dat_local}
use Rattle.rank_program.proofs.RowWays.{IsOn, AreOn}

one_cell : (c d : DatCell) → Data c ≡ Data d → c.dat ≡ d.dat
one_cell c d h = let same : c ≡ d = cc in ap (λ (z : DatCell). z.dat) same

module _ (l : LocalLoop) (sound : Sound l.program.now) (is : IsLocalLoop l) (stand : StepsStand) (here : ArgsAreHere) (have : ArgsHaveCells)
    (windows : ElementWindowsStand) (frames : FramesAreReached) (first : ℕ) (step : BeginsAt l first) where
  abbrev c : DistributedProgram
  c = l.program.now

  abbrev b : BoundValue
  b = program_in c

  abbrev site : SiteValue
  site = the.site_of b l.item

  abbrev m : RankMesh
  m = l.part.now

  abbrev args : List Arg
  args = site.args

  abbrev locals : List (Option LocalArg)
  locals = l.args.now

  abbrev base_of : ℕ → ℕ
  base_of d = slice_index m.bases.items d

  abbrev dim_of : ℕ → ℕ
  dim_of d = dat_dim b.mesh d

  abbrev reach : ℕ → Option Via → ℕ
  reach x v = local_by b.mesh m x v

  pub begun : (x : ℕ) → BeginsAt l x → IsBegin b c.owners.now c.meshes.now (plan_in c) l.item l.rank x
  begun x at = begins c sound stand l.item l.rank x at

  at_place : (x : ℕ) → BeginsAt l x → IsPlaceOf b c.owners.now c.meshes.now (loop_of (item_at b l.item)) l.rank x m
  at_place x at = let begin = begun x at in record { loop = begin.loop; rank = begin.rank; place = begin.executed; part = is.part }

  pub fits : SiteFits b site
  fits = site_fits c sound stand l.item l.rank first step

  pub arg_is : (a : ℕ) → a < length args → IsArg b.mesh m (arg_in args a) (local_at args locals a)
  arg_is a lt = is.args.1 a no_arg None lt

  arg_here : (x : ℕ) → BeginsAt l x → (a : ℕ) → a < length args → ArgHere b.mesh m x (arg_in args a)
  arg_here x at a lt = here b c.owners.now sound.numbers c.meshes.now (plan_in c) sound.planned (loop_of (item_at b l.item)) l.rank x m (at_place x at) a no_arg lt

  pub on_arg : (a : ℕ) (y : LocalArg) → a < length args → local_at args locals a ≡ Some y → IsOn args locals (BeginsAt l) m.cells base_of dim_of reach a y
  on_arg a y lt own =
      let k = local_is b.mesh m (arg_in args a) (local_at args locals a) (arg_is a lt) y own in
      record {
        dat = k.dat;
        via = k.via;
        access = k.access;
        there = lt;
        local = own;
        is = k.is;
        base = k.base;
        dim = k.dim;
        direct = k.leads.0;
        target = λ x at. (k.leads.1 x (dat_here x at k.dat k.via k.access k.is).2).0;
        leads = λ x at. (k.leads.1 x (dat_here x at k.dat k.via k.access k.is).2).1;
        inside = λ x at.
            let h = dat_here x at k.dat k.via k.access k.is in
            let lead = (k.leads.1 x h.2).1 in
            subst (λ n. n ≤ m.cells) (sym (ap₂ (λ n d. n + d) k.base (ap₂ (λ n d. (n + 1) * d) lead k.dim))) h.3;
      }
    where
      dat_here : (x : ℕ) → BeginsAt l x → (d : ℕ) (v : Option Via) (acc : Access) → arg_in args a ≡ Dat d v acc → ArgHere b.mesh m x (Dat d v acc)
      dat_here x at d v acc e = subst (ArgHere b.mesh m x) e (arg_here x at a lt)

  -- a cell of an argument on a dat is of the dat
  cell_dat : (a : ℕ) (y : LocalArg) (p : IsOn args locals (BeginsAt l) m.cells base_of dim_of reach a y) (x i : ℕ) → BeginsAt l x → i < y.dim
      → (cell_at c.meshes.now b.mesh l.rank (y.base + local_in y.via x * y.dim + i)).dat ≡ p.dat
  cell_dat a y p x i at lt =
      let all = have b c.owners.now sound.numbers c.meshes.now (plan_in c) sound.planned (loop_of (item_at b l.item)) l.rank x m (λ z. false) (at_place x at) a no_arg p.there in
      let e = original_at c.meshes.now l.rank site.set x in
      let own : (j : ℕ) → j < (arg_span b.mesh m x (λ z. false) (Dat p.dat p.via p.access)).dim
      → Data (cell_at c.meshes.now b.mesh l.rank ((arg_span b.mesh m x (λ z. false) (Dat p.dat p.via p.access)).at + j)) ≡ cell_in (reached b e (Dat p.dat p.via p.access)) j
      = subst (λ z. (j : ℕ) → j < (arg_span b.mesh m x (λ w. false) z).dim
      → Data (cell_at c.meshes.now b.mesh l.rank ((arg_span b.mesh m x (λ w. false) z).at + j)) ≡ cell_in (reached b e z) j) p.is all in
      let at_cell : y.base + local_in y.via x * y.dim ≡ base_of p.dat + reach x p.via * dim_of p.dat =
      ap₂ (λ n d. n + d) p.base (ap₂ (λ n d. n * d) (p.leads x at) p.dim) in
      ap (λ n. (cell_at c.meshes.now b.mesh l.rank (n + i)).dat) at_cell
      ∙ one_cell (cell_at c.meshes.now b.mesh l.rank (base_of p.dat + reach x p.via * dim_of p.dat + i)) _ (own i (let d = p.dim in omega (arith, lt, d)))

  pub are_on : AreOn args locals (BeginsAt l) m.cells base_of dim_of reach
  are_on = record {
    on = on_arg;
    local = λ a d v acc lt e. dat_local b.mesh m (arg_in args a) (local_at args locals a) (arg_is a lt) d v acc e;
    one_dat = λ p q y z o r x u i j atx atu li lj same.
        sym (cell_dat p y o x i atx li) ∙ ap (λ n. (cell_at c.meshes.now b.mesh l.rank n).dat) same ∙ cell_dat q z r u j atu lj;
    free = sym fits.class ∙ class_is b None b.trace l.item sound.planned.fits.items (begun first step).free;
  }

  -- what the makers of columns ask of the arguments, as they are read
  module _ (xs : List Arg) (read : xs ≡ args) where
    pub cells_count : m.cells < 2 ^ 64 → (a : ℕ) → a < length xs → IfSome (get_or locals a None) (λ y. y.base + y.dim < 2 ^ 64)
    cells_count small a lt = by (get_or locals a None) refl
      where
        la : a < length args
        la = let same = ap length read in omega (arith, lt, same)

        by : (o : Option LocalArg) → get_or locals a None ≡ o → IfSome o (λ y. y.base + y.dim < 2 ^ 64)
        by None e = tt
        by (Some y) e =
            let inside = (on_arg a y la e).inside first step in
            let next : local_in y.via first + 1 ≡ suc (local_in y.via first) = omega arith in
            let product : (local_in y.via first + 1) * y.dim ≡ local_in y.via first * y.dim + y.dim = ap (λ n. n * y.dim) next ∙ suc-mul (local_in y.via first) y.dim in
            omega (arith, inside, product, small)

    pub dats_are : (a : ℕ) → a < length xs → IfSome (get_or locals a None) (λ y. same_column (arg_in xs a) (arg_in xs a) ≡ true)
    dats_are a lt = by (get_or locals a None) refl
      where
        la : a < length args
        la = let same = ap length read in omega (arith, lt, same)

        by : (o : Option LocalArg) → get_or locals a None ≡ o → IfSome o (λ y. same_column (arg_in xs a) (arg_in xs a) ≡ true)
        by None e = tt
        by (Some y) e =
            let p = on_arg a y la e in
            let is_arg = ap (λ zs. arg_in zs a) read ∙ p.is in
            are_same_column (arg_in xs a) (arg_in xs a) p.dat p.dat p.via p.via p.access p.access is_arg is_arg refl refl
