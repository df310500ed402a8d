-- The arguments of a loop on variables: where they stand behind the cells of a rank.
use Rattle.std.proofs.Common.{◌≡◌, ◌<◌, ◌≤◌, ◌+◌, ◌-◌, ℕ, List, [], map, length, get_or, Option, None, sym, ap, ◌∙◌, subst, arith}
use Rattle.std.specs.Prelude.{◌^◌}
use Rattle.std.proofs.lemmas.List.{get_or-map, length-map}
use Rattle.op_num.specs.declared.reductions.access.Access.{Access}
use Rattle.kernel_model.specs.declared.types.views.frame.Place.{Place}
use Rattle.kernel_model.specs.Framed.{no_place}
use Rattle.schedule_model.specs.Cells.{Cell, Variable}
use Rattle.run_model.specs.OnWindows.{no_cell}
use Rattle.local_mesh.specs.declared.types.RankMesh.{RankMesh}
use Rattle.bound_program.specs.declared.sites.Arg.{Arg}
use Rattle.bound_program.specs.declared.sites.Arg.TheVariants.{Global}
use Rattle.bound_program.specs.Values.{BoundValue, SiteValue}
use Rattle.run_model.specs.Arguments.{no_arg, var_width}
use Rattle.run_model.specs.Laws as the
use Rattle.bound_plan.specs.Laws.{FramesAreReached}
use Rattle.bound_plan.specs.Places.{cell_at}
use Rattle.bound_plan.specs.Variables.{variable_at}
use Rattle.rank_state.specs.Windows.{scalar_cells}
use Rattle.kernel_runs.specs.declared.row_batches.batch_tables.args.LocalArg.{LocalArg}
use Rattle.kernel_runs.specs.Alike.{arg_in}
use Rattle.kernel_runs.specs.Tables.{place_at, local_at}
use Rattle.rank_layout.specs.StepLaws.{StepsStand}
use Rattle.rank_layout.specs.WindowLaws.{ArgsAreHere, ArgsHaveCells, ElementWindowsStand}
use Rattle.rank_program.specs.declared.program.DistributedProgram.{DistributedProgram}
use Rattle.rank_program.specs.declared.local_loops.LocalLoop.{LocalLoop}
use Rattle.rank_program.specs.Batches.{BeginsAt}
use Rattle.rank_program.specs.Here.{scalars_in}
use Rattle.rank_program.specs.LocalArgs.{IsArg, place_in}
use Rattle.rank_program.specs.LocalLoops.{IsLocalLoop, VariablesStand, StandsBehind}
use Rattle.rank_program.specs.Sound.{Sound, program_in, layout_in}
use Rattle.rank_program.proofs.Behind.{scalars_count}
use Rattle.rank_program.proofs.ArgPlaces.{put_at, global_is}
use Rattle.rank_program.proofs.LoopArgs as its

module _ (l : LocalLoop) (sound : Sound l.program.now) (is : IsLocalLoop l) (stand : StepsStand) (here : ArgsAreHere) (have : ArgsHaveCells)
    (windows : ElementWindowsStand) (frames : FramesAreReached) (first : ℕ) (step : BeginsAt l first) where
  abbrev c : DistributedProgram
  c = l.program.now

  abbrev b : BoundValue
  b = program_in c

  abbrev site : SiteValue
  site = the.site_of b l.item

  abbrev m : RankMesh
  m = l.part.now

  abbrev args : List Arg
  args = site.args

  abbrev locals : List (Option LocalArg)
  locals = l.args.now

  arg_is : (a : ℕ) → a < length args → IsArg b.mesh m (arg_in args a) (local_at args locals a)
  arg_is = its.arg_is l sound is stand here have windows frames first step

  module _ (cells : List Place) (at : VariablesStand l cells) where
    -- the cells of all its scalars
    abbrev pub vs : List Cell
    vs = scalar_cells (variable_at b) (scalars_in c l.item)

    -- where an argument on a variable stands
    pub record BehindAt (a : ℕ) : Type 0 where
      pub variable : ℕ
      pub access : Access
      pub named : arg_in args a ≡ Global variable access
      pub number : ℕ
      pub from : (place_at cells a).from ≡ m.cells + number
      pub count : (place_at cells a).count ≡ var_width b variable
      pub few : number + var_width b variable ≤ length vs
      pub has : (j : ℕ) → j < var_width b variable → get_or vs (number + j) no_cell ≡ Variable (record { variable = variable; component = j })

    stands_there : (a : ℕ) → a < length args → local_at args locals a ≡ None → place_at cells a ≡ at.at (arg_in args a)
    stands_there a lt none =
        let long = at.count in
        sym (put_at 0 locals cells a long ∙ ap (λ z. place_in 0 z (place_at cells a)) none)
        ∙ ap (λ ps. place_at ps a) (at.are 0)
        ∙ put_at 0 locals (map at.at args) a (length-map args at.at ∙ sym is.args.0) ∙ ap (λ z. place_in 0 z (place_at (map at.at args) a)) none
        ∙ get_or-map at.at args a no_arg no_place lt

    behind_all : (a : ℕ) (x : Arg) → a < length args → arg_in args a ≡ x → StandsBehind b ((layout_in c).width l.rank) vs (at.at x) x
    behind_all a x lt e = subst (λ z. StandsBehind b ((layout_in c).width l.rank) vs (at.at z) z) e (at.behind a no_arg lt)

    pub behind : (a : ℕ) → a < length args → local_at args locals a ≡ None → BehindAt a
    behind a lt none =
        let g = global_is b.mesh m (arg_in args a) (local_at args locals a) (arg_is a lt) none in
        let s = behind_all a (Global g.0 g.1) lt g.2 in
        let there : place_at cells a ≡ at.at (Global g.0 g.1) = stands_there a lt none ∙ ap at.at g.2 in
        record {
          variable = g.0;
          access = g.1;
          named = g.2;
          number = s.0;
          from = ap (λ (p : Place). p.from) there ∙ s.1 ∙ ap (λ n. n + s.0) (sym is.width);
          count = ap (λ (p : Place). p.count) there ∙ s.2;
          few = (let fit = s.3 in let count = s.2 in omega (arith, fit, count));
          has = λ j lj. s.4 j (let count = s.2 in omega (arith, lj, count));
        }

    pub vs_long : length vs ≡ length l.scalars.now
    vs_long = scalars_count (cell_at c.meshes.now b.mesh l.rank) [] (variable_at b) (scalars_in c l.item) ∙ ap length (sym is.scalars)

    -- as many cells as columns and scalars
    pub scalars_count_fits : (count : ℕ) → count + length l.scalars.now ≤ 128 → (a : ℕ) → a < length locals → get_or locals a None ≡ None
        → count + ((place_at cells a).from - m.cells) < 2 ^ 64
    scalars_count_fits count few a lt none =
        let s = behind a (let n = is.args.0 in omega (arith, n, lt)) none in
        let from = s.from in
        let room = s.few in
        let v = vs_long in
        omega (arith, few, from, room, v)
