-- The run of an element of a loop on its rank's own cells.
use Rattle.std.specs.Prelude.{◌==◌}
use Rattle.std.proofs.Common.{◌≡◌, ◌≤◌, ◌+◌, ◌-◌, ◌++◌, ℕ, ℤ, true, List, All, map, take, drop, length, Option, sym, ap, ap₂, ◌∙◌, subst, arith}
use Rattle.std.proofs.lemmas.List.{length-map, length-take-le, length-drop, take_all}
use Rattle.kernel_model.specs.declared.types.faults.KernelFault.{KernelFault}
use Rattle.kernel_model.specs.declared.types.kernels.RKernel.{RKernel}
use Rattle.kernel_model.specs.Meaning.{Target}
use Rattle.kernel_model.specs.declared.types.views.frame.Place.{Place}
use Rattle.kernel_model.specs.Framed.{PlacesIn, target_of}
use Rattle.kernel_model.specs.Law.{StopsUnchanged, UnchangedAfterFaults}
use Rattle.local_mesh.specs.declared.types.RankMesh.{RankMesh}
use Rattle.schedule_steps.specs.declared.step.Step.TheVariants.{Begin}
use Rattle.schedule_steps.specs.Steps.{IsStep}
use Rattle.schedule_model.specs.Sequential.{Stop}
use Rattle.schedule_model.specs.Layout.{by_place}
use Rattle.bound_program.specs.Values.{BoundValue, SiteValue}
use Rattle.run_model.specs.Laws as the
use Rattle.bound_plan.specs.Laws.{FramesAreReached}
use Rattle.bound_plan.specs.Windows.{frame_windows}
use Rattle.rank_state.specs.declared.spans.Span.{Span}
use Rattle.rank_state.specs.Windows.{firsts}
use Rattle.rank_state.specs.Core.{fault_of}
use Rattle.rank_state.specs.Frames.{pane_after, closed}
use Rattle.rank_state.specs.Machine.{noted}
use Rattle.rank_state.specs.Shows.{AreWindows}
use Rattle.rank_program.specs.AloneRuns.{RunsAt}
use Rattle.kernel_runs.specs.Saving.{place_cells}
use Rattle.kernel_runs.specs.Here.{IsHere, core_on_gathered}
use Rattle.rank_program.specs.declared.program.DistributedProgram.{DistributedProgram}
use Rattle.rank_program.specs.declared.local_loops.LocalLoop.{LocalLoop}
use Rattle.rank_program.specs.Here.{arg_place, scalars_in, merged_after}
use Rattle.rank_program.specs.LocalArgs.{InBuffer, places_in}
use Rattle.rank_program.specs.LocalLoops.{IsLocalLoop, VariablesStand}
use Rattle.rank_program.specs.Sound.{Sound, program_in, setup_in, layout_in, tables_in}
use Rattle.rank_layout.specs.StepLaws.{StepsStand}
use Rattle.rank_layout.specs.WindowLaws.{ArgsAreHere, ArgsHaveCells, ElementWindowsStand}
use Rattle.rank_program.proofs.LocalArgs.{all_again}
use Rattle.rank_program.proofs.Tails.{scalar_spans}
use Rattle.rank_program.proofs.HereParts.{dat_spans, windows_here, places_are, locals_fit, places_fit, places_few, stops_unchanged, is_here}
use Rattle.rank_program.proofs.ElementRuns.{runs_at}

module _ (l : LocalLoop) (sound : Sound l.program.now) (is : IsLocalLoop l) (stand : StepsStand) (x : ℕ)
    (step : IsStep (by_place (setup_in l.program.now) (layout_in l.program.now)) (Begin l.item l.rank x)) (here : ArgsAreHere) where
  abbrev c : DistributedProgram
  c = l.program.now

  abbrev b : BoundValue
  b = program_in c

  abbrev site : SiteValue
  site = the.site_of b l.item

  abbrev m : RankMesh
  m = l.part.now

  abbrev w : ℕ
  w = m.cells

  abbrev f : RKernel
  f = l.code.now.kernel.now

  pub locals_here : All (InBuffer x w) l.args.now
  locals_here = locals_fit c sound stand l.item l.rank x step m is.part here l.args.now is.args

  -- the places that are put down for it
  module _ (cells places : List Place) (at : VariablesStand l cells) (put : places ≡ places_in x l.args.now cells) where
    placed : places ≡ map (λ y. arg_place b.mesh m x (at.at y) y) site.args
    placed = places_are c sound stand l.item l.rank x step m is.part here at.at l.args.now is.args cells places put (at.are x)

    counted : length places ≡ length site.args
    counted = ap length placed ∙ length-map site.args _

    -- those of variables stand as before
    pub still_stand : VariablesStand l places
    still_stand = record {
      at = at.at;
      behind = at.behind;
      are = λ y. ap (places_in y l.args.now) put ∙ all_again x y l.args.now cells ∙ at.are y;
      count = counted ∙ sym is.args.0;
    }

    pub few_cells : place_cells places ≤ 1024
    few_cells = places_few c sound stand l.item l.rank x step m is.part here at.at at.behind places placed

    pub unchanged : UnchangedAfterFaults → l.clean ≡ true → StopsUnchanged f (map target_of places) l.constants.now
    unchanged law holds = stops_unchanged c sound stand l.item l.rank x step m is.part here at.at at.behind law f (is.clean holds) places placed l.constants.now

    module _ (n : ℕ) (long : n ≡ w + length l.scalars.now) where
      memory_long : n ≡ (layout_in c).width l.rank + length (scalars_in c l.item)
      memory_long = long ∙ ap₂ (λ i j. i + j) is.width (ap length is.scalars)

      pub inside : PlacesIn n places
      inside = places_fit c sound stand l.item l.rank x step m is.part here at.at at.behind n memory_long places placed

    -- its run on these cells and the first values of the variables
    module _ (windows : ElementWindowsStand) (frames : FramesAreReached) (have : ArgsHaveCells)
        (old filled new : List ℤ) (long : length old ≡ w + length l.scalars.now) (same : length filled ≡ length old)
        (fill : take (w + length l.scalars.now) filled ≡ take w old ++ firsts l.variables.now l.scalars.now)
        (fault : Option KernelFault)
        (stopped : (spans : List Span) (ts : List Target) → IsHere f l.constants.now (length filled) places l.marks.now spans ts
        → fault ≡ fault_of (core_on_gathered f l.constants.now filled spans ts))
        (left : (spans : List Span) (ts : List Target) → IsHere f l.constants.now (length filled) places l.marks.now spans ts
        → (item : ℕ) → new ≡ closed spans (pane_after item (core_on_gathered f l.constants.now filled spans ts)) filled)
        (partials merged : List ℤ)
        (merge : merged ≡ merged_after fault ((setup_in c).owner ((setup_in c).program.set l.item) ((layout_in c).original l.item l.rank x) == l.rank)
        l.scalars.now (take (length new - w) (drop w new)) partials)
        (before after : Option (Stop KernelFault)) (note : after ≡ noted l.item ((layout_in c).original l.item l.rank x) fault before) where
      abbrev spans : List Span
      spans = dat_spans c sound stand l.item l.rank x step m

      abbrev every : List Span
      every = spans ++ scalar_spans ((layout_in c).width l.rank) (scalars_in c l.item)

      abbrev ts : List Target
      ts = frame_windows b site.args ((layout_in c).original l.item l.rank x)

      are : AreWindows (setup_in c) (layout_in c) (tables_in c) l.item l.rank x spans (scalars_in c l.item)
      are = windows_here c sound stand l.item l.rank x step windows m is.part

      stands : IsHere f l.constants.now (length filled) places l.marks.now every ts
      stands =
          is_here c sound stand l.item l.rank x step m is.part here at.at at.behind frames have spans are f is.kernel l.constants.now (length filled)
          (memory_long (length filled) (same ∙ long)) places placed l.marks.now is.marks

      filled_is : filled ≡ take w old ++ firsts l.variables.now (scalars_in c l.item)
      filled_is =
          sym (take_all (w + length l.scalars.now) filled (omega (arith, same, long))) ∙ fill
          ∙ ap (λ xs. take w old ++ firsts l.variables.now xs) is.scalars

      tail : take (length new - w) (drop w new) ≡ drop w new
      tail = take_all (length new - w) (drop w new) (let count = length-drop w new in omega (arith, count))

      wide : length (take w old) ≡ (layout_in c).width l.rank
      wide = length-take-le w old (omega (arith, long)) ∙ is.width

      ran : RunsAt (setup_in c) (layout_in c) (tables_in c) l.item l.rank l.constants.now l.variables.now x
          (record { cells = take w old; partials = partials; fault = before }) (record { cells = take ((layout_in c).width l.rank) new; partials = merged; fault = after })
      ran =
          runs_at c sound stand l.item l.rank x step spans are l.constants.now l.variables.now (take w old) wide f is.kernel new
          (left every ts stands l.item ∙ ap (λ z. closed every (pane_after l.item (core_on_gathered f l.constants.now z every ts)) z) filled_is)
          fault (stopped every ts stands ∙ ap (λ z. fault_of (core_on_gathered f l.constants.now z every ts)) filled_is)
          partials merged
          (merge ∙ ap₂ (λ xs ws. merged_after fault ((setup_in c).owner ((setup_in c).program.set l.item) ((layout_in c).original l.item l.rank x) == l.rank) xs ws partials) is.scalars
          (tail ∙ ap (λ n. drop n new) is.width))
          before after note

      pub element_runs : RunsAt (setup_in c) (layout_in c) (tables_in c) l.item l.rank l.constants.now l.variables.now x
          (record { cells = take w old; partials = partials; fault = before }) (record { cells = take w new; partials = merged; fault = after })
      element_runs =
          subst (λ n. RunsAt (setup_in c) (layout_in c) (tables_in c) l.item l.rank l.constants.now l.variables.now x
          (record { cells = take w old; partials = partials; fault = before }) (record { cells = take n new; partials = merged; fault = after })) (sym is.width) ran
