-- What an element's run on its rank's buffer leaves, with its loop's scalars behind it.
use Rattle.std.proofs.Common.{◌≡◌, ◌+◌, ℕ, ℤ, Bool, List, [], ◌∷◌, ◌++◌, length, take, drop, Option, Some, suc, refl, sym, ap, ap₂, ◌∙◌, subst, arith, length-append}
use Rattle.std.specs.Prelude.{◌==◌}
use Rattle.std.proofs.Math.Seq.{take-append_seam, drop-append_seam}
use Rattle.kernel_model.specs.declared.types.faults.KernelFault.{KernelFault}
use Rattle.kernel_model.specs.declared.types.kernels.RKernel.{RKernel}
use Rattle.schedule_steps.specs.declared.step.Step.TheVariants.{Begin}
use Rattle.schedule_steps.specs.Steps.{IsStep}
use Rattle.schedule_model.specs.Program.{is_loop}
use Rattle.schedule_model.specs.Sequential.{Stop}
use Rattle.schedule_model.specs.Layout.{Core, Faults, Leaves, by_place}
use Rattle.run_model.specs.Kernels.{kernel_at}
use Rattle.run_model.specs.Laws as the
use Rattle.bound_plan.specs.Windows.{frame_windows}
use Rattle.rank_state.specs.declared.spans.Span.{Span}
use Rattle.rank_state.specs.declared.scalars.Scalar.{Scalar}
use Rattle.rank_state.specs.Spans.{Within, total, cells_at, gathered}
use Rattle.rank_state.specs.Windows.{firsts}
use Rattle.rank_state.specs.Core.{fault_of}
use Rattle.rank_state.specs.Frames.{Pane, Shut, Broken, Holds, pane_after, closed}
use Rattle.rank_state.specs.Machine.{merged_pane, noted}
use Rattle.rank_state.specs.Shows.{AreWindows}
use Rattle.rank_state.proofs.Public.{windows_counted, scattered_length}
use Rattle.rank_program.specs.AloneRuns.{RunsAt}
use Rattle.kernel_runs.specs.Here.{core_on_gathered}
use Rattle.rank_program.specs.declared.program.DistributedProgram.{DistributedProgram}
use Rattle.rank_program.specs.Here.{scalars_in, merged_after}
use Rattle.rank_program.specs.Sound.{Sound, program_in, setup_in, layout_in, tables_in, core_in}
use Rattle.rank_layout.specs.StepLaws.{StepsStand}
use Rattle.rank_program.proofs.BegunParts.{begins}
use Rattle.rank_program.proofs.Tails.{scalar_spans, HasCells, tail_after, cells_length, gathered_all, closed_all}
use Rattle.rank_program.proofs.HereParts.{core_is}

pub firsts_length : (vs : List ℤ) (xs : List Scalar) → length (firsts vs xs) ≡ length xs
firsts_length vs [] = refl
firsts_length vs (x ∷ xs) = ap suc (firsts_length vs xs)

gathered_length : (m : List ℤ) (ss : List Span) → Within (length m) ss → length (gathered m ss) ≡ total ss
gathered_length m [] h = refl
gathered_length m (s ∷ ss) h =
    let both = length-append (cells_at s.at s.dim m) (gathered m ss) in
    let one = cells_length s.at s.dim m h.0 in
    let rest = gathered_length m ss h.1 in
    omega (arith, both, one, rest)

closed_length : (m : List ℤ) (ss : List Span) (n : ℕ) (p : Pane) → Within (length m) ss → HasCells (total ss + n) p → length (closed ss p m) ≡ length m
closed_length m ss n Shut h e = refl
closed_length m ss n (Broken k) h e = refl
closed_length m ss n (Holds k ws) h e = scattered_length 0 ws ss m h (omega (arith, e))

-- amounts behind the buffer are those of the windows
merged_same : (own : Bool) (k n : ℕ) (xs : List Scalar) (fs ps : List ℤ) (o : Core KernelFault)
    → merged_after (fault_of o) own xs (tail_after n (pane_after k o) fs) ps ≡ merged_pane own n xs (pane_after k o) ps
merged_same own k n xs fs ps (Faults f) = refl
merged_same own k n xs fs ps (Leaves ws) = refl

module _ (c : DistributedProgram) (sound : Sound c) (stand : StepsStand) (k r x : ℕ) (step : IsStep (by_place (setup_in c) (layout_in c)) (Begin k r x))
    (spans : List Span) (are : AreWindows (setup_in c) (layout_in c) (tables_in c) k r x spans (scalars_in c k))
    (cs vs m : List ℤ) (wide : length m ≡ (layout_in c).width r) where
  abbrev width : ℕ
  width = (layout_in c).width r

  abbrev scalars : List Scalar
  scalars = scalars_in c k

  abbrev e : ℕ
  e = (layout_in c).original k r x

  abbrev fs : List ℤ
  fs = firsts vs scalars

  abbrev all : List Span
  all = spans ++ scalar_spans width scalars

  abbrev ran : Core KernelFault
  ran = core_in c k e cs (gathered m spans ++ fs)

  within : Within (length m) spans
  within = subst (λ n. Within n spans) (sym wide) are.within

  counted : total spans + length scalars ≡ length ((layout_in c).cells k e)
  counted = windows_counted (setup_in c) (layout_in c) (tables_in c) k r x spans scalars are

  long : length (gathered m spans ++ fs) ≡ length ((layout_in c).cells k e)
  long =
      let both = length-append (gathered m spans) fs in
      let front = gathered_length m spans within in
      let rest = firsts_length vs scalars in
      let count = counted in
      omega (arith, both, front, rest, count)

  has_cells : (o : Core KernelFault) → core_in c k e cs (gathered m spans ++ fs) ≡ o → HasCells (total spans + length scalars) (pane_after k o)
  has_cells (Faults f) h = tt
  has_cells (Leaves us) h =
      let begun = begins c sound stand k r x step in
      sound.layout.same_length k e cs (gathered m spans ++ fs) us (ap is_loop begun.free) begun.element long h ∙ sym counted

  module _ (f : RKernel) (kernel : kernel_at (program_in c).kernels (the.site_of (program_in c) k).kernel ≡ Some f) where
    abbrev here : Core KernelFault
    here = core_on_gathered f cs (m ++ fs) all (frame_windows (program_in c) (the.site_of (program_in c) k).args e)

    core : here ≡ ran
    core =
        core_is c sound stand k r x step f kernel cs (m ++ fs) all
        ∙ ap (λ w. core_in c k e cs (gathered (m ++ fs) (spans ++ scalar_spans w scalars))) (sym wide)
        ∙ ap (core_in c k e cs) (gathered_all m fs spans scalars within (firsts_length vs scalars))

    module _ (new : List ℤ) (left : new ≡ closed all (pane_after k here) (m ++ fs)) where
      new_is : new ≡ closed spans (pane_after k ran) m ++ tail_after (total spans) (pane_after k ran) fs
      new_is =
          left ∙ ap (λ o. closed all (pane_after k o) (m ++ fs)) core
          ∙ ap (λ w. closed (spans ++ scalar_spans w scalars) (pane_after k ran) (m ++ fs)) (sym wide)
          ∙ closed_all m fs spans scalars (pane_after k ran) within (firsts_length vs scalars) (has_cells ran refl)

      front : length (closed spans (pane_after k ran) m) ≡ width
      front = closed_length m spans (length scalars) (pane_after k ran) within (has_cells ran refl) ∙ wide

      front_is : take width new ≡ closed spans (pane_after k ran) m
      front_is =
          ap (take width) new_is ∙ ap (λ n. take n (closed spans (pane_after k ran) m ++ tail_after (total spans) (pane_after k ran) fs)) (sym front)
          ∙ take-append_seam (closed spans (pane_after k ran) m) (tail_after (total spans) (pane_after k ran) fs)

      tail_is : drop width new ≡ tail_after (total spans) (pane_after k ran) fs
      tail_is =
          ap (drop width) new_is ∙ ap (λ n. drop n (closed spans (pane_after k ran) m ++ tail_after (total spans) (pane_after k ran) fs)) (sym front)
          ∙ drop-append_seam (closed spans (pane_after k ran) m) (tail_after (total spans) (pane_after k ran) fs)

      pub runs_at : (fault : Option KernelFault) → fault ≡ fault_of here
          → (ps qs : List ℤ) → qs ≡ merged_after fault ((setup_in c).owner ((setup_in c).program.set k) e == r) scalars (drop width new) ps
          → (before after : Option (Stop KernelFault)) → after ≡ noted k e fault before
          → RunsAt (setup_in c) (layout_in c) (tables_in c) k r cs vs x (record { cells = m; partials = ps; fault = before })
          (record { cells = take width new; partials = qs; fault = after })
      runs_at fault stopped ps qs merged before after kept = record {
        spans = spans;
        scalars = scalars;
        are = are;
        ran = ran;
        is = refl;
        cells = front_is;
        partials = merged ∙ ap₂ (λ o ws. merged_after o ((setup_in c).owner ((setup_in c).program.set k) e == r) scalars ws ps) (stopped ∙ ap fault_of core) tail_is
            ∙ merged_same ((setup_in c).owner ((setup_in c).program.set k) e == r) k (total spans) scalars fs ps ran;
        fault = kept ∙ ap (λ o. noted k e o before) (stopped ∙ ap fault_of core);
      }
