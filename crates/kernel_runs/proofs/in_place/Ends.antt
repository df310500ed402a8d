-- How a run in place ends, as its caller sees it.
use Rattle.std.proofs.Common.{◌≡◌, ℕ, ℤ, List, [], ◌∷◌, Some, None, Result, Ok, Err, refl, ap, ◌∙◌}
use Rattle.std.specs.Result.{result_err}
use Rattle.std.specs.Prelude.{slice_index_or}
use Rattle.kernel_model.specs.declared.types.faults.KernelFault.{KernelFault}
use Rattle.kernel_model.specs.Meaning.{Target, Ran, Finished, Stopped, ran_of}
use Rattle.run_model.specs.OnWindows.{core_of}
use Rattle.rank_state.specs.declared.spans.Span.{Span}
use Rattle.rank_state.specs.Spans.{scattered}
use Rattle.rank_state.specs.Core.{fault_of}
use Rattle.rank_state.specs.Frames.{pane_after, closed}
use Rattle.kernel_runs.specs.InPlace.{AreSpared, EndsInPlace}

module _ (spans : List Span) (ts us : List Target) (old new : List ℤ) where
  pub finished_alone : (y : Ran) → EndsInPlace spans ts us old (Finished (new ∷ [])) y → None ≡ fault_of (core_of y)
  finished_alone (Finished t) e = refl
  finished_alone (Stopped t g) e = absurd e

  pub finished_leaves : (item : ℕ) (y : Ran) → EndsInPlace spans ts us old (Finished (new ∷ [])) y → new ≡ closed spans (pane_after item (core_of y)) old
  finished_leaves item (Finished t) e = let h : new ≡ scattered 0 (slice_index_or t 0 []) spans old = cc in h
  finished_leaves item (Stopped t g) e = absurd e

  pub stopped_faults : (f : KernelFault) (y : Ran) → EndsInPlace spans ts us old (Stopped (new ∷ []) f) y → Some f ≡ fault_of (core_of y)
  stopped_faults f (Finished t) e = absurd e
  stopped_faults f (Stopped t g) e = ap Some e.0

  pub stopped_spares : (f : KernelFault) (y : Ran) → EndsInPlace spans ts us old (Stopped (new ∷ []) f) y → AreSpared spans ts us old new
  stopped_spares f (Finished t) e = absurd e
  stopped_spares f (Stopped t g) e = e.1

  pub stopped_leaves : (item : ℕ) (f : KernelFault) (y : Ran) → EndsInPlace spans ts us old (Stopped (new ∷ []) f) y → old ≡ closed spans (pane_after item (core_of y)) old
  stopped_leaves item f (Finished t) e = absurd e
  stopped_leaves item f (Stopped t g) e = refl

  -- ---- a kernel that leaves the memory as it was where it faults

  pub ended_faults : {A : Type 0} → (r : Result A KernelFault) (y : Ran) → EndsInPlace spans ts us old (ran_of (new ∷ []) r) y → result_err r ≡ fault_of (core_of y)
  ended_faults (Ok x) y e = finished_alone y e
  ended_faults (Err f) y e = stopped_faults f y e

  pub ended_leaves : {A : Type 0} → (item : ℕ) (r : Result A KernelFault) (y : Ran)
      → ((f : KernelFault) → ran_of (new ∷ []) r ≡ Stopped (new ∷ []) f → new ≡ old) → EndsInPlace spans ts us old (ran_of (new ∷ []) r) y
      → new ≡ closed spans (pane_after item (core_of y)) old
  ended_leaves item (Ok x) y h e = finished_leaves item y e
  ended_leaves item (Err f) y h e = h f refl ∙ stopped_leaves item f y e
