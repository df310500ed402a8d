-- The places in a memory at which a kernel runs as it does on windows that are gathered from it.
use Rattle.std.specs.Prelude.{◌≡◌, ◌<◌, ◌+◌, ℕ, ℤ, Bool, true, false, None, List, [], ◌∷◌, length, map, get_or}
use Rattle.kernel_model.specs.declared.types.faults.KernelFault.{KernelFault}
use Rattle.kernel_model.specs.declared.types.kernels.RKernel.{RKernel}
use Rattle.kernel_model.specs.Meaning.{Target, target_at, Finished, kernel_meaning}
use Rattle.kernel_model.specs.declared.types.views.frame.Place.{Place}
use Rattle.kernel_model.specs.Framed.{target_of}
use Rattle.schedule_model.specs.Layout.{Core}
use Rattle.run_model.specs.OnWindows.{core_of}
use Rattle.rank_state.specs.declared.spans.Span.{Span}
use Rattle.rank_state.specs.Spans.{Within, gathered}
use Rattle.rank_state.specs.Core.{fault_of}
use Rattle.rank_state.specs.Frames.{pane_after, closed}
use Rattle.kernel_runs.specs.Standing.{is_written, Apart}
use Rattle.kernel_runs.specs.InPlace.{NameTheSame, LeavesUnwritten}

-- the run on the windows that the spans gather: the windows after it, or its fault
abbrev pub core_on_gathered : RKernel → List ℤ → List ℤ → List Span → List Target → Core KernelFault
core_on_gathered k consts m spans ts = core_of (kernel_meaning ts consts k (gathered m spans ∷ []))

-- In a memory of n cells the arguments' windows, which stand at `ts` among those that the spans gather, stand at the places; and
-- what the kernel changes is in written spans, whose arguments are marked.
pub record IsHere (k : RKernel) (consts : List ℤ) (n : ℕ) (places : List Place) (marks : List Bool) (spans : List Span) (ts : List Target)
    : Type 0 where
  pub within : Within n spans
  pub apart : Apart spans
  pub same : NameTheSame spans ts (map target_of places)
  pub leaves : LeavesUnwritten spans ts consts k
  pub marked : (a i : ℕ)
      → i < (target_at ts a).count → is_written spans ((target_at ts a).from + i) ≡ true → get_or marks a false ≡ true

-- where the kernel finishes on the memory, however it was run, its run on the windows has no fault, and the memory has what that leaves of
-- the written spans
abbrev pub FinishesHere : Type 0
FinishesHere =
    (k : RKernel) (consts memory memory' : List ℤ) (places : List Place) (marks : List Bool) (spans : List Span) (ts : List Target)
    → IsHere k consts (length memory) places marks spans ts
    → kernel_meaning (map target_of places) consts k (memory ∷ []) ≡ Finished (memory' ∷ [])
    → (None ≡ fault_of (core_on_gathered k consts memory spans ts))
    × ((item : ℕ) → memory' ≡ closed spans (pane_after item (core_on_gathered k consts memory spans ts)) memory)
