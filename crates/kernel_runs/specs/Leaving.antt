-- Which kernels leave the cells of spans that aren't written.
use Rattle.std.specs.Prelude.{◌≡◌, ◌<◌, ◌+◌, ℕ, ℤ, false, List}
use Rattle.op_num.specs.Access.{OpRead}
use Rattle.kernel_model.specs.declared.types.kernels.RKernel.{RKernel}
use Rattle.kernel_model.specs.Meaning.{Target, target_at}
use Rattle.kernel_model.specs.Obeys.{Mode, mode_at, KernelObeys}
use Rattle.kernel_model.specs.StoredThrough.{stores_through}
use Rattle.rank_state.specs.declared.spans.Span.{Span}
use Rattle.rank_state.specs.Spans.{total}
use Rattle.kernel_runs.specs.Standing.{is_written}
use Rattle.kernel_runs.specs.InPlace.{LeavesUnwritten}

-- the targets name cells of the windows
abbrev pub InWindows : List Span → List Target → Type 0
InWindows spans ts =
    (a i : ℕ) → i < (target_at ts a).count → ((target_at ts a).array ≡ 0) × ((target_at ts a).from + i < total spans)

-- those that obey their modes, where the arguments in such spans are OP_READ
abbrev pub ObeyingLeave : Type 0
ObeyingLeave =
    (k : RKernel) (modes : List Mode) (consts : List ℤ) (spans : List Span) (ts : List Target)
    → InWindows spans ts → KernelObeys k modes
    → ((a i : ℕ)
    → i < (target_at ts a).count → is_written spans ((target_at ts a).from + i) ≡ false → (mode_at modes a).access ≡ OpRead)
    → LeavesUnwritten spans ts consts k

-- those whose text stores nothing through the arguments in such spans
abbrev pub UnstoringLeave : Type 0
UnstoringLeave =
    (k : RKernel) (consts : List ℤ) (spans : List Span) (ts : List Target)
    → InWindows spans ts
    → ((a i : ℕ)
    → i < (target_at ts a).count → is_written spans ((target_at ts a).from + i) ≡ false → stores_through a k.body.statement ≡ false)
    → LeavesUnwritten spans ts consts k
