-- Kernels that leave the cells of OP_READ arguments, as runs on a rank's own cells ask of them.
use Rattle.std.specs.Prelude.{◌≡◌, ◌<◌, ◌+◌, ℕ, ℤ, false, List, length, Some}
use Rattle.op_num.specs.Access.{OpRead}
use Rattle.kernel_model.specs.declared.types.kernels.RKernel.{RKernel}
use Rattle.kernel_model.specs.Meaning.{Target, target_at}
use Rattle.kernel_model.specs.Obeys.{Mode, mode_at}
use Rattle.bound_program.specs.Values.{BoundValue}
use Rattle.run_model.specs.Kernels.{kernel_at}
use Rattle.run_model.specs.Arguments.{modes_of}
use Rattle.run_model.specs.Laws.{site_of}
use Rattle.run_model.specs.Programs.{item_at, loop_of}
use Rattle.rank_state.specs.declared.spans.Span.{Span}
use Rattle.kernel_runs.specs.InPlace.{LeavesUnwritten}
use Rattle.kernel_runs.specs.Leaving.{InWindows}
use Rattle.kernel_runs.specs.Standing.{is_written}

-- where the arguments in spans that aren't written are OP_READ, the kernel leaves the cells of these spans
abbrev pub KeepsReads : RKernel → List Mode → Type 0
KeepsReads k modes =
    (consts : List ℤ) (spans : List Span) (ts : List Target)
    → InWindows spans ts
    → ((a i : ℕ)
    → i < (target_at ts a).count → is_written spans ((target_at ts a).from + i) ≡ false → (mode_at modes a).access ≡ OpRead)
    → LeavesUnwritten spans ts consts k

-- so does the kernel of the item's loop, where the item has one
abbrev pub KeepsIn : BoundValue → ℕ → Type 0
KeepsIn b k =
    (f : RKernel)
    → loop_of (item_at b k) < length b.sites
    → kernel_at b.kernels (site_of b k).kernel ≡ Some f
    → KeepsReads f (modes_of b (site_of b k))
