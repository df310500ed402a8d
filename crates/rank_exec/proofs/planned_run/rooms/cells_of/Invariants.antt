use Rattle.std.proofs.Common.{◌≡◌, ◌+◌, drop}
use Rattle.rank_state.specs.Spans.{total}
use Rattle.rank_exec.proofs.planned_run.rooms.cells_of.Given as goal

abbrev pub invariant-loop-span : goal.invariant-loop-span
invariant-loop-span l = l.cells + total (drop l.span-index l.spans) ≡ total l.spans
