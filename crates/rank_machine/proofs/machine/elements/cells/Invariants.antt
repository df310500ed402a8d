use Rattle.std.proofs.Common.{◌≡◌, ◌+◌, drop}
use Rattle.rank_state.specs.Spans.{total}
use Rattle.rank_machine.proofs.machine.elements.cells.Given as goal

abbrev pub invariant-loop-span : goal.invariant-loop-span
invariant-loop-span l = l.count + total (drop l.span-index l.spans) ≡ total l.spans
