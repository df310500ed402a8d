use Rattle.std.proofs.Common.{◌≡◌, ◌≤◌, [], length, take, vec_capacity}
use Rattle.bound_program.specs.Classes.{modifies}
use Rattle.rank_layout.specs.DatWindows.{spans_after}
use Rattle.rank_layout.specs.WindowLaws.{arg_span}
use Rattle.rank_layout.proofs.element_windows.push_local_windows.Given as goal

abbrev pub invariant-loop-i : goal.invariant-loop-i
invariant-loop-i l =
    (l.spans.items ≡ spans_after (arg_span l.mesh l.part l.place (modifies l.args)) (take l.i l.args) [])
    × (length l.spans.items ≤ l.i) × (vec_capacity l.spans ≡ vec_capacity l.fn.spans)
