use Rattle.std.proofs.Common.{◌≡◌, ◌+◌, ◌≤◌, drop, length}
use Rattle.rank_state.specs.Spans.{Within, total, scattered}
use Rattle.kernel_runs.specs.Saving.{place_spans}
use Rattle.kernel_runs.proofs.in_place.saving.put_back.Given as goal

abbrev pub invariant-loop-i : goal.invariant-loop-i
invariant-loop-i l = record {
  inside : Within (length l.memory) (place_spans (drop l.i l.places) (drop l.i l.marks));
  room : l.at + total (place_spans (drop l.i l.places) (drop l.i l.marks)) ≤ length l.saved;
  left : scattered l.at l.saved (place_spans (drop l.i l.places) (drop l.i l.marks)) l.memory ≡ scattered 0 l.saved (place_spans l.places l.marks) l.fn.memory;
}
