use Rattle.std.proofs.Common.{◌≡◌, ◌≤◌, ◌||◌, ℕ}
use Rattle.access_check.specs.Indices.{names_of, expr_names}
use Rattle.access_check.proofs.Sizes.{size}
use Rattle.access_check.proofs.indices.+notes.Given as goal

abbrev pub decreases-note_names : goal.decreases-note_names
decreases-note_names l = size l.e.now

abbrev pub invariant-loop-rest : goal.invariant-loop-rest
invariant-loop-rest l = record {
  kept : (k : ℕ) → (expr_names l.of_index l.rest k || names_of l.named k) ≡ (expr_names l.is_index l.fn.e k || names_of l.initial.named k);
  no_larger : size l.rest ≤ size l.fn.e;
}

abbrev pub decreases-loop-rest : goal.decreases-loop-rest
decreases-loop-rest l = size l.rest
