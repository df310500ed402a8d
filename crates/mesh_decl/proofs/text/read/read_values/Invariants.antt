use Rattle.std.proofs.Common.{◌≡◌, ◌+◌, ◌≤◌, ℕ, List, [], length}
use Rattle.mesh_decl.specs.Spelling.{Named}
use Rattle.mesh_decl.specs.Reading.{filled, run_from}
use Rattle.mesh_decl.proofs.text.read.read_values.Given as goal

abbrev pub invariant-loop-left : goal.invariant-loop-left
invariant-loop-left l = record {
  runs : (es : List Named) (name : List ℕ) → run_from (filled l.form es name l.count []) l.fn.tokens ≡ run_from (filled l.form es name l.left l.values.items) l.tokens;
  size : length l.values.items + l.left ≡ l.count;
  fewer : length l.tokens.words ≤ length l.fn.tokens.words;
}

abbrev pub decreases-loop-left : goal.decreases-loop-left
decreases-loop-left l = l.left
