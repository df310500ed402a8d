use Rattle.std.proofs.Common.{◌≡◌, ◌<◌, ℕ, length, get_or}
use Rattle.step_judge.specs.Ranked.{Point}
use Rattle.step_judge.proofs.marks.colour_ranks.ranked.Given as goal

abbrev pub invariant-loop-colour : goal.invariant-loop-colour
invariant-loop-colour l = record { size : length l.of.items ≡ l.colour-index; points : (i : ℕ) → i < l.colour-index → Point l.sorted.items (get_or l.colours i 0) (get_or l.of.items i 0) }
