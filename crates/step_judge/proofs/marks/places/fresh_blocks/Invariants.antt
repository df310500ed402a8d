use Rattle.std.proofs.Common.{◌≡◌, ◌<◌, ◌*◌, ℕ, length, take, drop, get_or}
use Rattle.step_judge.specs.Marks.{no_marks}
use Rattle.step_judge.specs.NewRun.{IsFresh}
use Rattle.step_judge.proofs.marks.places.fresh_blocks.Given as goal

abbrev pub invariant-loop-block : goal.invariant-loop-block
invariant-loop-block l = record {
  count : length l.blocks.items ≡ l.block;
  each : (a : ℕ) → a < l.block → IsFresh (take l.size (drop (a * l.size) l.inner)) (get_or l.blocks.items a no_marks);
}
