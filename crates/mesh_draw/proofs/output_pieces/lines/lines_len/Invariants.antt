use Rattle.std.proofs.Common.{◌≡◌, ◌<◌, ◌+◌, take, ℕ}
use Rattle.mesh_draw.specs.Lines.{lines_in}
use Rattle.mesh_draw.proofs.output_pieces.lines.lines_len.Given as goal

pub record Counted (left count before : ℕ) : Type 0 where
  pub some : 0 < left
  pub lines : before + left ≡ count

abbrev pub invariant-loop-place : goal.invariant-loop-place
invariant-loop-place l = Counted l.left l.fn.count (lines_in (take l.place l.fn.bytes))
