use Rattle.std.proofs.Common.{length}
use Rattle.mesh_draw.proofs.fields.NumberLines.{ArePassed}
use Rattle.mesh_draw.proofs.fields.numbers.other_line.Given as goal

-- the lines that were taken have so many numbers
abbrev pub invariant-loop-lines : goal.invariant-loop-lines
invariant-loop-lines l = ArePassed l.dim l.text l.lines

abbrev pub decreases-loop-lines : goal.decreases-loop-lines
decreases-loop-lines l = length l.lines.rest
