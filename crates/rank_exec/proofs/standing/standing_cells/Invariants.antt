use Rattle.rank_exec.specs.Standing.{StandOn}
use Rattle.rank_program.specs.Sound.{program_in, setup_in, layout_in}
use Rattle.rank_exec.proofs.standing.standing_cells.Given as goal

abbrev pub invariant-loop-element : goal.invariant-loop-element
invariant-loop-element l = StandOn (program_in l.program) (setup_in l.program) (layout_in l.program) l.dat l.element l.cells
