use Rattle.std.proofs.Common.{◌≡◌, flat_map}
use Rattle.run_model.specs.Windows.{numbers}
use Rattle.rank_layout.specs.First.{rank_values}
use Rattle.rank_layout.proofs.first.rank_cells.Given as goal

abbrev pub invariant-loop-dat : goal.invariant-loop-dat
invariant-loop-dat l = l.cells.items ≡ flat_map (rank_values l.mesh l.part) (numbers l.dat)
