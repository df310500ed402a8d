use Rattle.rank_layout.specs.First.{rank_values}
use Rattle.rank_layout.proofs.FirstCells.{pushed}
use Rattle.rank_layout.proofs.first.rank_cells.Goals as goal

pub loop-dat-preserved : goal.loop-dat-preserved
loop-dat-preserved c =
    pushed (rank_values c.args.mesh.now c.args.part.now) c.loop-dat.dat c.loop-dat.cells.items c.push_dat.new.cells.items c.loop-dat.invariant c.in_ok-push_dat.ensures
