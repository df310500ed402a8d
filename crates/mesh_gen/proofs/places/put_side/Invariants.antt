use Rattle.std.proofs.Common.{◌≡◌, ◌++◌, map}
use Rattle.mesh_gen.specs.Grid.{below}
use Rattle.mesh_gen.specs.Places.{cell_along}
use Rattle.mesh_gen.proofs.places.put_side.Given as goal

abbrev pub invariant-loop-k : goal.invariant-loop-k
invariant-loop-k l = l.values.items ≡ l.fn.values.items ++ map (cell_along l.side l.n) (below l.k)
