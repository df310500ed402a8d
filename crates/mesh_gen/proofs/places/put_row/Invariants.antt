use Rattle.std.proofs.Common.{◌≡◌, ◌++◌}
use Rattle.std.specs.List.{flat_map}
use Rattle.mesh_gen.specs.Grid.{below}
use Rattle.mesh_gen.specs.Places.{at}
use Rattle.mesh_gen.proofs.places.put_row.Given as goal

abbrev pub invariant-loop-i : goal.invariant-loop-i
invariant-loop-i l = l.values.items ≡ l.fn.values.items ++ flat_map (λ i. at l.pattern l.n i l.j) (below l.i)
