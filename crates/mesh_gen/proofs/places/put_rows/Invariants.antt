use Rattle.std.proofs.Common.{◌≡◌, ◌++◌}
use Rattle.mesh_gen.specs.Grid.{in_rows}
use Rattle.mesh_gen.specs.Places.{at}
use Rattle.mesh_gen.proofs.places.put_rows.Given as goal

abbrev pub invariant-loop-j : goal.invariant-loop-j
invariant-loop-j l = l.values.items ≡ l.fn.values.items ++ in_rows l.columns l.j (at l.pattern l.n)
