use Rattle.std.specs.List.{flat_map}
use Rattle.mesh_gen.specs.Grid.{below}
use Rattle.mesh_gen.specs.Places.{at}
use Rattle.mesh_gen.proofs.Rows.{place_more}
use Rattle.mesh_gen.proofs.places.put_rows.Goals as goal

pub loop-j-preserved : goal.loop-j-preserved
loop-j-preserved c =
    place_more (λ j. flat_map (λ i. at c.args.pattern c.args.n i j) (below c.args.columns)) c.loop-j.j c.args.values.now.items
    c.loop-j.values.items c.put_row.new.values.items c.loop-j.invariant c.in_ok-put_row.ensures
