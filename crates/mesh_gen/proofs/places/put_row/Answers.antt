use Rattle.mesh_gen.specs.Places.{at}
use Rattle.mesh_gen.proofs.Rows.{place_more}
use Rattle.mesh_gen.proofs.places.put_row.Goals as goal

pub loop-i-preserved : goal.loop-i-preserved
loop-i-preserved c =
    place_more (λ i. at c.args.pattern c.args.n i c.args.j) c.loop-i.i c.args.values.now.items c.loop-i.values.items c.put_place.new.values.items c.loop-i.invariant c.in_ok-put_place.ensures
