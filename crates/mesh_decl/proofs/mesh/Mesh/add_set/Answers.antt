use Rattle.std.proofs.Common.{◌<◌, length, rules}
use Rattle.mesh_decl.proofs.Declared.{with_set}
use Rattle.mesh_decl.proofs.mesh.Mesh.add_set.Goals as goal

pub invariant_of-self-2 : goal.invariant_of-self-2
invariant_of-self-2 c =
    let few : length c.self.inside.sets.items < 4294967295 = search rules in
    rw c.in_ok-push.ensures.items (with_set _ (record { name = c.args.name; size = c.args.size }) c.self.invariant few c.ranges.size.fits)
