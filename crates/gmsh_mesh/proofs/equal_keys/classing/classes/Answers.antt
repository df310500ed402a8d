use Rattle.std.proofs.Common.{◌≤◌, length, arith}
use Rattle.gmsh_mesh.proofs.equal_keys.Points.{classes_from}
use Rattle.gmsh_mesh.proofs.equal_keys.classing.classes.Goals as goal
use Rattle.lemmas.proofs.Lists.{permuted_at}

pub returns : goal.returns
returns c =
    let past : length c.args.keys.now ≤ c.loop-key.key-index = c.loop-key-test.false in
    classes_from c.args.keys.now c.in_ok-sorted.sorted.items c.loop-key.of.items (omega arith) c.in_ok-sorted.ensures.size
    (permuted_at c.args.keys.now c.in_ok-sorted.sorted.items c.in_ok-sorted.ensures.size c.in_ok-sorted.ensures.there)
    (λ i lt. c.loop-key.invariant.points i (omega arith))
