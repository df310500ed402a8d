use Rattle.std.proofs.Common.{arith}
use Rattle.gmsh_mesh.proofs.equal_keys.Taking.{all-taken}
use Rattle.gmsh_mesh.proofs.equal_keys.pairing.mates.Goals as goal

pub returns-clause-mates : goal.returns-clause-mates
returns-clause-mates c = all-taken c.args.keys.now _ _ _ (omega arith) c.loop-place.invariant
