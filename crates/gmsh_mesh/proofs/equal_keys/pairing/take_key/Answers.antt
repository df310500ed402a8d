use Rattle.gmsh_mesh.proofs.equal_keys.Taking.{take-new, take-second, take-third}
use Rattle.gmsh_mesh.proofs.equal_keys.pairing.take_key.Goals as goal

pub returns-then-of-other : goal.returns-then-of-other
returns-then-of-other c =
    take-third c.args.keys.now c.args.place c.args.seen.now c.args.of.now c.requires.so_far c.requires.within c.requires.below c.in-Some.other c.in-Some.is c.if-of-other.true

pub returns-in-None : goal.returns-in-None
returns-in-None c =
    take-new c.args.keys.now c.args.place c.args.seen.now c.args.of.now c.requires.so_far c.requires.within c.requires.below c.in-None.is

pub returns-else-of-other : goal.returns-else-of-other
returns-else-of-other c =
    take-second c.args.keys.now c.args.place c.args.seen.now c.args.of.now c.requires.so_far c.requires.within c.requires.below c.in-Some.other c.in-Some.is c.if-of-other.false
