use Rattle.std.proofs.Common.{ap, is_some}
use Rattle.gmsh_mesh.proofs.tag_places.Holding.{again, hold}
use Rattle.gmsh_mesh.proofs.tag_places.finding.hold_class.Goals as goal

pub returns-in-Some : goal.returns-in-Some
returns-in-Some c =
    again c.args.of.now c.args.count c.args.place c.args.holders.now c.requires.so_far c.requires.within.0 c.requires.below (ap is_some c.in-Some.is)

pub returns-in-None : goal.returns-in-None
returns-in-None c =
    hold c.args.of.now c.args.count c.args.place c.args.holders.now c.requires.so_far c.requires.within.0 c.requires.below c.in-None.is
