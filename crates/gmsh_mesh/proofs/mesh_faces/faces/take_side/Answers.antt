use Rattle.gmsh_mesh.proofs.mesh_faces.Selecting.{takes-inner, takes-outer, takes-none}
use Rattle.gmsh_mesh.proofs.mesh_faces.faces.take_side.Goals as goal

pub returns-then-side-mate : goal.returns-then-side-mate
returns-then-side-mate c = takes-inner c.args.mates.now c.args.side _ _ c.requires.so_far _ c.if-side-mate.true c.in_ok-push.ensures.items

pub returns-then-side-mate-2 : goal.returns-then-side-mate-2
returns-then-side-mate-2 c = takes-outer c.args.mates.now c.args.side _ _ c.requires.so_far _ c.if-side-mate-2.true c.in_ok-push-2.ensures.items

pub returns : goal.returns
returns c = takes-none c.args.mates.now c.args.side _ _ c.requires.so_far c.if-side-mate.false c.if-side-mate-2.false
