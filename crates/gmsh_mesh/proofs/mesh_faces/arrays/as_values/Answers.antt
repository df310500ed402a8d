use Rattle.std.proofs.Common.{◌∙◌, ◌++◌, ◌∷◌, [], ap, arith, get_or, pos, w32}
use Rattle.std.proofs.lemmas.Int.{to_z_pos}
use Rattle.gmsh_mesh.proofs.mesh_faces.Steps.{map-more, map-all}
use Rattle.gmsh_mesh.proofs.mesh_faces.arrays.as_values.Goals as goal

pub loop-at-preserved : goal.loop-at-preserved
loop-at-preserved c =
    map-more c.args.numbers.now c.loop-at.at c.loop-at.values.items _ pos (omega arith) c.loop-at.invariant
    (c.in_ok-push.ensures.items ∙ ap (λ z. c.loop-at.values.items ++ z ∷ []) (to_z_pos w32 (get_or c.args.numbers.now c.loop-at.at 0) (c.requires c.loop-at.at (omega arith))))

pub returns : goal.returns
returns c = map-all c.args.numbers.now c.loop-at.at c.loop-at.values.items pos (omega arith) c.loop-at.invariant
