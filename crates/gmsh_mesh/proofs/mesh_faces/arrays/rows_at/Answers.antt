use Rattle.std.proofs.Common.{◌≡◌, ◌+◌, ◌-◌, ◌*◌, ◌∙◌, ◌++◌, ap, take, drop, get_or, arith}
use Rattle.gmsh_mesh.specs.Nodes.{row}
use Rattle.gmsh_mesh.proofs.mesh_faces.Steps.{flat-more, flat-all}
use Rattle.gmsh_mesh.proofs.mesh_faces.arrays.rows_at.Goals as goal

pub loop-at-preserved : goal.loop-at-preserved
loop-at-preserved c =
    let p = get_or c.args.places.now c.loop-at.at 0 in
    let same : p * c.args.width + c.args.width - p * c.args.width ≡ c.args.width = omega arith in
    flat-more c.args.places.now c.loop-at.at c.loop-at.all.items _ (row c.args.rows.now c.args.width) (omega arith) c.loop-at.invariant
    (c.in_ok-extend_from_slice.ensures.items ∙ ap (λ n. c.loop-at.all.items ++ take n (drop (p * c.args.width) c.args.rows.now)) same)

pub returns : goal.returns
returns c = flat-all c.args.places.now c.loop-at.at c.loop-at.all.items (row c.args.rows.now c.args.width) (omega arith) c.loop-at.invariant
