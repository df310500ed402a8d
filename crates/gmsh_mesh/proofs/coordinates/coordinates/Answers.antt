use Rattle.std.proofs.Common.{◌∙◌, arith}
use Rattle.gmsh_mesh.proofs.Placing.{at-more, at-refused, at-end, told, or-else}
use Rattle.gmsh_mesh.proofs.coordinates.coordinates.Goals as goal

pub returns-in_err-push_point : goal.returns-in_err-push_point
returns-in_err-push_point c =
    told c.from_residual-in_err-push_point.result _ _ _ c.from_residual-in_err-push_point.ensures.1
    (or-else _ _ _ c.loop-at.invariant
    (at-refused c.args.dim c.args.scale c.loop-at.all.items c.args.points.now c.loop-at.at c.index-points-at.result _ (omega arith) c.index-points-at.is c.in_err-push_point.ensures))

pub loop-at-preserved : goal.loop-at-preserved
loop-at-preserved c =
    c.loop-at.invariant
    ∙ at-more c.args.dim c.args.scale c.loop-at.all.items c.args.points.now c.loop-at.at c.index-points-at.result c.push_point.new.all.items
    (omega arith) c.index-points-at.is c.in_ok-push_point.ensures

pub returns : goal.returns
returns c = c.loop-at.invariant ∙ at-end c.args.dim c.args.scale c.loop-at.all.items c.args.points.now c.loop-at.at (omega arith)
