use Rattle.std.proofs.Common.{ℕ, ℤ, ◌+◌, ◌*◌, ◌<◌, List, ◌++◌, length, sym, ap, subst, ◌∙◌}
use Rattle.mesh_decl.specs.Mesh.{target}
use Rattle.mesh_draw.specs.Picture.{point_text}
use Rattle.mesh_draw.proofs.picture.Points.{both_within, joined_more}
use Rattle.mesh_draw.proofs.picture.polygons.put_points.Goals as goal

pub put_point-requires : goal.put_point-requires
put_point-requires c =
    subst (λ (zs : List ℤ). c.target-node.result * 2 + 1 < length zs) (sym c.dat_values-values.ensures)
    (both_within c.args.mesh.now c.args.shape c.target-node.result c.is_in_range.ensures c.requires.plane c.target-node.ensures.within)

pub loop-place-preserved : goal.loop-place-preserved
loop-place-preserved c =
    let f : List ℤ → ℕ → List ℕ =
    λ zs place. point_text c.args.frame zs (target c.args.mesh.now c.args.shape.cells c.args.cell place) in
    joined_more (f c.dat_values-values.result.now) c.loop-place.place c.args.out.now.items c.loop-place.out.items c.put_gap.new.out.items
    c.put_point.new.out.items c.loop-place.invariant c.in_ok-put_gap.ensures
    (c.in_ok-put_point.ensures
    ∙ ap (λ node. c.put_gap.new.out.items ++ point_text c.args.frame c.dat_values-values.result.now node) c.target-node.ensures.value)
