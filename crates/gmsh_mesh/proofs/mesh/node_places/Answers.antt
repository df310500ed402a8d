use Rattle.std.proofs.Common.{◌≡◌, []}
use Rattle.gmsh_mesh.specs.Numbers.{NumbersAre}
use Rattle.gmsh_mesh.specs.Coordinates.{places_behind}
use Rattle.gmsh_mesh.proofs.Staging.{side-by-side, answered}
use Rattle.gmsh_mesh.proofs.mesh.node_places.Goals as goal

pub returns : goal.returns
returns c =
    let t = c.args.text.now in
    side-by-side (λ v. v.items) (λ v. v.items) (NumbersAre t.nodes.tags [] [] 1) (λ x. x ≡ places_behind c.args.dim c.args.scale [] t.nodes.points)
    c.numbered-none.result c.coordinates-x.result c.both.result c.both.ensures (rw c.tags-tags.ensures at c.numbered-none.ensures)
    (answered c.coordinates-x.result (λ v. v.items) (places_behind c.args.dim c.args.scale [] t.nodes.points) (rw c.points.ensures at c.coordinates-x.ensures))
