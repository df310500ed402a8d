use Rattle.mesh_decl.specs.Mesh.{target}
use Rattle.mesh_draw.proofs.vtk_texts.Sections.{number_more}
use Rattle.mesh_draw.proofs.vtk_texts.grid.put_nodes.Goals as goal

pub loop-place-preserved : goal.loop-place-preserved
loop-place-preserved c =
    number_more (target c.args.mesh.now c.args.shape.cells c.args.cell) c.loop-place.place c.target.result c.args.out.now.items
    c.loop-place.out.items c.extend_from_slice.new.self.items c.put_u64.new.out.items c.loop-place.invariant
    c.in_ok-extend_from_slice.ensures.items c.in_ok-put_u64.ensures.ok c.target.ensures.value
