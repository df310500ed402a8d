use Rattle.std.proofs.Common.{codes}
use Rattle.mesh_draw.proofs.vtk_texts.Sections.{three_put}
use Rattle.mesh_draw.proofs.vtk_texts.text.put_header.Goals as goal

pub returns : goal.returns
returns c =
    three_put c.args.out.now.items (codes "# vtk DataFile Version 3.0\n") c.args.title.now (codes "\nASCII\nDATASET UNSTRUCTURED_GRID\n")
    c.extend_from_slice.new.self.items c.extend_from_slice-2.new.self.items c.extend_from_slice-3.new.self.items
    c.in_ok-extend_from_slice.ensures.items c.in_ok-extend_from_slice-2.ensures.items c.in_ok-extend_from_slice-3.ensures.items
