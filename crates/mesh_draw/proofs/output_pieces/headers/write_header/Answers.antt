use Rattle.mesh_draw.proofs.output_pieces.Cutting.{header_written}
use Rattle.mesh_draw.proofs.output_pieces.headers.write_header.Goals as goal

pub returns : goal.returns
returns c =
    header_written c.put_numbers.result c.clear.new.self.items c.put_names.new.out.items c.put_numbers.new.out.items c.args.file.now c.args.mesh.now c.args.dat
    c.clear.ensures.items c.in_ok-put_names.ensures c.put_numbers.ensures
