use Rattle.mesh_draw.proofs.output_pieces.Unique.{one_piece}
use Rattle.mesh_draw.proofs.output_pieces.laws.pieces_are_one.Goals as goal

pub returns : goal.returns
returns c = one_piece
