use Rattle.mesh_decl.proofs.text.RoundTrip.{spelled}
use Rattle.mesh_decl.proofs.text.write.written_is_spelled.Goals as goal

pub returns : goal.returns
returns c = spelled c.printed_is_read.ensures c.number_is_read.ensures c.lines_are_cut.ensures
