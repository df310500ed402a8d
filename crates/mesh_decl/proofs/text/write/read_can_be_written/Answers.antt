use Rattle.mesh_decl.proofs.text.RoundTrip.{spelled_again}
use Rattle.mesh_decl.proofs.text.write.read_can_be_written.Goals as goal

pub returns : goal.returns
returns c = spelled_again
