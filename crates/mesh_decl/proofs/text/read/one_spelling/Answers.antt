use Rattle.mesh_decl.proofs.text.Exact.{one-spelling}
use Rattle.mesh_decl.proofs.text.read.one_spelling.Goals as goal

pub returns : goal.returns
returns c = one-spelling
