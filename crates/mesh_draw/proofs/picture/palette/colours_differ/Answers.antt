use Rattle.mesh_draw.proofs.picture.ColourLemmas.{differ}
use Rattle.mesh_draw.proofs.picture.palette.colours_differ.Goals as goal

pub returns : goal.returns
returns c = differ
