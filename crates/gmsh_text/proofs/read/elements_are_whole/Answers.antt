use Rattle.gmsh_text.proofs.Wholes.{outcome-whole}
use Rattle.gmsh_text.proofs.read.elements_are_whole.Goals as goal

pub returns : goal.returns
returns c = outcome-whole
